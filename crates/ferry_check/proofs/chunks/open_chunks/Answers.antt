use Rattle.std.proofs.Common.{◌≡◌, ◌≤◌, ◌+◌, List, ℕ, length, drop, refl, sym, ◌∙◌, ap, subst, take, IfSome, arith, rules}
use Rattle.std.proofs.lemmas.List.{take_all, take_rest, length-drop}
use Rattle.std.specs.BTreeMap.{get, is_at}
use Rattle.std.specs.Map.{lookup}
use Rattle.ferry_disk.specs.Device.{told_files}
use Rattle.ferry_disk.proofs.DeviceLemmas.{told_same}
use Rattle.ferry_log.specs.Live.{key_cmp}
use Rattle.ferry_repo.specs.Fault.{IsOfFiles}
use Rattle.ferry_repo.specs.Lengths.{HaveLengths, RefusesOne}
use Rattle.ferry_repo.specs.Opening.{repo_view}
use Rattle.ferry_repo.specs.declared.fault.RepoFault.{RepoFault}
use Rattle.ferry_repo.proofs.FaultLemmas.{gives_err}
use Rattle.ferry_check.specs.Steps.{OpensSoFar, RefusesFirst}
use Rattle.ferry_check.proofs.ChunkLemmas.{opens_none, opens_refused, opens_all}
use Rattle.ferry_check.proofs.chunks.open_chunks.Goals as goal

pub loop-place-init : goal.loop-place-init
loop-place-init g c = record {
  opens = opens_none (g.S.Shelf.told c.args.shelf.now) (repo_view c.args.repo.now) (get key_cmp c.new-chunks.result)
      (λ q. ap (lookup (is_at (key_cmp q))) c.new-chunks.ensures.empty);
  within = omega arith;
  fits = c.requires.fits;
  same = refl;
  faults = refl;
}

pub returns-in_err-sizes-clause-refused : goal.returns-in_err-sizes-clause-refused
returns-in_err-sizes-clause-refused g c =
    let told = g.S.Shelf.told c.args.shelf.now in
    let later = g.S.Shelf.told c.loop-place.shelf in
    let repo = repo_view c.args.repo.now in
    gives_err c.from_residual.result _ _ c.from_residual.ensures.1 (λ y is of_files.
    subst (λ (f : RepoFault). IfSome told (λ t. RefusesFirst (told_files t) repo c.args.ids.now f)) (sym is)
    (opens_refused told later repo c.args.ids.now c.loop-place.place (get key_cmp c.loop-place.chunks)
    c.in_err-sizes.field-0.0 c.loop-place.invariant.same c.loop-place.invariant.opens
    (subst (λ (l : List (List ℕ)). IfSome later (λ t. RefusesOne (told_files t) repo.log repo.keys l c.in_err-sizes.field-0.0))
    (take_rest {X = List ℕ} c.args.ids.now c.loop-place.place)
    (c.in_err-sizes.ensures.refused (subst (λ (f : RepoFault). IsOfFiles f) is of_files)))))

pub loop-place-preserved : goal.loop-place-preserved
loop-place-preserved g c =
    let told = g.S.Shelf.told c.args.shelf.now in
    let repo = repo_view c.args.repo.now in
    let ids = c.args.ids.now in
    let place = c.loop-place.place in
    let sizes = c.in_ok-sizes.sizes.items in
    let shown = c.as_slice.result.now in
    let later = g.S.Shelf.told c.loop-place.shelf in
    let count : c.len-count.result ≡ length sizes = search rules in
    let more : place + length shown ≡ place + c.len-count.result = omega (arith, count, ap length c.as_slice.ensures.value) in
    let few : length sizes ≤ length (drop place ids) =
    subst (λ (l : List (List ℕ)). length sizes ≤ length l) (take_rest {X = List ℕ} ids place) c.in_ok-sizes.ensures.few in
    let lengths = told_same later told (λ f. HaveLengths f repo.log repo.keys (drop place ids) shown) (sym c.loop-place.invariant.same)
    (subst (λ (l : List ℕ). IfSome later (λ t. HaveLengths (told_files t) repo.log repo.keys (drop place ids) l)) (sym c.as_slice.ensures.value)
    (subst (λ (l : List (List ℕ)). IfSome later (λ t. HaveLengths (told_files t) repo.log repo.keys l sizes)) (take_rest {X = List ℕ} ids place)
    c.in_ok-sizes.ensures.lengths)) in
    record {
      opens = subst (λ (m : ℕ). OpensSoFar told repo (take m ids) (get key_cmp c.keep_all.new.chunks)) more
          (c.in_ok-keep_all.ensures.opens told repo c.loop-place.invariant.opens lengths);
      within = omega (arith, few, count, length-drop place ids, c.loop-place.invariant.within);
      fits = c.in_ok-sizes.ensures.fits;
      same = c.in_ok-sizes.ensures.same ∙ c.loop-place.invariant.same;
      faults = c.in_ok-sizes.ensures.cause ∙ c.loop-place.invariant.faults;
    }

pub returns-clause-opened : goal.returns-clause-opened
returns-clause-opened g c =
    opens_all (g.S.Shelf.told c.args.shelf.now) (repo_view c.args.repo.now) c.args.ids.now _ (get key_cmp c.loop-place.chunks)
    (take_all c.loop-place.place c.args.ids.now (omega arith)) c.loop-place.invariant.opens

pub returns-clause-unused : goal.returns-clause-unused
returns-clause-unused g c = c.loop-place.invariant.opens.unused
