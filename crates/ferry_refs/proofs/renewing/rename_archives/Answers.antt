use Rattle.std.proofs.Common.{◌≡◌, ◌<◌, List, ℕ, IsSome, [], length, take, get_or, refl, sym, ◌∙◌, ap, subst, arith}
use Rattle.std.proofs.lemmas.List.{take_all}
use Rattle.ferry_refs.proofs.DropLemmas.{all_get}
use Rattle.ferry_refs.proofs.RenamedLemmas.{names_in, renamed_next, still_named}
use Rattle.ferry_refs.proofs.renewing.rename_archives.Goals as goal
use Rattle.ferry_refs.specs.TagSteps.{IsNamedIn}
use Rattle.ferry_refs.specs.Tagging.{renewed, renewed_entries, renewed_entry, with_renewed}
use Rattle.ferry_refs.specs.declared.untagged.Untagged.{Untagged}
use Rattle.ferry_manifest.specs.Manifest.Text.{ManifestText}
use Rattle.ferry_repo.specs.Archives.{archive_named}
use Rattle.ferry_store.specs.Commit.{accepted_in}
use Rattle.ferry_store.specs.declared.store.Store.{Store}

pub loop-place-init : goal.loop-place-init
loop-place-init c = record { renamed = refl; rest = refl; packable = c.requires.packable; still = λ name some. some }

pub rename_archive-requires-clause-named : goal.rename_archive-requires-clause-named
rename_archive-requires-clause-named c =
    let manifest = accepted_in c.args.store.now in
    let one = c.index-untagged-place.result in
    c.loop-place.invariant.still (get_or c.args.untagged.now c.loop-place.place one).named.name
    (all_get (λ (u : Untagged). IsNamedIn manifest u.named) c.args.untagged.now c.loop-place.place one c.requires.named (omega arith))

pub loop-place-preserved : goal.loop-place-preserved
loop-place-preserved c =
    let manifest = accepted_in c.args.store.now in
    let accepted = accepted_in c.loop-place.store in
    let next = accepted_in c.rename_archive.new.store in
    let untagged = c.args.untagged.now in
    let ids = c.args.ids.now in
    let place = c.loop-place.place in
    let one = get_or untagged place c.index-untagged-place.result in
    let at = ap (λ (u : Untagged). get_or untagged place u) c.index-untagged-place.is in
    let lt : place < length untagged = omega arith in
    let id_lt : place < length ids = omega (arith, c.requires.one_each) in
    let is : next ≡ with_renewed accepted (renewed_entry one.named (get_or ids place [])) = c.in_ok-rename_archive.ensures.renamed in
    record {
      renamed = renamed_next manifest accepted next untagged ids place one [] at lt id_lt c.loop-place.invariant.renamed is;
      rest = c.rename_archive.ensures.rest
          ∙ ap (λ (s : Store). record s { accepted = c.rename_archive.new.store.accepted }) c.loop-place.invariant.rest;
      packable = c.rename_archive.ensures.packable;
      still = λ name some. subst (λ (m : ManifestText). IsSome (archive_named name m.archives)) (sym is)
          (still_named name accepted (renewed_entry one.named (get_or ids place [])) (c.loop-place.invariant.still name some));
    }

pub returns-clause-renamed : goal.returns-clause-renamed
returns-clause-renamed c =
    let manifest = accepted_in c.args.store.now in
    let untagged = c.args.untagged.now in
    let ids = c.args.ids.now in
    let place = c.loop-place.place in
    c.loop-place.invariant.renamed
    ∙ (ap (λ (us : List Untagged). renewed manifest (renewed_entries (names_in us) (take place ids))) (take_all place untagged (omega arith))
    ∙ ap (λ (is : List (List ℕ)). renewed manifest (renewed_entries (names_in untagged) is)) (take_all place ids (omega (arith, c.requires.one_each))))

pub returns-in_err-rename_archive-clause-rest : goal.returns-in_err-rename_archive-clause-rest
returns-in_err-rename_archive-clause-rest c =
    c.rename_archive.ensures.rest
    ∙ ap (λ (s : Store). record s { accepted = c.rename_archive.new.store.accepted }) c.loop-place.invariant.rest
