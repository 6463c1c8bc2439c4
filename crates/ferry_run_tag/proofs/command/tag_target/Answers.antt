use Rattle.std.proofs.Common.{◌⊎◌, inl, ℕ, List, Option, Result, IfErr, IfSome, subst}
use Rattle.std.proofs.lemmas.Result.{IfErr-weaker}
use Rattle.ferry_run_tag.specs.Tag.{BreaksRecord, LeavesArchives}
use Rattle.ferry_disk.specs.Device.{told_files}
use Rattle.ferry_disk.specs.Moments.{Between}
use Rattle.ferry_piece.proofs.WorkLemmas.{err_is}
use Rattle.ferry_piece.specs.Fault.{IsOfReading, IsOfWork, target_fault}
use Rattle.ferry_piece.specs.Work.{Works}
use Rattle.ferry_piece.specs.declared.fault.CarryFault.{CarryFault}
use Rattle.ferry_refs.specs.Deleting.{time_of}
use Rattle.ferry_refs.specs.Tagging.{RefusesTagging, Tags, TagsSound}
use Rattle.ferry_repo.specs.Opening.{repo_view}
use Rattle.ferry_run_tag.proofs.CauseLemmas.{untagged_refused, unwritten_then}
use Rattle.ferry_run_tag.proofs.EndLemmas.{tagged_works, unopened_left, unopened_works, untagged_left}
use Rattle.ferry_run_tag.proofs.command.tag_target.Goals as goal
use Rattle.ferry_run_tag.specs.Steps.{GetsTags}
use Rattle.ferry_run_tag.proofs.ShowLemmas.{TagEach, tagging}
use Rattle.ferry_status.proofs.OpenedLemmas.{opened_then, has_number, unopened_number}
use Rattle.ferry_status.specs.Opened.{LeavesAll, NeedsNumber}
use Rattle.ferry_store.proofs.UseLemmas.{fits_opened}
use Rattle.ferry_store.specs.Store.{OpenEach, OpenFits}
use Rattle.ferry_write.specs.Front.{OnlyRemoves}

pub returns-in_err-store-clause-works : goal.returns-in_err-store-clause-works
returns-in_err-store-clause-works g c =
    let asked = tagging c.args.secret.now c.args.timestamp.now (g.E.Entropy.drawn c.args.entropy.now) (g.E.Entropy.drawn c.args.entropy.now) in
    let a = g.D.Shelf.told c.args.target.now in
    let b = g.D.Shelf.told c.open.new.depot in
    let n = g.D.Shelf.faults c.args.target.now in
    let m = g.D.Shelf.faults c.open.new.depot in
    let refusal = c.in_err-store.field-0.0 in
    err_is c.from_residual.result (target_fault refusal)
    (λ (r : Result ℕ CarryFault). Works (TagEach asked) (GetsTags asked.secret asked.timestamp asked.drawn asked.drawn_now) a b n m r) c.from_residual.ensures.1
    (unopened_works asked OpenFits a b n m refusal c.in_err-store.ensures.untold c.in_err-store.ensures.did)

pub returns-in_err-store-clause-kept : goal.returns-in_err-store-clause-kept
returns-in_err-store-clause-kept g c =
    let asked = tagging c.args.secret.now c.args.timestamp.now (g.E.Entropy.drawn c.args.entropy.now) (g.E.Entropy.drawn c.args.entropy.now) in
    let a = g.D.Shelf.told c.args.target.now in
    let b = g.D.Shelf.told c.open.new.depot in
    err_is c.from_residual.result (target_fault c.in_err-store.field-0.0)
    (λ (r : Result ℕ CarryFault). IfErr r (λ (f : CarryFault). IsOfWork f → Between a b (LeavesAll asked.secret (LeavesArchives asked.secret asked.timestamp))))
    c.from_residual.ensures.1
    (λ work. unopened_left asked a b c.in_err-store.ensures.untold c.in_err-store.ensures.did.each)

pub tag_archives-requires-clause-fits : goal.tag_archives-requires-clause-fits
tag_archives-requires-clause-fits g c =
    fits_opened OpenEach c.in_ok-store.store (g.D.Shelf.told c.args.target.now) (g.D.Shelf.told c.open.new.depot) (g.D.Shelf.faults c.args.target.now)
    (g.D.Shelf.faults c.open.new.depot) c.requires.begun c.in_ok-store.ensures.did

pub returns-clause-works : goal.returns-clause-works
returns-clause-works g c =
    let asked = tagging c.args.secret.now c.args.timestamp.now (g.E.Entropy.drawn c.args.entropy.now) (g.E.Entropy.drawn c.tag_archives.new.entropy) in
    let store = c.in_ok-store.store in
    let now = c.tag_archives.new.store in
    let manifest = (repo_view store.repo).manifest in
    let b = g.D.Shelf.told c.open.new.depot in
    let d = g.D.Shelf.told c.tag_archives.new.depot in
    let m = g.D.Shelf.faults c.open.new.depot in
    let k = g.D.Shelf.faults c.tag_archives.new.depot in
    tagged_works asked store now (g.D.Shelf.told c.args.target.now) b d (g.D.Shelf.faults c.args.target.now) m k c.tag_archives.result
    c.in_ok-store.ensures.opened c.in_ok-store.ensures.untold c.in_ok-store.ensures.removes
    c.in_ok-store.ensures.did c.tag_archives.ensures.untold
    (subst (λ (t : Option (List ℕ)). Works (TagsSound (time_of t manifest) store) (Tags (time_of t manifest) asked.drawn asked.drawn_now store now) b d m k
    c.tag_archives.result) c.time_of-time.ensures c.tag_archives.ensures.works)

pub returns-clause-refused : goal.returns-clause-refused
returns-clause-refused g c =
    let asked = tagging c.args.secret.now c.args.timestamp.now (g.E.Entropy.drawn c.args.entropy.now) (g.E.Entropy.drawn c.tag_archives.new.entropy) in
    let store = c.in_ok-store.store in
    let repo = repo_view store.repo in
    let a = g.D.Shelf.told c.args.target.now in
    let b = g.D.Shelf.told c.open.new.depot in
    let d = g.D.Shelf.told c.tag_archives.new.depot in
    IfErr-weaker c.tag_archives.result _ _
    (λ fault refused. untagged_refused asked store a b d fault c.in_ok-store.ensures.opened c.in_ok-store.ensures.did.end
    (subst (λ (t : Option (List ℕ)). IfSome b (λ u. RefusesTagging (told_files u) repo
    (time_of t repo.manifest) asked.drawn asked.drawn_now d fault)) c.time_of-time.ensures
    refused))
    c.tag_archives.ensures.refused

pub returns-clause-kept : goal.returns-clause-kept
returns-clause-kept g c =
    let asked = tagging c.args.secret.now c.args.timestamp.now (g.E.Entropy.drawn c.args.entropy.now) (g.E.Entropy.drawn c.tag_archives.new.entropy) in
    let store = c.in_ok-store.store in
    let now = c.tag_archives.new.store in
    let manifest = (repo_view store.repo).manifest in
    let a = g.D.Shelf.told c.args.target.now in
    let b = g.D.Shelf.told c.open.new.depot in
    let d = g.D.Shelf.told c.tag_archives.new.depot in
    let n = g.D.Shelf.faults c.args.target.now in
    let m = g.D.Shelf.faults c.open.new.depot in
    let k = g.D.Shelf.faults c.tag_archives.new.depot in
    let works = tagged_works asked store now a b d n m k c.tag_archives.result
    c.in_ok-store.ensures.opened c.in_ok-store.ensures.untold c.in_ok-store.ensures.removes
    c.in_ok-store.ensures.did c.tag_archives.ensures.untold
    (subst (λ (t : Option (List ℕ)). Works (TagsSound (time_of t manifest) store) (Tags (time_of t manifest) asked.drawn asked.drawn_now store now) b d m k
    c.tag_archives.result) c.time_of-time.ensures c.tag_archives.ensures.works) in
    IfErr-weaker c.tag_archives.result _ _
    (λ fault keeps work. untagged_left asked store a b d n m c.in_ok-store.ensures.opened c.in_ok-store.ensures.untold
    c.in_ok-store.ensures.removes c.in_ok-store.ensures.did
    c.tag_archives.ensures.untold (keeps work) works.each)
    c.tag_archives.ensures.keeps

pub returns-in_err-store-clause-shut : goal.returns-in_err-store-clause-shut
returns-in_err-store-clause-shut g c = c.open.ensures.kept

pub returns-clause-shut : goal.returns-clause-shut
returns-clause-shut g c =
    opened_then c.args.secret.now (repo_view c.in_ok-store.store.repo) (g.D.Shelf.told c.args.target.now) (g.D.Shelf.told c.open.new.depot)
    (g.D.Shelf.told c.tag_archives.new.depot) _ _ c.in_ok-store.ensures.opened c.in_ok-store.ensures.numbered c.in_ok-store.ensures.did.each
    c.tag_archives.ensures.works.each

pub returns-in_err-store-clause-number : goal.returns-in_err-store-clause-number
returns-in_err-store-clause-number g c =
    let refusal = c.in_err-store.field-0.0 in
    err_is c.from_residual.result (target_fault refusal)
    (λ (r : Result ℕ CarryFault). NeedsNumber (λ fault. ⊥) c.args.secret.now (g.D.Shelf.told c.args.target.now) r)
    c.from_residual.ensures.1
    (unopened_number ℕ (λ fault. ⊥) c.args.secret.now (g.D.Shelf.told c.args.target.now) refusal c.in_err-store.ensures.refused)

pub returns-clause-number : goal.returns-clause-number
returns-clause-number g c =
    has_number {T = ℕ} (λ fault. ⊥) c.args.secret.now (g.D.Shelf.told c.args.target.now) _ c.in_ok-store.ensures.numbered

pub returns-in_err-store-clause-unwritten : goal.returns-in_err-store-clause-unwritten
returns-in_err-store-clause-unwritten g c =
    let a = g.D.Shelf.told c.args.target.now in
    let b = g.D.Shelf.told c.open.new.depot in
    let drawn = g.E.Entropy.drawn c.args.entropy.now in
    err_is c.from_residual.result (target_fault c.in_err-store.field-0.0)
    (λ (r : Result ℕ CarryFault). IfErr r (λ (f : CarryFault). IsOfReading f → Between a b OnlyRemoves ⊎ BreaksRecord c.args.secret.now drawn drawn a b f))
    c.from_residual.ensures.1
    (λ of. inl c.in_err-store.ensures.removes)

pub returns-clause-unwritten : goal.returns-clause-unwritten
returns-clause-unwritten g c =
    let asked = tagging c.args.secret.now c.args.timestamp.now (g.E.Entropy.drawn c.args.entropy.now) (g.E.Entropy.drawn c.tag_archives.new.entropy) in
    IfErr-weaker c.tag_archives.result _ _
    (λ fault unwritten of. unwritten_then asked c.in_ok-store.store (g.D.Shelf.told c.args.target.now) (g.D.Shelf.told c.open.new.depot)
    (g.D.Shelf.told c.tag_archives.new.depot) fault c.requires.begun c.in_ok-store.ensures.opened c.in_ok-store.ensures.did.end c.in_ok-store.ensures.removes
    (unwritten of))
    c.tag_archives.ensures.unwritten
