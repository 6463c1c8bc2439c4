use Rattle.std.proofs.Common.{◌≡◌, ◌+◌, ◌<◌, ℕ, List, [], ◌∷◌, ◌++◌, length, take, get_or, Result, Vec, Global, Ok, Err, IfErr, IfOk, IfSome, refl, sym, ◌∙◌}
use Rattle.std.proofs.Common.{ap, subst, arith, inl}
use Rattle.std.proofs.lemmas.List.{take_all}
use Rattle.std.proofs.lemmas.Option.{IfSome_then}
use Rattle.ferry_disk.proofs.DeviceLemmas.{told_any}
use Rattle.ferry_manifest.specs.Record.Text.{archive_view}
use Rattle.ferry_manifest.specs.Record.Writing.{IsPackableArchive}
use Rattle.ferry_mac.specs.declared.keys.Keys.{Keys}
use Rattle.ferry_piece.proofs.WorkLemmas.{err_is, works_as, works_front}
use Rattle.ferry_piece.specs.Work.{Works}
use Rattle.ferry_piece.specs.declared.fault.CarryFault.{CarryFault}
use Rattle.ferry_piece.specs.declared.fault.CarryFault.TheVariants as Carry
use Rattle.ferry_repo.specs.Opening.{repo_view}
use Rattle.ferry_stops.specs.Tells.{TellsNothing}
use Rattle.ferry_store.proofs.StepLemmas.{here_each}
use Rattle.ferry_refs.proofs.AddLemmas.{AddedTexts, added_more, added_none, both_works, one_of, some_back, works_spent}
use Rattle.ferry_refs.proofs.DropLemmas.{all_get, untold_then}
use Rattle.ferry_refs.proofs.RenewLemmas.{repo_here, repo_then}
use Rattle.ferry_refs.proofs.renewing.add_records.Goals as goal
use Rattle.ferry_refs.specs.Deleting.{LeavesCommitted}
use Rattle.ferry_refs.specs.TagSteps.{AddsTexts, RefusesNewRecord, RefusesSome, olds_view}
use Rattle.ferry_refs.specs.Tagging.{DrawsRenewals, ids_under}
use Rattle.ferry_refs.specs.declared.untagged.Untagged.{Untagged}

pub loop-place-init : goal.loop-place-init
loop-place-init g c = record {
  added = subst (λ (ids : List (List ℕ)). AddedTexts (repo_view c.args.store.now.repo).keys [] ids c.args.store.now c.args.store.now
      (g.D.Shelf.told c.args.depot.now) (g.D.Shelf.told c.args.depot.now) (g.D.Shelf.faults c.args.depot.now) (g.D.Shelf.faults c.args.depot.now)
      (g.E.Entropy.drawn c.args.entropy.now) (g.E.Entropy.drawn c.args.entropy.now)) (sym c.new-ids.ensures.items)
      (added_none (repo_view c.args.store.now.repo).keys c.args.store.now (g.D.Shelf.told c.args.depot.now) (g.D.Shelf.faults c.args.depot.now)
      (g.E.Entropy.drawn c.args.entropy.now));
  untold = here_each TellsNothing (g.D.Shelf.told c.args.depot.now) (λ h. refl);
  repo = repo_here (repo_view c.args.store.now.repo);
  accepted = refl;
  unspent = c.requires.unspent;
  fits = c.requires.fits;
  entropy = refl;
}

pub add_record-requires-clause-packable : goal.add_record-requires-clause-packable
add_record-requires-clause-packable g c =
    all_get (λ (u : Untagged). IsPackableArchive (archive_view u.archive)) c.args.untagged.now c.loop-place.place c.index-untagged-place.result
    c.requires.packable (omega arith)

pub loop-place-preserved : goal.loop-place-preserved
loop-place-preserved g c =
    let store = c.args.store.now in
    let middle = c.loop-place.store in
    let now = c.add_record.new.store in
    let untagged = c.args.untagged.now in
    let place = c.loop-place.place in
    let id = c.in_ok-id.id in
    let a = g.D.Shelf.told c.args.depot.now in
    let b = g.D.Shelf.told c.loop-place.depot in
    let e = g.D.Shelf.told c.add_record.new.depot in
    let n = g.D.Shelf.faults c.args.depot.now in
    let m = g.D.Shelf.faults c.loop-place.depot in
    let k = g.D.Shelf.faults c.add_record.new.depot in
    let lt : place < length untagged = omega arith in
    let one = c.in_ok-id.ensures.added in
    let some = added_more {T = List ℕ} store middle now untagged place (get_or untagged place c.index-untagged-place.result)
    c.loop-place.ids.items one.0 id a b e n m k id (g.E.Entropy.drawn c.args.entropy.now) (g.E.Entropy.drawn c.loop-place.entropy)
    (g.E.Entropy.drawn c.add_record.new.entropy) lt
    (ap (λ (u : Untagged). get_or untagged place u) c.index-untagged-place.is) c.loop-place.invariant.repo.keys c.loop-place.invariant.added
    one.1.0 one.1.1.0 one.1.1.1 in
    record {
      added = subst (λ (l : List (List ℕ)). AddedTexts (repo_view store.repo).keys (olds_view (take (place + 1) untagged)) l store now a e n k
          (g.E.Entropy.drawn c.args.entropy.now) (g.E.Entropy.drawn c.add_record.new.entropy))
          (sym c.in_ok-push.ensures.items) some;
      untold = untold_then a b e c.loop-place.invariant.untold c.add_record.ensures.untold;
      repo = repo_then (repo_view store.repo) (repo_view middle.repo) (repo_view now.repo) c.loop-place.invariant.repo c.in_ok-id.ensures.repo;
      accepted = c.in_ok-id.ensures.accepted ∙ c.loop-place.invariant.accepted;
      unspent = c.in_ok-id.ensures.unspent;
      fits = c.in_ok-id.ensures.fits;
      entropy = c.in_ok-id.ensures.entropy ∙ c.loop-place.invariant.entropy;
    }

pub returns-in_err-id-clause-added : goal.returns-in_err-id-clause-added
returns-in_err-id-clause-added g c =
    let store = c.args.store.now in
    let middle = c.loop-place.store in
    let now = c.add_record.new.store in
    let keys = (repo_view store.repo).keys in
    let olds = olds_view c.args.untagged.now in
    let a = g.D.Shelf.told c.args.depot.now in
    let b = g.D.Shelf.told c.loop-place.depot in
    let e = g.D.Shelf.told c.add_record.new.depot in
    let n = g.D.Shelf.faults c.args.depot.now in
    let m = g.D.Shelf.faults c.loop-place.depot in
    let k = g.D.Shelf.faults c.add_record.new.depot in
    let fault = c.in_err-id.field-0.0 in
    let one = c.in_err-id.ensures.added in
    let some = c.loop-place.invariant.added in
    let texts = some.texts ++ one.0 ∷ [] in
    let both = both_works {T = Unit {0}} {U = List ℕ} store middle now some.texts (one.0 ∷ []) a b e n m k tt (Err fault) c.loop-place.invariant.repo.keys
    some.works one.1.0 in (
      texts,
      (
        err_is c.from_residual.result fault
            (λ (r : Result (Vec (List ℕ) Global) CarryFault). Works (LeavesCommitted store) (λ _. AddsTexts texts store now) a e n k r)
            c.from_residual.ensures.1
            (works_front (LeavesCommitted store) (λ (_ : List ℕ). AddsTexts texts store now) (LeavesCommitted store)
            (λ (_ : Vec (List ℕ) Global). AddsTexts texts store now) a e n k fault (λ h g e. e) both),
        err_is c.from_residual.result fault
            (λ (r : Result (Vec (List ℕ) Global) CarryFault). IfOk r (λ ids. DrawsRenewals keys olds texts (g.E.Entropy.drawn c.args.entropy.now)
            (g.E.Entropy.drawn c.add_record.new.entropy) × (ids.items ≡ ids_under keys texts)))
            c.from_residual.ensures.1 tt,
      ),
    )

pub returns-in_err-id-clause-untold : goal.returns-in_err-id-clause-untold
returns-in_err-id-clause-untold g c =
    untold_then (g.D.Shelf.told c.args.depot.now) (g.D.Shelf.told c.loop-place.depot) (g.D.Shelf.told c.add_record.new.depot)
    c.loop-place.invariant.untold c.add_record.ensures.untold

pub returns-in_err-id-clause-refused : goal.returns-in_err-id-clause-refused
returns-in_err-id-clause-refused g c =
    let keys = (repo_view c.args.store.now.repo).keys in
    let untagged = c.args.untagged.now in
    let place = c.loop-place.place in
    let a = g.D.Shelf.told c.args.depot.now in
    let b = g.D.Shelf.told c.loop-place.depot in
    let e = g.D.Shelf.told c.add_record.new.depot in
    let fault = c.in_err-id.field-0.0 in
    let lt : place < length untagged = omega arith in
    let drawn = g.E.Entropy.drawn c.args.entropy.now in
    let drawn_then = g.E.Entropy.drawn c.loop-place.entropy in
    let drawn_now = g.E.Entropy.drawn c.add_record.new.entropy in
    let so_far = c.loop-place.invariant.added in
    let says = RefusesSome keys (olds_view untagged) drawn drawn_now e fault in
    err_is c.from_residual.result fault
    (λ (r : Result (Vec (List ℕ) Global) CarryFault). IfErr r (λ (f : CarryFault). IfSome a (λ _. RefusesSome keys (olds_view untagged) drawn drawn_now e f)))
    c.from_residual.ensures.1
    (some_back TellsNothing a b says c.loop-place.invariant.untold
    (IfSome_then b c.in_err-id.ensures.refused (λ _ r.
    one_of keys untagged place (get_or untagged place c.index-untagged-place.result) so_far.texts drawn drawn_then drawn_now e fault lt
    (ap (λ (u : Untagged). get_or untagged place u) c.index-untagged-place.is) so_far.drew
    (subst (λ (s : Keys). RefusesNewRecord s (archive_view (get_or untagged place c.index-untagged-place.result).archive) drawn_then drawn_now e fault)
    c.loop-place.invariant.repo.keys r))))

pub returns-in_err-push-clause-added : goal.returns-in_err-push-clause-added
returns-in_err-push-clause-added g c =
    let store = c.args.store.now in
    let middle = c.loop-place.store in
    let now = c.add_record.new.store in
    let keys = (repo_view store.repo).keys in
    let olds = olds_view c.args.untagged.now in
    let a = g.D.Shelf.told c.args.depot.now in
    let b = g.D.Shelf.told c.loop-place.depot in
    let e = g.D.Shelf.told c.add_record.new.depot in
    let n = g.D.Shelf.faults c.args.depot.now in
    let m = g.D.Shelf.faults c.loop-place.depot in
    let k = g.D.Shelf.faults c.add_record.new.depot in
    let one = c.in_ok-id.ensures.added in
    let some = c.loop-place.invariant.added in
    let texts = some.texts ++ one.0 ∷ [] in
    let both = both_works {T = Unit {0}} {U = List ℕ} store middle now some.texts (one.0 ∷ []) a b e n m k tt (Ok c.in_ok-id.id)
    c.loop-place.invariant.repo.keys some.works one.1.0 in (
      texts,
      (
        err_is c.from_residual-in_err-push.result Carry.Memory
            (λ (r : Result (Vec (List ℕ) Global) CarryFault). Works (LeavesCommitted store) (λ _. AddsTexts texts store now) a e n k r)
            c.from_residual-in_err-push.ensures.1
            (works_spent (LeavesCommitted store) (λ (_ : List ℕ). AddsTexts texts store now) (λ (_ : Vec (List ℕ) Global). AddsTexts texts store now) a e n k
            c.in_ok-id.id both),
        err_is c.from_residual-in_err-push.result Carry.Memory
            (λ (r : Result (Vec (List ℕ) Global) CarryFault). IfOk r (λ ids. DrawsRenewals keys olds texts (g.E.Entropy.drawn c.args.entropy.now)
            (g.E.Entropy.drawn c.add_record.new.entropy) × (ids.items ≡ ids_under keys texts)))
            c.from_residual-in_err-push.ensures.1 tt,
      ),
    )

pub returns-in_err-push-clause-untold : goal.returns-in_err-push-clause-untold
returns-in_err-push-clause-untold g c =
    untold_then (g.D.Shelf.told c.args.depot.now) (g.D.Shelf.told c.loop-place.depot) (g.D.Shelf.told c.add_record.new.depot)
    c.loop-place.invariant.untold c.add_record.ensures.untold

pub returns-in_err-push-clause-refused : goal.returns-in_err-push-clause-refused
returns-in_err-push-clause-refused g c =
    let keys = (repo_view c.args.store.now.repo).keys in
    let olds = olds_view c.args.untagged.now in
    let a = g.D.Shelf.told c.args.depot.now in
    let e = g.D.Shelf.told c.add_record.new.depot in
    err_is c.from_residual-in_err-push.result Carry.Memory
    (λ (r : Result (Vec (List ℕ) Global) CarryFault). IfErr r (λ (f : CarryFault). IfSome a (λ _. RefusesSome keys olds (g.E.Entropy.drawn c.args.entropy.now)
    (g.E.Entropy.drawn c.add_record.new.entropy) e f)))
    c.from_residual-in_err-push.ensures.1 (told_any a (λ f. RefusesSome keys olds (g.E.Entropy.drawn c.args.entropy.now)
    (g.E.Entropy.drawn c.add_record.new.entropy) e Carry.Memory) (λ f. inl refl))

pub returns-clause-added : goal.returns-clause-added
returns-clause-added g c =
    let store = c.args.store.now in
    let now = c.loop-place.store in
    let keys = (repo_view store.repo).keys in
    let untagged = c.args.untagged.now in
    let some = c.loop-place.invariant.added in (
      some.texts,
      (
        works_as (LeavesCommitted store) (λ (_ : Unit {0}). AddsTexts some.texts store now) (LeavesCommitted store)
            (λ (_ : Vec (List ℕ) Global). AddsTexts some.texts store now) (g.D.Shelf.told c.args.depot.now) (g.D.Shelf.told c.loop-place.depot)
            (g.D.Shelf.faults c.args.depot.now) (g.D.Shelf.faults c.loop-place.depot) tt c.loop-place.ids (λ h k e. e) (λ h k e. e) some.works,
        (
          subst (λ (us : List Untagged). DrawsRenewals keys (olds_view us) some.texts (g.E.Entropy.drawn c.args.entropy.now)
              (g.E.Entropy.drawn c.loop-place.entropy))
              (take_all c.loop-place.place untagged (omega arith)) some.drew,
          some.ids_are,
        ),
      ),
    )
