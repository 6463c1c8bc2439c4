use Rattle.std.proofs.Common.{◌+◌, ◌<◌, List, ℕ, Ok, Result, length, take, refl, ◌∙◌, ap, subst, arith}
use Rattle.std.proofs.lemmas.List.{take_all}
use Rattle.ferry_stops.specs.Tells.{TellsNothing}
use Rattle.ferry_store.proofs.StepLemmas.{err_is, here_each}
use Rattle.ferry_store.specs.declared.fault.StoreRefusal.{StoreRefusal}
use Rattle.ferry_store.specs.declared.store.Store.{Store}
use Rattle.ferry_refs.proofs.DropLemmas.{DidDrop, dropped_front, dropped_more, dropped_none, dropped_writing, untold_then}
use Rattle.ferry_refs.proofs.dropping.drop_chunks.Goals as goal

pub loop-place-init : goal.loop-place-init
loop-place-init g c = record {
  did = dropped_none c.args.store.now (g.D.Shelf.told c.args.depot.now) (g.D.Shelf.faults c.args.depot.now);
  untold = here_each TellsNothing (g.D.Shelf.told c.args.depot.now) (λ h. refl);
  rest = refl;
  unspent = c.requires.unspent;
}

pub drop_chunk-requires-clause-fits : goal.drop_chunk-requires-clause-fits
drop_chunk-requires-clause-fits g c =
    dropped_writing c.args.store.now c.loop-place.store (take c.loop-place.place c.args.ids.now) (g.D.Shelf.told c.args.depot.now)
    (g.D.Shelf.told c.loop-place.depot) (g.D.Shelf.faults c.args.depot.now) (g.D.Shelf.faults c.loop-place.depot) c.requires.fits
    c.loop-place.invariant.did

pub returns-in_err-drop_chunk-clause-did : goal.returns-in_err-drop_chunk-clause-did
returns-in_err-drop_chunk-clause-did g c =
    let store = c.args.store.now in
    let ids = c.args.ids.now in
    let now = c.drop_chunk.new.self in
    let a = g.D.Shelf.told c.args.depot.now in
    let b = g.D.Shelf.told c.loop-place.depot in
    let e = g.D.Shelf.told c.drop_chunk.new.depot in
    let n = g.D.Shelf.faults c.args.depot.now in
    let m = g.D.Shelf.faults c.loop-place.depot in
    let k = g.D.Shelf.faults c.drop_chunk.new.depot in
    let lt : c.loop-place.place < length ids = omega arith in
    let refusal = c.in_err-drop_chunk.field-0.0 in
    err_is c.from_residual.result refusal (λ (r : Result (Unit {0}) StoreRefusal). DidDrop store ids now a e n k r) c.from_residual.ensures.1
    (dropped_front {T = Unit {0}} {U = Unit {0}} store now now (take (c.loop-place.place + 1) ids) ids a e n k refusal
    (dropped_more {T = Unit {0}} store c.loop-place.store now ids c.loop-place.place _ a b e n m k _ lt c.loop-place.invariant.did
    c.in_err-drop_chunk.ensures.did))

pub returns-in_err-drop_chunk-clause-untold : goal.returns-in_err-drop_chunk-clause-untold
returns-in_err-drop_chunk-clause-untold g c =
    untold_then (g.D.Shelf.told c.args.depot.now) (g.D.Shelf.told c.loop-place.depot) (g.D.Shelf.told c.drop_chunk.new.depot)
    c.loop-place.invariant.untold c.drop_chunk.ensures.untold

pub loop-place-preserved : goal.loop-place-preserved
loop-place-preserved g c =
    let store = c.args.store.now in
    let ids = c.args.ids.now in
    let now = c.drop_chunk.new.self in
    let a = g.D.Shelf.told c.args.depot.now in
    let b = g.D.Shelf.told c.loop-place.depot in
    let e = g.D.Shelf.told c.drop_chunk.new.depot in
    let lt : c.loop-place.place < length ids = omega arith in
    record {
      did = dropped_more {T = Unit {0}} store c.loop-place.store now ids c.loop-place.place _ a b e (g.D.Shelf.faults c.args.depot.now)
          (g.D.Shelf.faults c.loop-place.depot) (g.D.Shelf.faults c.drop_chunk.new.depot) _ lt c.loop-place.invariant.did
          c.in_ok-drop_chunk.ensures.did;
      untold = untold_then a b e c.loop-place.invariant.untold c.drop_chunk.ensures.untold;
      rest = c.drop_chunk.ensures.rest
          ∙ ap (λ (s : Store). record s { session = now.session; spent = now.spent }) c.loop-place.invariant.rest;
      unspent = c.in_ok-drop_chunk.ensures.unspent;
    }

pub returns-clause-did : goal.returns-clause-did
returns-clause-did g c =
    let ids = c.args.ids.now in
    subst (λ (l : List (List ℕ)). DidDrop {T = Unit {0}} c.args.store.now l c.loop-place.store (g.D.Shelf.told c.args.depot.now)
    (g.D.Shelf.told c.loop-place.depot) (g.D.Shelf.faults c.args.depot.now) (g.D.Shelf.faults c.loop-place.depot) (Ok tt))
    (take_all c.loop-place.place ids (omega arith)) c.loop-place.invariant.did
