use Rattle.std.proofs.Common.{◌≢◌, ◌∷◌, [], Result, Ok, Err, IfErr, refl, ◌∙◌, arith}
use Rattle.ferry_store.specs.Writing.{WritesContent}
use Rattle.std.proofs.lemmas.Option.{IfSome_then}
use Rattle.ferry_disk.specs.Device.{told_files}
use Rattle.ferry_store.specs.Fault.{depot_failed}
use Rattle.ferry_store.specs.declared.fault.StoreRefusal.TheVariants.{TooLarge}
use Rattle.ferry_piece.proofs.AddingLemmas.{adds_last, held_unspent}
use Rattle.ferry_piece.proofs.FewLemmas.{begun_err, begun_ok}
use Rattle.ferry_piece.proofs.FaultLemmas.{adds_small, pieces_stop, told_behind}
use Rattle.ferry_piece.proofs.AddedLemmas.{AddedSo, add_gathers, add_stands}
use Rattle.ferry_piece.proofs.CheckpointLemmas.{added_fits}
use Rattle.ferry_piece.proofs.PieceLemmas.{refused_put}
use Rattle.ferry_piece.proofs.WorkLemmas.{did_both, err_is, works_err, works_ok}
use Rattle.ferry_piece.proofs.piece.add.Goals as goal
use Rattle.ferry_piece.specs.Adding.{AddsOn, BeginsSegments}
use Rattle.ferry_piece.specs.Fault.{target_fault}
use Rattle.ferry_piece.specs.Gather.{Gathers, KeepsStanding}
use Rattle.ferry_piece.specs.Puts.{Within, addition}
use Rattle.ferry_piece.specs.Stops.{StopsPieces}
use Rattle.ferry_piece.specs.declared.fault.CarryFault.{CarryFault}
use Rattle.ferry_repo.specs.Opening.{repo_view}
use Rattle.ferry_store.specs.Adding.{Adds}
use Rattle.ferry_store.specs.State.{KeepsSound}
use Rattle.ferry_store.specs.declared.content.Added.{Added}

pub returns-in_err-added-clause-works : goal.returns-in_err-added-clause-works
returns-in_err-added-clause-works g c most kind put is room =
    let a = g.D.Shelf.told c.args.depot.now in
    let b = g.D.Shelf.told c.add.new.depot in
    let n = g.D.Shelf.faults c.args.depot.now in
    let m = g.D.Shelf.faults c.add.new.depot in
    let store = c.args.store.now in
    let now = c.add.new.self in
    let content = c.args.content.now in
    let one = addition kind content put in
    let refusal = c.in_err-added.field-0.0 in
    let put_is = refused_put put c.from_residual.result (target_fault refusal) c.from_residual.ensures.1 is in
    err_is c.from_residual.result (target_fault refusal) (λ (r : Result Added CarryFault). AddsOn most store (one ∷ []) now a b n m r)
    c.from_residual.ensures.1 (record {
      works = works_err {T = Added} (λ h k. KeepsSound store.session store.counter h k × WritesContent store content h k) (Adds store content now)
          (KeepsStanding most store (one ∷ [])) (λ _. Gathers most store (one ∷ []) now) a b n m refusal
          (λ h k. add_stands most store one h k (λ _. put_is) room)
          c.add.ensures.untold
          (did_both {T = Added} (KeepsSound store.session store.counter) (WritesContent store content) (Adds store content now) a b n m (Err refusal)
          c.add.ensures.writes
          c.in_err-added.ensures.did);
      last = IfSome_then a c.in_err-added.ensures.refused (λ t r. adds_last store content one (told_files t) refusal refl r);
      unspent = tt;
      held = held_unspent Added Within most store now (one ∷ []) a b refusal c.in_err-added.ensures.kept;
      few = begun_err {T = Added} {U = Added} 1 2 store now refusal (omega arith) c.in_err-added.ensures.few;
    })

pub returns-clause-works : goal.returns-clause-works
returns-clause-works g c most kind put is room =
    let a = g.D.Shelf.told c.args.depot.now in
    let b = g.D.Shelf.told c.add.new.depot in
    let n = g.D.Shelf.faults c.args.depot.now in
    let m = g.D.Shelf.faults c.add.new.depot in
    let store = c.args.store.now in
    let now = c.add.new.self in
    let content = c.args.content.now in
    let one = addition kind content put in
    let added = c.in_ok-added.added in
    let so : AddedSo store content now added = record {
      id = c.in_ok-added.ensures.id;
      new = c.in_ok-added.ensures.new;
      known = c.in_ok-added.ensures.known;
      repo = c.in_ok-added.ensures.repo;
      opens = c.in_ok-added.ensures.opens;
      accepted = c.add.ensures.accepted;
    } in
    record {
      works = works_ok (λ h k. KeepsSound store.session store.counter h k × WritesContent store content h k) (Adds store content now)
          (KeepsStanding most store (one ∷ [])) (λ _. Gathers most store (one ∷ []) now) a b n m added added
          (λ h k. add_stands most store one h k (λ can. is ∙ so.new.1 can.0) room)
          (λ h k adds. add_gathers most store now kind content put added h k is room so adds) c.add.ensures.untold
          (did_both {T = Added} (KeepsSound store.session store.counter) (WritesContent store content) (Adds store content now) a b n m (Ok added)
          c.add.ensures.writes
          c.in_ok-added.ensures.did);
      unspent = λ was. c.in_ok-added.ensures.unspent;
      last = tt;
      held = tt;
      few = begun_ok {T = Added} {U = Added} 1 2 store now added added (omega arith) c.in_ok-added.ensures.few;
    }

pub returns-clause-fits : goal.returns-clause-fits
returns-clause-fits g c =
    added_fits c.args.store.now c.add.new.self c.args.content.now c.in_ok-added.added (g.D.Shelf.told c.args.depot.now) (g.D.Shelf.told c.add.new.depot)
    (g.D.Shelf.faults c.args.depot.now) (g.D.Shelf.faults c.add.new.depot) c.requires.fits c.in_ok-added.ensures.did

pub returns-in_err-added-clause-stops : goal.returns-in_err-added-clause-stops
returns-in_err-added-clause-stops g c =
    let a = g.D.Shelf.told c.args.depot.now in
    let b = g.D.Shelf.told c.add.new.depot in
    let keys = (repo_view c.args.store.now.repo).keys in
    let refusal = c.in_err-added.field-0.0 in
    err_is c.from_residual.result (target_fault refusal) (λ (r : Result Added CarryFault). IfErr r (StopsPieces b keys)) c.from_residual.ensures.1
    (pieces_stop b keys refusal
    (told_behind (refusal ≢ TooLarge) (depot_failed refusal) a b c.in_err-added.ensures.did.ends
    (IfSome_then a c.in_err-added.ensures.refused (λ t r. adds_small c.args.store.now c.args.content.now (told_files t) refusal r)))
    c.in_err-added.ensures.stops)

pub returns-in_err-added-clause-few : goal.returns-in_err-added-clause-few
returns-in_err-added-clause-few g c =
    let store = c.args.store.now in
    let now = c.add.new.self in
    let refusal = c.in_err-added.field-0.0 in
    err_is c.from_residual.result (target_fault refusal) (λ (r : Result Added CarryFault). BeginsSegments 1 store now r) c.from_residual.ensures.1
    (begun_err {T = Added} {U = Added} 1 1 store now refusal (omega arith) c.in_err-added.ensures.few)

pub returns-clause-few : goal.returns-clause-few
returns-clause-few g c =
    begun_ok {T = Added} {U = Added} 1 1 c.args.store.now c.add.new.self c.in_ok-added.added c.in_ok-added.added (omega arith) c.in_ok-added.ensures.few
