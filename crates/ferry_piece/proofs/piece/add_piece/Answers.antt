use Rattle.std.proofs.Common.{◌∷◌, [], Result, refl}
use Rattle.ferry_piece.proofs.PieceLemmas.{room_added, room_refused}
use Rattle.ferry_piece.proofs.PendingLemmas.{room_any}
use Rattle.ferry_piece.proofs.WorkLemmas.{err_is}
use Rattle.ferry_piece.proofs.piece.add_piece.Goals as goal
use Rattle.ferry_piece.specs.Adding.{AddsOn}
use Rattle.ferry_piece.specs.Puts.{addition}
use Rattle.ferry_piece.specs.declared.fault.CarryFault.{CarryFault}
use Rattle.ferry_store.specs.declared.content.Added.{Added}

pub returns-in_err-make_room-clause-works : goal.returns-in_err-make_room-clause-works
returns-in_err-make_room-clause-works g c kind put piece is =
    let most = c.args.checkpoint in
    let store = c.args.store.now in
    let now = c.make_room.new.store in
    let one = addition kind c.args.piece.now put in
    let a = g.D.Shelf.told c.args.depot.now in
    let b = g.D.Shelf.told c.make_room.new.depot in
    let n = g.D.Shelf.faults c.args.depot.now in
    let m = g.D.Shelf.faults c.make_room.new.depot in
    let fault = c.in_err-make_room.field-0.0 in
    err_is c.from_residual.result fault (λ (r : Result Added CarryFault). AddsOn most store (one ∷ []) now a b n m r) c.from_residual.ensures.1
    (room_refused {T = Unit {0}} {U = Added} most store now now one a b n m fault c.in_err-make_room.ensures.spent c.in_err-make_room.ensures.few
    (c.in_err-make_room.ensures.works one refl piece))

pub returns-clause-works : goal.returns-clause-works
returns-clause-works g c kind put piece is =
    let most = c.args.checkpoint in
    let one = addition kind c.args.piece.now put in
    room_added {T = Unit {0}} {U = Added} most c.args.store.now c.make_room.new.store c.add.new.store one (g.D.Shelf.told c.args.depot.now)
    (g.D.Shelf.told c.make_room.new.depot) (g.D.Shelf.told c.add.new.depot) (g.D.Shelf.faults c.args.depot.now)
    (g.D.Shelf.faults c.make_room.new.depot) (g.D.Shelf.faults c.add.new.depot) tt c.add.result c.requires.checkpoint c.in_ok-make_room.ensures.rest
    c.in_ok-make_room.ensures.unspent c.in_ok-make_room.ensures.few (c.in_ok-make_room.ensures.works one refl piece) c.add.ensures.few
    (c.add.ensures.works most kind put is (record {
      checkpoint = c.requires.checkpoint;
      room = λ new. room_any most c.make_room.new.store.pending kind (c.in_ok-make_room.ensures.room new);
    }))
