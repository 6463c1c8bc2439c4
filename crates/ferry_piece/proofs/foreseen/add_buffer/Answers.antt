use Rattle.std.proofs.Common.{ℕ, List, ◌∷◌, [], Result, sym, subst}
use Rattle.ferry_mac.specs.declared.keys.Keys.{Keys}
use Rattle.ferry_store.proofs.PieceLemmas.{prepared_kept}
use Rattle.ferry_repo.specs.Opening.{repo_view}
use Rattle.ferry_store.specs.Content.{IsNew}
use Rattle.ferry_store.specs.Piece.{content_in}
use Rattle.ferry_piece.proofs.PieceLemmas.{room_added, room_refused}
use Rattle.ferry_piece.proofs.PendingLemmas.{room_any}
use Rattle.ferry_piece.proofs.WorkLemmas.{err_is}
use Rattle.ferry_piece.proofs.foreseen.add_buffer.Goals as goal
use Rattle.ferry_piece.specs.Adding.{AddsOn}
use Rattle.ferry_piece.specs.Puts.{addition}
use Rattle.ferry_piece.specs.declared.fault.CarryFault.{CarryFault}
use Rattle.ferry_store.specs.declared.content.Added.{Added}

pub returns-in_err-make_room_for-clause-works : goal.returns-in_err-make_room_for-clause-works
returns-in_err-make_room_for-clause-works g c kind put piece is =
    let most = c.args.checkpoint in
    let store = c.args.store.now in
    let now = c.make_room_for.new.store in
    let content = content_in (repo_view c.args.store.now.repo).keys c.args.is_blob c.args.buffer.now in
    let one = addition kind content put in
    let a = g.D.Shelf.told c.args.depot.now in
    let b = g.D.Shelf.told c.make_room_for.new.depot in
    let n = g.D.Shelf.faults c.args.depot.now in
    let m = g.D.Shelf.faults c.make_room_for.new.depot in
    let fault = c.in_err-make_room_for.field-0.0 in
    err_is c.from_residual.result fault (λ (r : Result Added CarryFault). AddsOn most store (one ∷ []) now a b n m r) c.from_residual.ensures.1
    (room_refused {T = Unit {0}} {U = Added} most store now now one a b n m fault c.in_err-make_room_for.ensures.spent c.in_err-make_room_for.ensures.few
    (c.in_err-make_room_for.ensures.works one c.requires.prepared.named piece))

pub add_prepared-requires-clause-prepared : goal.add_prepared-requires-clause-prepared
add_prepared-requires-clause-prepared g c =
    let rest = c.in_ok-make_room_for.ensures.rest in
    prepared_kept (repo_view c.args.store.now.repo) (repo_view c.make_room_for.new.store.repo) c.args.id.now c.args.is_blob c.args.buffer.now rest.keys
    rest.config c.requires.prepared

pub returns-clause-works : goal.returns-clause-works
returns-clause-works g c kind put piece is =
    let most = c.args.checkpoint in
    let store = c.args.store.now in
    let middle = c.make_room_for.new.store in
    let now = c.add_prepared.new.store in
    let is_blob = c.args.is_blob in
    let buffer = c.args.buffer.now in
    let rest = c.in_ok-make_room_for.ensures.rest in
    let one = addition kind (content_in (repo_view store.repo).keys is_blob buffer) put in
    let ready = prepared_kept (repo_view store.repo) (repo_view middle.repo) c.args.id.now is_blob buffer rest.keys rest.config c.requires.prepared in
    let b = g.D.Shelf.told c.make_room_for.new.depot in
    let d = g.D.Shelf.told c.add_prepared.new.depot in
    let m = g.D.Shelf.faults c.make_room_for.new.depot in
    let k = g.D.Shelf.faults c.add_prepared.new.depot in
    room_added {T = Unit {0}} {U = Added} most store middle now one (g.D.Shelf.told c.args.depot.now) b d (g.D.Shelf.faults c.args.depot.now) m k tt
    c.add_prepared.result c.requires.checkpoint rest c.in_ok-make_room_for.ensures.unspent c.in_ok-make_room_for.ensures.few
    (c.in_ok-make_room_for.ensures.works one c.requires.prepared.named piece) c.add_prepared.ensures.few
    (subst (λ (keys : Keys). AddsOn most middle (addition kind (content_in keys is_blob buffer) put ∷ []) now b d m k c.add_prepared.result) rest.keys
    (c.add_prepared.ensures.works most kind put is (record {
      checkpoint = c.requires.checkpoint;
      room = λ new. room_any most middle.pending kind
          (c.in_ok-make_room_for.ensures.room (subst (λ (id : List ℕ). IsNew (repo_view middle.repo) id) (sym ready.named) new));
    })))
