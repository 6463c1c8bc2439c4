use Rattle.std.proofs.Common.{true, List, ℕ, [], ◌∷◌, Result, refl, arith}
use Rattle.ferry_piece.proofs.WorkLemmas.{err_is, gathered_as, gathered_err}
use Rattle.ferry_carry.proofs.naming.add_record.Goals as goal
use Rattle.ferry_piece.specs.Adding.{AddsOn}
use Rattle.ferry_piece.specs.Piece.{HasRoom}
use Rattle.ferry_piece.specs.Puts.{Record, addition}
use Rattle.ferry_piece.specs.declared.fault.CarryFault.{CarryFault}
use Rattle.ferry_store.specs.declared.content.Added.{Added}

pub returns-in_err-added-clause-works : goal.returns-in_err-added-clause-works
returns-in_err-added-clause-works g c = (
  true,
  λ most checkpoint pending.
      let store = c.args.store.now in
      let now = c.add.new.store in
      let text = c.args.text.now in
      let more = addition Record text true ∷ [] in
      let a = g.D.Shelf.told c.args.depot.now in
      let b = g.D.Shelf.told c.add.new.depot in
      let n = g.D.Shelf.faults c.args.depot.now in
      let m = g.D.Shelf.faults c.add.new.depot in
      let fault = c.in_err-added.field-0.0 in
      let room : HasRoom most Record text store = record { checkpoint = checkpoint; room = λ new. omega (arith, pending) } in
      err_is c.from_residual.result fault (λ (r : Result (List ℕ) CarryFault). AddsOn most store more now a b n m r) c.from_residual.ensures.1
      (gathered_err {T = Added} {U = List ℕ} most store now more a b n m fault (c.in_err-added.ensures.works most Record true refl room)),
)

pub returns-clause-works : goal.returns-clause-works
returns-clause-works g c =
    let added = c.in_ok-added.added in (
      added.new,
      λ most checkpoint pending.
          let store = c.args.store.now in
          let text = c.args.text.now in
          let room : HasRoom most Record text store = record { checkpoint = checkpoint; room = λ new. omega (arith, pending) } in
          gathered_as {T = Added} {U = List ℕ} most store c.add.new.store (addition Record text added.new ∷ []) (g.D.Shelf.told c.args.depot.now)
          (g.D.Shelf.told c.add.new.depot) (g.D.Shelf.faults c.args.depot.now) (g.D.Shelf.faults c.add.new.depot) added added.id
          (c.in_ok-added.ensures.works most Record added.new refl room),
    )
