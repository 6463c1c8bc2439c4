use Rattle.std.proofs.Common.{◌≡◌, true, false, List, ◌∙◌, ap, Result, ℕ, length, arith}
use Rattle.ferry_compact.proofs.BodyLemmas.{idle_as}
use Rattle.ferry_compact.proofs.CompactLemmas.{run_stopped}
use Rattle.ferry_compact.proofs.EndLemmas.{run_idle, run_moved, run_refused}
use Rattle.ferry_compact.proofs.ReadingLemmas.{err_is, memory_outside, memory_still}
use Rattle.ferry_compact.specs.Choice.{chosen_in}
use Rattle.ferry_compact.specs.Runs.{Begun, Clauses, MovedAll}
use Rattle.ferry_compact.specs.declared.fault.CompactFault.{CompactFault}
use Rattle.ferry_compact.proofs.compaction.compact_segments.Goals as goal

pub returns-in_err-chosen : goal.returns-in_err-chosen
returns-in_err-chosen g c = record {
  ends = λ limit begin first opened goes.
      let state = c.args.log.now in
      let b = g.D.Shelf.told c.args.depot.now in
      let m = g.D.Shelf.faults c.args.depot.now in
      let threshold = c.args.threshold in
      let these = chosen_in threshold state.extents in
      let fault = c.in_err-chosen.field-0.0 in
      let memory = c.in_err-chosen.ensures.memory in
      err_is c.from_residual.result fault (λ (r : Result ℕ CompactFault). Clauses limit state threshold begin b first m r) c.from_residual.ensures.1
      (run_refused limit state threshold (MovedAll limit state these) fault begin b first m opened
      (run_stopped state these (Begun limit state c.args.session.now) (MovedAll limit state these) fault begin b first m (memory_still fault memory)
      (memory_outside fault memory) goes));
}

pub returns-then-is_idle : goal.returns-then-is_idle
returns-then-is_idle g c = record {
  ends = λ limit begin first opened goes.
      let state = c.args.log.now in
      let threshold = c.args.threshold in
      let these = chosen_in threshold state.extents in
      let these_are : c.deref.result.now ≡ these =
      c.deref.ensures.value ∙ (c.in_ok-chosen.ensures.chosen ∙ ap (chosen_in threshold) c.requires.extents) in
      run_idle limit state threshold c.args.session.now begin (g.D.Shelf.told c.args.depot.now) first (g.D.Shelf.faults c.args.depot.now) opened
      (idle_as state.transaction c.transaction.result c.deref.result.now these c.is_idle.result true c.transaction.ensures these_are c.is_idle.ensures
      c.if-is_idle.true) goes;
}

pub returns-in_err-move_chosen : goal.returns-in_err-move_chosen
returns-in_err-move_chosen g c = record {
  ends = λ limit begin first opened goes.
      let state = c.args.log.now in
      let threshold = c.args.threshold in
      let d = g.D.Shelf.told c.move_chosen.new.depot in
      let k = g.D.Shelf.faults c.move_chosen.new.depot in
      let these = chosen_in threshold state.extents in
      let fault = c.in_err-move_chosen.field-0.0 in
      let these_are : c.deref-2.result.now ≡ these =
      c.deref-2.ensures.value ∙ (c.in_ok-chosen.ensures.chosen ∙ ap (chosen_in threshold) c.requires.extents) in
      err_is c.from_residual-in_err-move_chosen.result fault (λ (r : Result ℕ CompactFault). Clauses limit state threshold begin d first k r)
      c.from_residual-in_err-move_chosen.ensures.1
      (run_refused limit state threshold (MovedAll limit state these) fault begin d first k opened
      (c.in_err-move_chosen.ensures.moves limit threshold these_are begin first goes));
}

pub returns : goal.returns
returns g c = record {
  ends = λ limit begin first opened goes.
      let state = c.args.log.now in
      let threshold = c.args.threshold in
      let d = g.D.Shelf.told c.move_chosen.new.depot in
      let k = g.D.Shelf.faults c.move_chosen.new.depot in
      let these = chosen_in threshold state.extents in
      let chosen = c.in_ok-chosen.chosen.items in
      let are : chosen ≡ these = c.in_ok-chosen.ensures.chosen ∙ ap (chosen_in threshold) c.requires.extents in
      let counted : c.len.result ≡ length chosen = omega (arith, c.len.ensures, c.in_ok-chosen.chosen.ok.0) in
      run_moved limit state threshold c.len.result begin d first k opened
      (idle_as state.transaction c.transaction.result c.deref.result.now these c.is_idle.result false c.transaction.ensures (c.deref.ensures.value ∙ are)
      c.is_idle.ensures c.if-is_idle.false) (counted ∙ ap (λ (l : List ℕ). length l) are)
      (c.in_ok-move_chosen.ensures.moves limit threshold (c.deref-2.ensures.value ∙ are) begin first goes);
}
