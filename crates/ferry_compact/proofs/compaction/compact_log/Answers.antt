use Rattle.std.proofs.Common.{Result, ℕ}
use Rattle.ferry_compact.proofs.CompactLemmas.{run_stopped}
use Rattle.ferry_compact.proofs.EndLemmas.{run_refused}
use Rattle.ferry_compact.proofs.ReadingLemmas.{err_is, memory_outside, memory_still}
use Rattle.ferry_compact.specs.Choice.{chosen_in}
use Rattle.ferry_compact.specs.Runs.{Begun, Clauses, MovedAll}
use Rattle.ferry_compact.specs.declared.fault.CompactFault.{CompactFault}
use Rattle.ferry_compact.proofs.compaction.compact_log.Goals as goal

pub returns-in_err-extents : goal.returns-in_err-extents
returns-in_err-extents g c = record {
  ends = λ limit begin first opened goes.
      let state = c.args.log.now in
      let b = g.D.Shelf.told c.args.depot.now in
      let m = g.D.Shelf.faults c.args.depot.now in
      let threshold = c.args.threshold in
      let these = chosen_in threshold state.extents in
      let fault = c.in_err-extents.field-0.0 in
      let memory = c.in_err-extents.ensures.memory in
      err_is c.from_residual.result fault (λ (r : Result ℕ CompactFault). Clauses limit state threshold begin b first m r) c.from_residual.ensures.1
      (run_refused limit state threshold (MovedAll limit state these) fault begin b first m opened
      (run_stopped state these (Begun limit state c.args.session.now) (MovedAll limit state these) fault begin b first m (memory_still fault memory)
      (memory_outside fault memory) goes));
}

pub returns : goal.returns
returns g c = record { ends = c.compact_segments.ensures.ends }
