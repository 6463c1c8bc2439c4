use Rattle.std.proofs.Common.{Result, ℕ, ap}
use Rattle.ferry_compact.proofs.BodyLemmas.{run_begun, run_unbegun}
use Rattle.ferry_compact.proofs.EndLemmas.{run_refused}
use Rattle.ferry_compact.proofs.ReadingLemmas.{err_is}
use Rattle.ferry_compact.proofs.WentLemmas.{fault_of}
use Rattle.ferry_compact.specs.Choice.{chosen_in}
use Rattle.ferry_compact.specs.Fault.{write_fault}
use Rattle.ferry_compact.specs.Runs.{Clauses, MovedAll}
use Rattle.ferry_compact.specs.declared.fault.CompactFault.{CompactFault}
use Rattle.ferry_write.specs.declared.session.Session.{Session}
use Rattle.ferry_compact.proofs.compaction.compact.Goals as goal

pub returns-in_err-session : goal.returns-in_err-session
returns-in_err-session g c =
    let limit = c.args.limit in
    let state = c.args.log in
    let threshold = c.args.threshold in
    let a = g.D.Shelf.told c.args.depot.now in
    let b = g.D.Shelf.told c.begin.new.depot in
    let n = g.D.Shelf.faults c.args.depot.now in
    let m = g.D.Shelf.faults c.begin.new.depot in
    let these = chosen_in threshold state.extents in
    let fault = c.in_err-session.field-0.0 in
    let said = c.in_err-session.ensures in
    err_is c.from_residual.result (write_fault fault) (λ (r : Result ℕ CompactFault). Clauses limit state threshold a b n m r) c.from_residual.ensures.1
    (run_refused limit state threshold (MovedAll limit state these) (write_fault fault) a b n m c.requires.opened
    (run_unbegun state these c.transaction.result (MovedAll limit state these) fault a b n m c.transaction.ensures said.moments said.acts said.first said.gains
    said.beside said.untold (λ same. said.numbers (ap (fault_of {T = Session}) same)) said.cause said.ends))

pub returns : goal.returns
returns g c =
    let limit = c.args.limit in
    let state = c.args.log in
    let a = g.D.Shelf.told c.args.depot.now in
    let b = g.D.Shelf.told c.begin.new.depot in
    let n = g.D.Shelf.faults c.args.depot.now in
    let m = g.D.Shelf.faults c.begin.new.depot in
    let session = c.in_ok-session.session in
    let said = c.in_ok-session.ensures in
    c.compact_log.ensures.ends limit a n c.requires.opened
    (run_begun state (chosen_in c.args.threshold state.extents) limit c.transaction.result session a b n m c.transaction.ensures said.fresh
    said.moments said.acts said.first said.gains said.beside said.untold said.begun said.rows said.cause said.ends)
