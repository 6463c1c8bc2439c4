use Rattle.std.proofs.Common.{arith}
use Rattle.std.proofs.Common.{Result}
use Rattle.ferry_write.specs.Room.{behind}
use Rattle.ferry_write.specs.Script.{Ran, removals}
use Rattle.ferry_write.specs.declared.fault.WriteFault.{WriteFault}
use Rattle.ferry_write.proofs.ScriptLemmas.{removes_none, removes_more, removes_stop, err_is}
use Rattle.ferry_write.proofs.script.remove_above.Goals as goal

pub loop-number-init : goal.loop-number-init
loop-number-init g c = removes_none (behind c.args.after) c.args.numbers.now (g.D.Shelf.told c.args.depot.now) (g.D.Shelf.faults c.args.depot.now)

pub returns-in_err-remove_if_above-clause-ran : goal.returns-in_err-remove_if_above-clause-ran
returns-in_err-remove_if_above-clause-ran g c =
    let a = g.D.Shelf.told c.args.depot.now in
    let b = g.D.Shelf.told c.remove_if_above.new.depot in
    let n = g.D.Shelf.faults c.args.depot.now in
    let m = g.D.Shelf.faults c.remove_if_above.new.depot in
    err_is c.from_residual.result c.in_err-remove_if_above.field-0.0
    (λ (r : Result (Unit {0}) WriteFault). Ran (removals (behind c.args.after) c.args.numbers.now) a b n m r) c.from_residual.ensures.1
    (removes_stop (behind c.args.after) c.args.numbers.now c.loop-number.number-index a (g.D.Shelf.told c.loop-number.depot) b
    n (g.D.Shelf.faults c.loop-number.depot) m c.in_err-remove_if_above.field-0.0 (omega arith) c.loop-number.invariant
    c.in_err-remove_if_above.ensures.ran)

pub loop-number-preserved : goal.loop-number-preserved
loop-number-preserved g c =
    removes_more (behind c.args.after) c.args.numbers.now c.loop-number.number-index (g.D.Shelf.told c.args.depot.now)
    (g.D.Shelf.told c.loop-number.depot) (g.D.Shelf.told c.remove_if_above.new.depot) (g.D.Shelf.faults c.args.depot.now)
    (g.D.Shelf.faults c.loop-number.depot) (g.D.Shelf.faults c.remove_if_above.new.depot) c.in_ok-remove_if_above.field-0 (omega arith)
    c.loop-number.invariant c.in_ok-remove_if_above.ensures.ran
