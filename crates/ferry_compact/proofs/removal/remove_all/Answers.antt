use Rattle.std.proofs.Common.{arith, map, get_or, Result, Ok, Err}
use Rattle.ferry_compact.proofs.RemovalLemmas.{all_removed, one_removed}
use Rattle.ferry_disk.specs.Act.{RemoveOf}
use Rattle.ferry_write.specs.Script.{Ran}
use Rattle.ferry_write.specs.declared.fault.WriteFault.{WriteFault}
use Rattle.ferry_write.proofs.ScriptLemmas.{err_is, removes_all, removes_more, removes_none, removes_stop}
use Rattle.ferry_compact.proofs.removal.remove_all.Goals as goal

pub loop-number-init : goal.loop-number-init
loop-number-init g c = removes_none 0 c.args.numbers.now (g.D.Shelf.told c.args.depot.now) (g.D.Shelf.faults c.args.depot.now)

pub returns-in_err-remove_segment-clause-ran : goal.returns-in_err-remove_segment-clause-ran
returns-in_err-remove_segment-clause-ran g c =
    let a = g.D.Shelf.told c.args.depot.now in
    let b = g.D.Shelf.told c.loop-number.depot in
    let d = g.D.Shelf.told c.remove_segment.new.depot in
    let n = g.D.Shelf.faults c.args.depot.now in
    let m = g.D.Shelf.faults c.loop-number.depot in
    let k = g.D.Shelf.faults c.remove_segment.new.depot in
    let numbers = c.args.numbers.now in
    let i = c.loop-number.number-index in
    let fault = c.in_err-remove_segment.field-0.0 in
    err_is c.from_residual.result fault (λ (r : Result (Unit {0}) WriteFault). Ran (map RemoveOf numbers) a d n k r) c.from_residual.ensures.1
    (all_removed numbers a d n k (Err fault)
    (removes_stop 0 numbers i a b d n m k fault (omega arith) c.loop-number.invariant
    (one_removed (get_or numbers i 0) b d m k (Err fault) c.in_err-remove_segment.ensures.ran)))

pub loop-number-preserved : goal.loop-number-preserved
loop-number-preserved g c =
    let numbers = c.args.numbers.now in
    let i = c.loop-number.number-index in
    let b = g.D.Shelf.told c.loop-number.depot in
    let d = g.D.Shelf.told c.remove_segment.new.depot in
    let m = g.D.Shelf.faults c.loop-number.depot in
    let k = g.D.Shelf.faults c.remove_segment.new.depot in
    removes_more 0 numbers i (g.D.Shelf.told c.args.depot.now) b d (g.D.Shelf.faults c.args.depot.now) m k c.in_ok-remove_segment.field-0 (omega arith)
    c.loop-number.invariant (one_removed (get_or numbers i 0) b d m k (Ok c.in_ok-remove_segment.field-0) c.in_ok-remove_segment.ensures.ran)

pub returns-clause-ran : goal.returns-clause-ran
returns-clause-ran g c =
    let a = g.D.Shelf.told c.args.depot.now in
    let b = g.D.Shelf.told c.loop-number.depot in
    let n = g.D.Shelf.faults c.args.depot.now in
    let m = g.D.Shelf.faults c.loop-number.depot in
    all_removed c.args.numbers.now a b n m (Ok tt)
    (removes_all 0 c.args.numbers.now c.loop-number.number-index a b n m c.loop-number-test.false c.loop-number.invariant)
