use Rattle.std.proofs.Common.{[], ℕ, Result, Vec}
use Rattle.std.specs.Global.{Global}
use Rattle.ferry_write.specs.Fault.{store_fault}
use Rattle.ferry_write.specs.Script.{Ran}
use Rattle.ferry_write.specs.declared.fault.WriteFault.{WriteFault}
use Rattle.ferry_write.proofs.ScriptLemmas.{read_ok, read_err, err_is}
use Rattle.ferry_write.proofs.script.list_segments.Goals as goal

pub returns-in_err-numbers-clause-ran : goal.returns-in_err-numbers-clause-ran
returns-in_err-numbers-clause-ran g c =
    let a = g.D.Shelf.told c.args.depot.now in
    let b = g.D.Shelf.told c.segments.new.self in
    let n = g.D.Shelf.faults c.args.depot.now in
    let m = g.D.Shelf.faults c.segments.new.self in
    err_is c.from_residual.result (store_fault c.in_err-numbers.field-0.0)
    (λ (r : Result (Vec ℕ Global) WriteFault). Ran [] a b n m r) c.from_residual.ensures.1
    (read_err a b n m c.in_err-numbers.field-0.0 c.in_err-numbers.ensures.same c.in_err-numbers.ensures.cause)

pub returns-clause-ran : goal.returns-clause-ran
returns-clause-ran g c =
    read_ok (g.D.Shelf.told c.args.depot.now) (g.D.Shelf.told c.segments.new.self)
    (g.D.Shelf.faults c.args.depot.now) (g.D.Shelf.faults c.segments.new.self)
    c.in_ok-numbers.numbers c.in_ok-numbers.ensures.same c.in_ok-numbers.ensures.cause
