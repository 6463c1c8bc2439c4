use Rattle.std.proofs.Common.{[], ◌∷◌, Result}
use Rattle.ferry_disk.specs.Act.{SettleAll}
use Rattle.ferry_write.specs.Fault.{store_fault}
use Rattle.ferry_write.specs.Script.{Ran}
use Rattle.ferry_write.specs.declared.fault.WriteFault.{WriteFault}
use Rattle.ferry_write.proofs.ScriptLemmas.{one_ok, one_err, err_is}
use Rattle.ferry_write.proofs.script.settle_all.Goals as goal

pub returns-in_err-settle-clause-ran : goal.returns-in_err-settle-clause-ran
returns-in_err-settle-clause-ran g c =
    let step = SettleAll in
    let a = g.D.Shelf.told c.args.depot.now in
    let b = g.D.Shelf.told c.settle.new.self in
    let n = g.D.Shelf.faults c.args.depot.now in
    let m = g.D.Shelf.faults c.settle.new.self in
    err_is c.from_residual.result (store_fault c.in_err-settle.field-0.0)
    (λ (r : Result (Unit {0}) WriteFault). Ran (step ∷ []) a b n m r) c.from_residual.ensures.1
    (one_err step a b n m c.in_err-settle.field-0.0 c.in_err-settle.ensures.act c.in_err-settle.ensures.cause)

pub returns-clause-ran : goal.returns-clause-ran
returns-clause-ran g c =
    one_ok (SettleAll) (g.D.Shelf.told c.args.depot.now) (g.D.Shelf.told c.settle.new.self)
    (g.D.Shelf.faults c.args.depot.now) (g.D.Shelf.faults c.settle.new.self) tt c.in_ok-settle.ensures.act c.in_ok-settle.ensures.cause
