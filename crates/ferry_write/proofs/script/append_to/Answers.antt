use Rattle.std.proofs.Common.{[], ◌∷◌, Result}
use Rattle.ferry_disk.specs.Act.{AppendTo}
use Rattle.ferry_write.specs.Fault.{store_fault}
use Rattle.ferry_write.specs.Script.{Ran}
use Rattle.ferry_write.specs.declared.fault.WriteFault.{WriteFault}
use Rattle.ferry_write.proofs.ScriptLemmas.{one_ok, one_err, err_is}
use Rattle.ferry_write.proofs.script.append_to.Goals as goal

pub returns-in_err-append-clause-ran : goal.returns-in_err-append-clause-ran
returns-in_err-append-clause-ran g c =
    let step = AppendTo c.args.segment c.args.bytes.now in
    let a = g.D.Shelf.told c.args.depot.now in
    let b = g.D.Shelf.told c.append.new.self in
    let n = g.D.Shelf.faults c.args.depot.now in
    let m = g.D.Shelf.faults c.append.new.self in
    err_is c.from_residual.result (store_fault c.in_err-append.field-0.0)
    (λ (r : Result (Unit {0}) WriteFault). Ran (step ∷ []) a b n m r) c.from_residual.ensures.1
    (one_err step a b n m c.in_err-append.field-0.0 c.in_err-append.ensures.act c.in_err-append.ensures.cause)

pub returns-clause-ran : goal.returns-clause-ran
returns-clause-ran g c =
    one_ok (AppendTo c.args.segment c.args.bytes.now) (g.D.Shelf.told c.args.depot.now) (g.D.Shelf.told c.append.new.self)
    (g.D.Shelf.faults c.args.depot.now) (g.D.Shelf.faults c.append.new.self) tt c.in_ok-append.ensures.act c.in_ok-append.ensures.cause
