use Rattle.std.proofs.Common.{[], ◌∷◌, Result}
use Rattle.ferry_disk.specs.Act.{RemoveOf}
use Rattle.ferry_write.specs.Fault.{store_fault}
use Rattle.ferry_write.specs.Script.{Ran}
use Rattle.ferry_write.specs.declared.fault.WriteFault.{WriteFault}
use Rattle.ferry_write.proofs.ScriptLemmas.{one_ok, one_err, err_is}
use Rattle.ferry_compact.proofs.removal.remove_segment.Goals as goal

pub returns-in_err-remove-clause-ran : goal.returns-in_err-remove-clause-ran
returns-in_err-remove-clause-ran g c =
    let step = RemoveOf c.args.segment in
    let a = g.D.Shelf.told c.args.depot.now in
    let b = g.D.Shelf.told c.remove.new.self in
    let n = g.D.Shelf.faults c.args.depot.now in
    let m = g.D.Shelf.faults c.remove.new.self in
    err_is c.from_residual.result (store_fault c.in_err-remove.field-0.0)
    (λ (r : Result (Unit {0}) WriteFault). Ran (step ∷ []) a b n m r) c.from_residual.ensures.1
    (one_err step a b n m c.in_err-remove.field-0.0 c.in_err-remove.ensures.act c.in_err-remove.ensures.cause)

pub returns-clause-ran : goal.returns-clause-ran
returns-clause-ran g c =
    one_ok (RemoveOf c.args.segment) (g.D.Shelf.told c.args.depot.now) (g.D.Shelf.told c.remove.new.self)
    (g.D.Shelf.faults c.args.depot.now) (g.D.Shelf.faults c.remove.new.self) tt c.in_ok-remove.ensures.act c.in_ok-remove.ensures.cause
