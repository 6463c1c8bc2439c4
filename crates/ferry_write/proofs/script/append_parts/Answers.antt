use Rattle.std.proofs.Common.{[], ◌∷◌, ◌++◌, Result}
use Rattle.ferry_disk.specs.Act.{AppendTo}
use Rattle.ferry_write.specs.Script.{Ran}
use Rattle.ferry_write.specs.declared.fault.WriteFault.{WriteFault}
use Rattle.ferry_write.proofs.ScriptLemmas.{ran_then, ran_front, err_is}
use Rattle.ferry_write.proofs.script.append_parts.Goals as goal

pub returns-in_err-append_to-clause-ran : goal.returns-in_err-append_to-clause-ran
returns-in_err-append_to-clause-ran g c =
    let s = AppendTo c.args.segment c.args.head.now ∷ [] in
    let t = AppendTo c.args.segment c.args.blob.now ∷ [] in
    let a = g.D.Shelf.told c.args.depot.now in
    let b = g.D.Shelf.told c.append_to.new.depot in
    let n = g.D.Shelf.faults c.args.depot.now in
    let m = g.D.Shelf.faults c.append_to.new.depot in
    err_is c.from_residual.result c.in_err-append_to.field-0.0
    (λ (r : Result (Unit {0}) WriteFault). Ran (s ++ t) a b n m r) c.from_residual.ensures.1
    (ran_front s t a b n m c.in_err-append_to.field-0.0 c.in_err-append_to.ensures.ran)

pub returns-clause-ran : goal.returns-clause-ran
returns-clause-ran g c =
    ran_then (AppendTo c.args.segment c.args.head.now ∷ []) (AppendTo c.args.segment c.args.blob.now ∷ [])
    (g.D.Shelf.told c.args.depot.now) (g.D.Shelf.told c.append_to.new.depot) (g.D.Shelf.told c.append_to-2.new.depot)
    (g.D.Shelf.faults c.args.depot.now) (g.D.Shelf.faults c.append_to.new.depot) (g.D.Shelf.faults c.append_to-2.new.depot)
    c.in_ok-append_to.field-0 c.append_to-2.result c.in_ok-append_to.ensures.ran c.append_to-2.ensures.ran
