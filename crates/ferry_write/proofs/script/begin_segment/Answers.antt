use Rattle.std.proofs.Common.{[], ◌∷◌, ◌++◌, Result}
use Rattle.ferry_disk.specs.Act.{AppendTo}
use Rattle.ferry_segment.specs.Segment.{magic}
use Rattle.ferry_write.specs.Room.{sync_steps}
use Rattle.ferry_write.specs.Script.{Ran}
use Rattle.ferry_write.specs.declared.fault.WriteFault.{WriteFault}
use Rattle.ferry_write.proofs.ScriptLemmas.{ran_then, ran_front, err_is}
use Rattle.ferry_write.proofs.script.begin_segment.Goals as goal

pub returns-in_err-sync_current-clause-ran : goal.returns-in_err-sync_current-clause-ran
returns-in_err-sync_current-clause-ran g c =
    let s = sync_steps c.args.last c.args.size in
    let t = AppendTo c.args.number magic ∷ [] in
    let a = g.D.Shelf.told c.args.depot.now in
    let b = g.D.Shelf.told c.sync_current.new.depot in
    let n = g.D.Shelf.faults c.args.depot.now in
    let m = g.D.Shelf.faults c.sync_current.new.depot in
    err_is c.from_residual.result c.in_err-sync_current.field-0.0
    (λ (r : Result (Unit {0}) WriteFault). Ran (s ++ t) a b n m r) c.from_residual.ensures.1
    (ran_front s t a b n m c.in_err-sync_current.field-0.0 c.in_err-sync_current.ensures.ran)

pub returns-clause-ran : goal.returns-clause-ran
returns-clause-ran g c =
    ran_then (sync_steps c.args.last c.args.size) (AppendTo c.args.number magic ∷ [])
    (g.D.Shelf.told c.args.depot.now) (g.D.Shelf.told c.sync_current.new.depot) (g.D.Shelf.told c.append_to.new.depot)
    (g.D.Shelf.faults c.args.depot.now) (g.D.Shelf.faults c.sync_current.new.depot) (g.D.Shelf.faults c.append_to.new.depot)
    c.in_ok-sync_current.field-0 c.append_to.result c.in_ok-sync_current.ensures.ran c.append_to.ensures.ran
