use Rattle.std.proofs.Common.{[], ℕ, List, Result, Vec, subst}
use Rattle.std.specs.Global.{Global}
use Rattle.ferry_write.specs.Room.{behind}
use Rattle.ferry_write.specs.Script.{Clears, Ran, removals}
use Rattle.ferry_write.specs.declared.fault.WriteFault.{WriteFault}
use Rattle.ferry_write.proofs.ScriptLemmas.{ran_as, ran_fault, err_is}
use Rattle.ferry_write.proofs.BeginLemmas.{clears_ok, clears_err, clears_none}
use Rattle.ferry_write.proofs.script.clear.Goals as goal

pub returns-in_err-settle_all-clause-clears : goal.returns-in_err-settle_all-clause-clears
returns-in_err-settle_all-clause-clears g c =
    let a = g.D.Shelf.told c.args.depot.now in
    let b = g.D.Shelf.told c.settle_all.new.depot in
    let n = g.D.Shelf.faults c.args.depot.now in
    let m = g.D.Shelf.faults c.settle_all.new.depot in
    let fault = c.in_err-settle_all.field-0.0 in
    err_is c.from_residual.result fault
    (λ (r : Result (Unit {0}) WriteFault). Clears (behind c.args.after) a b n m r) c.from_residual.ensures.1
    (clears_none (behind c.args.after) a b n m fault c.in_err-settle_all.ensures.ran)

pub returns-in_err-numbers-clause-clears : goal.returns-in_err-numbers-clause-clears
returns-in_err-numbers-clause-clears g c =
    let a = g.D.Shelf.told c.args.depot.now in
    let b = g.D.Shelf.told c.settle_all.new.depot in
    let d = g.D.Shelf.told c.list_segments.new.depot in
    let n = g.D.Shelf.faults c.args.depot.now in
    let m = g.D.Shelf.faults c.settle_all.new.depot in
    let k = g.D.Shelf.faults c.list_segments.new.depot in
    let fault = c.in_err-numbers.field-0.0 in
    err_is c.from_residual-in_err-numbers.result fault
    (λ (r : Result (Unit {0}) WriteFault). Clears (behind c.args.after) a d n k r) c.from_residual-in_err-numbers.ensures.1
    (clears_err (behind c.args.after) a b d n m k fault c.in_ok-settle_all.ensures.ran
    (ran_fault {T = Vec ℕ Global} [] b d m k fault c.in_err-numbers.ensures.ran))

pub returns-clause-clears : goal.returns-clause-clears
returns-clause-clears g c =
    let a = g.D.Shelf.told c.args.depot.now in
    let b = g.D.Shelf.told c.settle_all.new.depot in
    let d = g.D.Shelf.told c.list_segments.new.depot in
    let m = g.D.Shelf.faults c.settle_all.new.depot in
    let k = g.D.Shelf.faults c.list_segments.new.depot in
    clears_ok (behind c.args.after) a b d (g.D.Shelf.told c.remove_above.new.depot) (g.D.Shelf.faults c.args.depot.now) m k
    (g.D.Shelf.faults c.remove_above.new.depot) c.in_ok-numbers.numbers.items c.remove_above.result c.in_ok-settle_all.ensures.ran
    (ran_as [] b d m k c.in_ok-numbers.numbers tt c.in_ok-numbers.ensures.ran) c.in_ok-numbers.ensures.listed
    (subst (λ (l : List ℕ). Ran (removals (behind c.args.after) l) d (g.D.Shelf.told c.remove_above.new.depot) k (g.D.Shelf.faults c.remove_above.new.depot)
    c.remove_above.result) c.deref.ensures.value c.remove_above.ensures.ran)
