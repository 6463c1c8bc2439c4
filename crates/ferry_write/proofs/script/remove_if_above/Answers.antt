use Rattle.std.proofs.Common.{◌≡◌, [], ◌∷◌, true, nat_lt}
use Rattle.ferry_disk.specs.Act.{RemoveOf}
use Rattle.ferry_write.specs.Room.{behind}
use Rattle.ferry_write.proofs.ScriptLemmas.{kept_ran}
use Rattle.ferry_write.proofs.script.remove_if_above.Goals as goal

pub returns-then-is_up_to-clause-ran : goal.returns-then-is_up_to-clause-ran
returns-then-is_up_to-clause-ran g c =
    let e : nat_lt c.args.number (behind c.args.after) ≡ true = (let f = c.is_up_to.ensures in let t = c.if-is_up_to.ensures in cc) in
    kept_ran (nat_lt c.args.number (behind c.args.after)) (RemoveOf c.args.number ∷ []) (g.D.Shelf.told c.args.depot.now)
    (g.D.Shelf.faults c.args.depot.now) tt e
