use Rattle.std.proofs.Common.{◌-◌, rules}
use Rattle.std.specs.Vec.{vec_len}
use Rattle.ferry_disk.proofs.StopLemmas.{last_set}
use Rattle.ferry_disk.proofs.stop.leave_last_undone.Goals as goal

pub returns-in-Some : goal.returns-in-Some
returns-in-Some c =
    let acts = c.args.acts.now in
    last_set acts.items (vec_len acts - 1) c.in-Some.last.now (search rules) (search rules)
