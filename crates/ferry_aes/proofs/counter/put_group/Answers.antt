use Rattle.std.proofs.Common.{◌≡◌, ◌+◌, ◌-◌, arith}
use Rattle.ferry_aes.proofs.CounterModeLemmas.{front_of_put}
use Rattle.ferry_aes.proofs.counter.put_group.Goals as goal

pub returns : goal.returns
returns c =
    let e : c.args.at + c.min-count.result - c.args.at ≡ c.min-count.result = omega arith in
    rw e (front_of_put _ _ _ _ _ c.requires c.told-group c.min-count.ensures c.copy_from_slice.ensures.after)
