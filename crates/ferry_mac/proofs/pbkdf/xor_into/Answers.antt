use Rattle.std.proofs.Common.{◌<◌, length, bit_xor, arith}
use Rattle.ferry_mac.proofs.XorLemmas.{zip2_over_more}
use Rattle.ferry_mac.proofs.pbkdf.xor_into.Goals as goal

pub loop-place-preserved : goal.loop-place-preserved
loop-place-preserved c =
    let place = c.loop-place.place in
    let in_sum : place < length c.args.sum.now = omega arith in
    let in_other : place < length c.args.other.now = omega arith in
    rw c.loop-place.invariant (zip2_over_more bit_xor c.args.sum.now c.args.other.now place in_sum in_other)
