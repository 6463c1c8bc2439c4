use Rattle.std.proofs.Common.{◌<◌, length, bit_xor, arith}
use Rattle.ferry_mac.proofs.XorLemmas.{map_over_more}
use Rattle.ferry_mac.proofs.mac512.padded.Goals as goal

pub loop-place-preserved : goal.loop-place-preserved
loop-place-preserved c =
    let in_block : c.loop-place.place < length c.args.block.now = omega arith in
    rw c.loop-place.invariant (map_over_more (λ byte. bit_xor byte c.args.pad) c.args.block.now c.loop-place.place in_block)
