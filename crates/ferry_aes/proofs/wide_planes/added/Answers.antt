use Rattle.std.proofs.Common.{◌<◌, ◌+◌, ◌*◌, bit_xor, arith}
use Rattle.ferry_aes.proofs.ByteLemmas.{byte_at-added}
use Rattle.ferry_aes.proofs.HalvesLemmas.{half-two}
use Rattle.ferry_aes.proofs.wide_planes.added.Goals as goal

pub returns : goal.returns
returns c h j i side lane =
    let m = 16 * h + j in
    let within : m < 32 = omega arith in
    half-two bit_xor c.args.a.now c.args.b.now _ h j i lane
    (byte_at-added c.args.a.now c.args.b.now _ _ _ _ _ _ _ _ m i
    (c.sum.ensures m i within) (c.sum-2.ensures m i within) (c.sum-3.ensures m i within) (c.sum-4.ensures m i within)
    (c.sum-5.ensures m i within) (c.sum-6.ensures m i within) (c.sum-7.ensures m i within) (c.sum-8.ensures m i within))
