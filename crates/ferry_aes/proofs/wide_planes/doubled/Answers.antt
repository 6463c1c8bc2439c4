use Rattle.std.proofs.Common.{◌<◌, ◌+◌, ◌*◌, arith}
use Rattle.ferry_aes.specs.Field.{multiply}
use Rattle.ferry_aes.proofs.ByteLemmas.{byte_at-doubled}
use Rattle.ferry_aes.proofs.HalvesLemmas.{half-one}
use Rattle.ferry_aes.proofs.wide_planes.doubled.Goals as goal

pub returns : goal.returns
returns c h j i side lane =
    let m = 16 * h + j in
    let within : m < 32 = omega arith in
    half-one (multiply 2) c.args.p.now _ h j i lane
    (byte_at-doubled c.args.p.now _ _ _ m i (c.sum-one.ensures m i within) (c.sum-three.ensures m i within) (c.sum-four.ensures m i within))
