use Rattle.std.proofs.Common.{◌≡◌, ◌+◌, ◌%◌, ◌<◌, ap, arith}
use Rattle.ferry_aes.specs.Planes.{byte_at, half}
use Rattle.ferry_aes.proofs.wide_planes.mixed.Goals as goal

pub returns : goal.returns
returns c h j i side lane =
    let p = half h c.args.a.now in
    let here : j % 16 ≡ j = omega arith in
    let far : ((j + 8) % 16 + 4) % 16 ≡ (j + 12) % 16 = omega arith in
    let within : (j + 8) % 16 < 16 = omega arith in
    let below = c.lower-below.ensures h j i side lane in
    let pair = c.added-pairs.ensures h j i side lane in
    let other = c.opposite-others.ensures h j i side lane in
    let far_pair = c.added-pairs.ensures h ((j + 8) % 16) i side within in
    let far_below = c.lower-below.ensures h ((j + 8) % 16) i side within in
    let twice = c.doubled-twice.ensures h j i side lane in
    let near = c.added-near.ensures h j i side lane in
    let all = c.added.ensures h j i side lane in
    let q = byte_at p j i in
    let first : byte_at p (j % 16) i ≡ byte_at p j i = ap (λ k. byte_at p k i) here in
    let last : byte_at p (((j + 8) % 16 + 4) % 16) i ≡ byte_at p ((j + 12) % 16) i = ap (λ k. byte_at p k i) far in
    cc
