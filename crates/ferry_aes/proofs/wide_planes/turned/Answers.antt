use Rattle.std.proofs.Common.{◌≡◌, ◌<◌, ◌+◌, ◌*◌, ◌/◌, ◌%◌, ap, ◌∙◌, arith}
use Rattle.ferry_aes.specs.Planes.{byte_at}
use Rattle.ferry_aes.proofs.ByteLemmas.{byte_at-moved}
use Rattle.ferry_aes.proofs.HalvesLemmas.{half-moved}
use Rattle.ferry_aes.proofs.wide_planes.turned.Goals as goal

pub returns : goal.returns
returns c h j i side lane =
    let m = 16 * h + j in
    let within : m < 32 = omega arith in
    let place : (16 * h + j) / 4 * 4 + (16 * h + j + (16 * h + j) / 4) % 4 ≡ 16 * h + (j / 4 * 4 + (j + j / 4) % 4) = omega arith in
    half-moved c.args.p.now _ h j (j / 4 * 4 + (j + j / 4) % 4) i lane (omega arith)
    (byte_at-moved c.args.p.now _ _ _ _ _ _ _ _ m _ i
    (c.turned_plane.ensures m within) (c.turned_plane-2.ensures m within) (c.turned_plane-3.ensures m within) (c.turned_plane-4.ensures m within)
    (c.turned_plane-5.ensures m within) (c.turned_plane-6.ensures m within) (c.turned_plane-7.ensures m within) (c.turned_plane-8.ensures m within)
    ∙ ap (λ k. byte_at c.args.p.now k i) place)
