use Rattle.std.proofs.Common.{◌≡◌, ◌+◌, ◌*◌, ◌%◌, bit_xor, arith, ap, ap₂, ◌∙◌}
use Rattle.ferry_aes.specs.SBox.{sbox}
use Rattle.ferry_aes.specs.Planes.{byte_at}
use Rattle.ferry_aes.proofs.PlanesLemmas.{byte_at-transposed}
use Rattle.ferry_aes.proofs.low_bytes.low_bytes.Goals as goal

pub returns : goal.returns
returns c j i lane block =
    let n = (c.args.first + 8 * j + i) % 256 in
    let number = c.numbers.ensures j i lane block in
    let low : n % 256 ≡ n = omega arith in
    let byte : byte_at c.transposed-into.result j i ≡ n = byte_at-transposed c.transposed-into.result c.numbers.result c.transposed-into.ensures j i lane block
    ∙ ap (λ x. x % 256) number ∙ low in
    c.substituted_planes.ensures j i lane block ∙ ap sbox (c.added-state.ensures j i lane ∙ ap₂ bit_xor byte (c.lasts_of-key_bytes.ensures j i lane))
