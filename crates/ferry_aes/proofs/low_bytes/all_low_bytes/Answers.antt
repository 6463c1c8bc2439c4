use Rattle.std.proofs.Common.{◌≡◌, ◌+◌, ◌*◌, ◌%◌, bit_xor, zero, suc, arith, ap, ◌∙◌}
use Rattle.ferry_aes.specs.SBox.{sbox}
use Rattle.ferry_aes.specs.Planes.{byte_at}
use Rattle.ferry_aes.proofs.low_bytes.all_low_bytes.Goals as goal

pub returns : goal.returns
returns c zero j i half lane block =
    let e : (c.args.first + 8 * j + i) % 256 ≡ (c.args.first + 128 * 0 + 8 * j + i) % 256 = omega arith in
    c.low_bytes.ensures j i lane block ∙ ap (λ n. sbox (bit_xor n (byte_at c.args.key.now 15 i))) e
returns c (suc zero) j i half lane block =
    let e : ((c.args.first + 128) % 256 + 8 * j + i) % 256 ≡ (c.args.first + 128 * 1 + 8 * j + i) % 256 = omega arith in
    c.low_bytes-2.ensures j i lane block ∙ ap (λ n. sbox (bit_xor n (byte_at c.args.key.now 15 i))) e
returns c (suc (suc h)) j i half lane block = absurd (omega (arith, half))
