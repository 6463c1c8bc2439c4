use Rattle.std.proofs.Common.{◌≡◌, ◌+◌, ◌*◌, ◌/◌, ◌%◌, ◌<◌, ℕ, bit_xor, arith, ap, ◌∙◌}
use Rattle.std.specs.Prelude.{slice_index}
use Rattle.ferry_aes.specs.SBox.{sbox}
use Rattle.ferry_aes.specs.State.{word}
use Rattle.ferry_aes.specs.Planes.{byte_at}
use Rattle.ferry_aes.proofs.FirstRoundLemmas.{all_bytes}
use Rattle.ferry_aes.proofs.counter.group_states.Goals as goal

pub returns : goal.returns
returns c w n first lows higher same =
    let g = c.args.group in
    let last : (i : ℕ) → i < 8 → byte_at c.with_lasts.result 15 i ≡ sbox (bit_xor ((first + i) % 256) (slice_index (word w 3) 3)) = λ i block.
    let number : (n + 128 * (g / 16 % 2) + 8 * (g % 16) + i) % 256 ≡ (first + i) % 256 = omega (arith, same) in
    c.with_lasts.ensures.last i ∙ lows (g / 16 % 2) (g % 16) i (omega arith) (omega arith) block
    ∙ ap (λ m. sbox (bit_xor m (slice_index (word w 3) 3))) number in
    all_bytes w first _ _ higher c.with_lasts.ensures.others last
