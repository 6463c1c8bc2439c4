use Rattle.std.proofs.Common.{◌≡◌, ◌+◌, ◌*◌, ◌%◌, ◌^◌, ◌/◌, length, take, [], bit_xor, arith, sym, ap, subst, refl, ◌∙◌}
use Rattle.std.specs.Prelude.{slice_index_or}
use Rattle.ferry_aes.specs.SBox.{sbox}
use Rattle.ferry_aes.specs.CounterMode.{output_blocks}
use Rattle.ferry_aes.specs.Planes.{byte_at, HasHigherBytes, HaveLowBytes, HasAllBytes}
use Rattle.ferry_aes.proofs.CounterModeLemmas.{whole_more}
use Rattle.ferry_aes.proofs.FirstRoundLemmas.{higher_by_states, higher_next, higher-wrapped, higher-unwrapped, all_bytes-same}
use Rattle.ferry_aes.proofs.counter.pairs_of_groups.Goals as goal

pub loop-number-init : goal.loop-number-init
unfolding output_blocks
loop-number-init c w keys =
    let made = higher_by_states w c.args.counter c.counters.result c.first_substituted-higher.result c.counters.ensures
    (λ i l. c.first_substituted-higher.ensures w i keys l) in
    let zero_more : c.args.counter + 16 * 0 ≡ c.args.counter = omega arith in (
      refl,
      λ low high. subst (λ n. HasHigherBytes w n c.first_substituted-higher.result) (sym zero_more) made,
    )

pub loop-number-preserved : goal.loop-number-preserved
loop-number-preserved c w keys =
    let n = c.args.counter + 16 * c.loop-number.number in
    let first = n % 2 ^ 128 in
    let second = (first + 8) % 2 ^ 128 in
    let behind : second ≡ (n + 8) % 2 ^ 128 = omega arith in
    let known = c.loop-number.invariant w keys in
    let low : HasHigherBytes w first c.higher_bytes-low.result = c.higher_bytes-low.ensures w keys
    (λ low high. higher-wrapped w n first _ refl (known.1 (omega (arith, low)) (omega (arith, high)))) in
    let high : HasHigherBytes w second c.higher_bytes-next.result = c.higher_bytes-next.ensures w keys
    (λ from to. higher-wrapped w (first + 8) second _ refl (higher_next w first (first + 8) _ refl (omega (arith, from)) (omega (arith, to)) low)) in
    let lows : HaveLowBytes w c.args.counter c.all_low_bytes-lows.result = λ h j i side lane block.
    let number : (c.args.counter % 256 + 128 * h + 8 * j + i) % 256 ≡ (c.args.counter + 128 * h + 8 * j + i) % 256 = omega arith in
    c.all_low_bytes-lows.ensures h j i side lane block
    ∙ ap (λ m. sbox (bit_xor m (byte_at (slice_index_or c.args.keys.now 0 []) 15 i))) number
    ∙ ap (λ k. sbox (bit_xor ((c.args.counter + 128 * h + 8 * j + i) % 256) k)) (keys 0 (omega arith) 3 3 i (omega arith) (omega arith) block) in
    let one : HasAllBytes w first c.group_states-low_states.result = c.group_states-low_states.ensures w c.args.counter first lows low (omega arith) in
    let two : HasAllBytes w second c.group_states-high_states.result = c.group_states-high_states.ensures w c.args.counter second lows high (omega arith) in
    let m = c.args.counter + 16 * (c.loop-number.number + 1) in (
      whole_more w c.args.counter c.loop-number.number first second _ _ known.0 refl behind
          (c.put_two_groups.ensures w first second (c.wide_round_keys-wide_keys.ensures w keys)
          (all_bytes-same w first _ _ c.paired-states.ensures.first one) (all_bytes-same w second _ _ c.paired-states.ensures.second two)),
      λ from to. higher_next w (n + 8) m _ (omega arith) from to (higher-unwrapped w (n + 8) second _ behind high),
    )

pub returns : goal.returns
returns c w keys =
    let e : c.loop-number.number ≡ length c.args.into.now / 256 = omega arith in
    subst (λ k. take (256 * k) c.loop-number.into ≡ output_blocks w c.args.counter (16 * k)) e (c.loop-number.invariant w keys).0
