use Rattle.std.proofs.Common.{◌≡◌, ◌-◌, ap, ◌∙◌, arith}
use Rattle.std.specs.Prelude.{replicate}
use Rattle.std.specs.Int.{bit_at, bit_not, w8}
use Rattle.std.proofs.lemmas.Nat.Bits.{bit_at_not, bit_at-lt}
use Rattle.std.proofs.lemmas.Simd.{get_or-replicate}
use Rattle.ferry_aes.specs.Planes.{wire}
use Rattle.ferry_aes.proofs.BitLemmas.{choice_of_bits}
use Rattle.ferry_aes.proofs.wide_transposition.chosen.Goals as goal

pub returns : goal.returns
returns c j i lane bit =
    let m = c.args.mask in
    let set : wire (replicate 32 m) j i ≡ bit_at m i = ap (λ x. bit_at x i) (get_or-replicate 32 j m 0 lane) in
    let clear : wire (replicate 32 (bit_not w8 m)) j i ≡ 1 - bit_at m i = ap (λ x. bit_at x i) (get_or-replicate 32 j (bit_not w8 m) 0 lane)
    ∙ bit_at_not w8 m i (omega arith) bit in
    rw (c.sum.ensures j i lane, c.product-kept.ensures j i lane, c.product-others.ensures j i lane, set, clear)
    (choice_of_bits (wire c.args.a j i) (wire c.args.b j i) (bit_at m i) (bit_at-lt _ i) (bit_at-lt _ i) (bit_at-lt m i))
