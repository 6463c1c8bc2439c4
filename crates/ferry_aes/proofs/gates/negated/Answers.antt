use Rattle.std.proofs.Common.{◌≡◌, refl, ap, ◌∙◌}
use Rattle.std.specs.Prelude.{replicate}
use Rattle.std.proofs.lemmas.Nat.Bits.{bit_at_ones}
use Rattle.std.proofs.lemmas.Simd.{get_or-replicate}
use Rattle.std.specs.Int.{bit_at}
use Rattle.ferry_aes.specs.Circuit.{add_bits}
use Rattle.ferry_aes.specs.Planes.{wire}
use Rattle.ferry_aes.proofs.BitLemmas.{wire-xor}
use Rattle.ferry_aes.proofs.gates.negated.Goals as goal

pub returns : goal.returns
returns c j i lane bit =
    let set : wire (replicate 16 255) j i ≡ 1 = ap (λ x. bit_at x i) (get_or-replicate 16 j 255 0 lane) ∙ bit_at_ones 8 i bit in
    wire-xor 16 c.args.a (replicate 16 255) j i c.fits-a.0 refl lane ∙ ap (add_bits (wire c.args.a j i)) set
