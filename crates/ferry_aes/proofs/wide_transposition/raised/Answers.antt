use Rattle.std.proofs.Common.{◌*◌, ◌%◌, ◌^◌, get_or, ap, ◌∙◌, arith}
use Rattle.std.specs.Prelude.{replicate}
use Rattle.std.specs.Int.{bit_at}
use Rattle.std.proofs.lemmas.Simd.{get_or-zip2, get_or-replicate}
use Rattle.ferry_aes.proofs.BitLemmas.{bit_at-raised}
use Rattle.ferry_aes.proofs.wide_transposition.raised.Goals as goal

pub returns : goal.returns
returns c j i lane bit =
    let s = c.args.places in
    let x = get_or c.args.a j 0 in
    ap (λ y. bit_at y i) (get_or-zip2 (λ a b. a * 2 ^ b % 256) c.args.a (replicate 32 s) j 0 0 0 (omega (arith, c.fits-a.0, lane)) (omega (arith, lane))
    ∙ ap (λ b. x * 2 ^ b % 256) (get_or-replicate 32 j s 0 lane))
    ∙ bit_at-raised x s i bit
