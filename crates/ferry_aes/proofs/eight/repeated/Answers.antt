use Rattle.std.proofs.Common.{◌≡◌, ◌%◌, ◌<◌, get_or, ap, ◌∙◌, arith, []}
use Rattle.std.specs.Prelude.{replicate, slice_index, slice_index_or}
use Rattle.std.proofs.lemmas.Simd.{Each1-get_or, below_from_Fits, get_or-replicate}
use mir.Syntax.{w8}
use Rattle.ferry_aes.proofs.PlanesLemmas.{byte_at-transposed}
use Rattle.ferry_aes.proofs.eight.repeated.Goals as goal

pub returns : goal.returns
returns c j i lane block =
    let v = c.args.block in
    let e : slice_index_or (replicate 8 v) i [] ≡ v = get_or-replicate 8 i v [] block in
    let low : get_or v j 0 < 256 = Each1-get_or (λ x. x < 256) v j 0 (omega (arith, c.fits-block.0, lane)) (below_from_Fits w8 v c.fits-block.1) in
    let same : get_or v j 0 % 256 ≡ get_or v j 0 = omega arith in
    byte_at-transposed c.transposed.result (replicate 8 v) c.transposed.ensures j i lane block ∙ ap (λ xs. slice_index xs j % 256) e ∙ same
