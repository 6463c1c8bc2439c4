use Rattle.std.proofs.Common.{◌≡◌, ◌-◌, ◌*◌, ◌%◌, ◌<◌, arith, ◌∙◌, ap, length, take, drop, length-drop}
use Rattle.std.proofs.lemmas.List.{take_all}
use Rattle.std.specs.Prelude.{slice_index}
use Rattle.std.proofs.lemmas.Simd.{Each1-get_or}
use Rattle.ferry_aes.specs.Cipher.{piece}
use Rattle.ferry_aes.specs.Planes.{crossed_place}
use Rattle.ferry_aes.proofs.CounterModeLemmas.{length-piece, piece-bytes}
use Rattle.ferry_aes.proofs.joining.block_rows.Goals as goal

pub returns : goal.returns
returns c m within =
    let xs = piece c.args.bytes.now c.args.i in
    let long : length xs ≡ 16 = length-piece c.args.bytes.now c.args.i c.told-bytes c.requires in
    let low : slice_index xs (crossed_place m) < 256 = Each1-get_or (λ x. x < 256) xs (crossed_place m) 0 (omega (arith, long, within))
    (piece-bytes c.args.bytes.now c.args.i c.fits-bytes) in
    let same : slice_index xs (crossed_place m) % 256 ≡ slice_index xs (crossed_place m) = omega (arith, low) in
    let at = 16 * c.args.i in
    let rest : take (256 - at) (drop at c.args.bytes.now) ≡ drop at c.args.bytes.now =
    take_all (256 - at) (drop at c.args.bytes.now) (omega (arith, length-drop at c.args.bytes.now, c.told-bytes)) in
    c.crossed.ensures.places m within ∙ ap (λ ys. slice_index (take 16 ys) (crossed_place m) % 256) rest ∙ same
