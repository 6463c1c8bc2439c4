use Rattle.std.proofs.Common.{◌≡◌, not, false, eqb, map, get_or, sym, ◌∙◌, arith, eqb-true}
use Rattle.std.specs.Simd.Lanes.{chunk, mask_l}
use Rattle.std.proofs.lemmas.Bool.{not-false}
use Rattle.std.proofs.lemmas.Simd.{bitmask_splat, none_from_empty_mask, length-chunk}
use mir.Syntax.{w8}
use Rattle.ferry_lanes.proofs.kernels.is_zero_vector.Goals as goal

pub returns : goal.returns
returns c none k from below =
    let xs = c.args.bytes.now in
    let vector = chunk c.args.at 32 xs in
    let masked = bitmask_splat w8 (λ a b. not (eqb a b)) vector 32 0 (length-chunk c.args.at 32 xs c.requires) (omega arith) in
    let empty : mask_l (map (λ x. not (eqb x 0)) vector) ≡ 0 = sym masked ∙ eqb-true _ 0 none in
    let zero : not (eqb (get_or xs k 0) 0) ≡ false = none_from_empty_mask (λ x. not (eqb x 0)) xs c.args.at 32 0 c.requires empty k from below in
    eqb-true (get_or xs k 0) 0 (not-false _ zero)
