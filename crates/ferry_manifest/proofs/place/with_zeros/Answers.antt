use Rattle.std.proofs.Common.{◌≡◌, ◌-◌, ℕ, List, ◌++◌, length, take, replicate, append_assoc, ap, ◌∙◌, rules}
use Rattle.ferry_manifest.proofs.place.with_zeros.Goals as goal

pub returns : goal.returns
returns c =
    let place = length c.args.bytes.now - length c.args.back.now - 64 in
    let front : c.in_ok-copy.copy.items ≡ take place c.args.bytes.now = search rules in
    c.in_ok-extend_from_slice-2.ensures.items
    ∙ ap (λ (s : List ℕ). s ++ c.args.back.now) (c.in_ok-extend_from_slice.ensures.items ∙ ap (λ (s : List ℕ). s ++ replicate 64 0) front)
    ∙ append_assoc (take place c.args.bytes.now) (replicate 64 0) c.args.back.now
