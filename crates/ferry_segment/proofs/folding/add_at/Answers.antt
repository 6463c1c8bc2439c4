use Rattle.std.proofs.Common.{◌≡◌, ◌+◌, ◌-◌, ◌++◌, ◌∙◌, ap, take, drop, length, arith}
use Rattle.std.proofs.lemmas.List.{drop-drop}
use Rattle.ferry_lanes.specs.Bytes.{xor_lists}
use Rattle.ferry_segment.proofs.FoldingLemmas.{sum_at}
use Rattle.ferry_segment.proofs.folding.add_at.Goals as goal

pub returns-clause-sum : goal.returns-clause-sum
returns-clause-sum c register =
    let old = c.args.bytes.now in
    let with = c.args.with.now in
    let at = c.args.at in
    let n : at + length with - at ≡ length with = omega arith in
    sum_at register at old with _ c.requires.within
    (ap (λ p. take at old ++ (p ++ drop (at + length with - at) (drop at old))) c.xor_into.ensures.sum
    ∙ (ap (λ k. take at old ++ (xor_lists (take k (drop at old)) with ++ drop k (drop at old))) n
    ∙ ap (λ p. take at old ++ (xor_lists (take (length with) (drop at old)) with ++ p)) (drop-drop (length with) at old)))
