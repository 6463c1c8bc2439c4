use Rattle.std.proofs.Common.{◌∙◌, ap, arith, subst, List, ℕ}
use Rattle.std.proofs.lemmas.List.{take_rest}
use Rattle.ferry_segment.proofs.FoldingLemmas.{IsSumAt, register_added}
use Rattle.ferry_segment.specs.Crc.{register_after}
use Rattle.ferry_segment.proofs.folding.after_piece.Goals as goal

pub returns : goal.returns
returns c =
    let copy = c.copy_from_slice.new.self in
    let sum = subst (λ (with : List ℕ). IsSumAt 0 copy with c.add_at.new.bytes) c.to_le_bytes.ensures c.add_at.ensures.sum in
    c.by_tables.ensures
    ∙ (ap (register_after 0) (take_rest c.fold-at.new.bytes c.fold-at.result)
    ∙ (c.fold-at.ensures.left
    ∙ (register_added c.args.register copy c.add_at.new.bytes (omega arith) (omega arith) sum
    ∙ ap (register_after c.args.register) c.copy_from_slice.ensures.after)))
