use Rattle.std.proofs.Common.{Some, sym, ◌∙◌}
use Rattle.ferry_compact.proofs.StaysLemmas.{changed_where, kept_where}
use Rattle.ferry_compact.specs.Stays.{is_unfound, noted_at}
use Rattle.ferry_compact.proofs.stays.note_put.Goals as goal

pub returns-in_ok-insert-clause-noted : goal.returns-in_ok-insert-clause-noted
returns-in_ok-insert-clause-noted c at blob q =
    changed_where (λ k. is_unfound (noted_at k c.args.stays.now.entries)) c.args.key.now q (Some (Some c.args.segment))
    (noted_at q c.args.stays.now.entries) (noted_at q c.insert.new.self.entries) (sym c.is_unfound.ensures ∙ c.if-is_unfound.true)
    (c.in_ok-insert.ensures.updates.0 q)

pub returns-else-is_unfound-clause-noted : goal.returns-else-is_unfound-clause-noted
returns-else-is_unfound-clause-noted c at blob q =
    kept_where (λ k. is_unfound (noted_at k c.args.stays.now.entries)) c.args.key.now q (Some (Some c.args.segment))
    (noted_at q c.args.stays.now.entries) (sym c.is_unfound.ensures ∙ c.if-is_unfound.false)
