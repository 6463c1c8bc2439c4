use Rattle.std.proofs.Common.{Some, None, is_none, not, Option, sym, ◌∙◌, ap}
use Rattle.ferry_log.specs.declared.place.Place.{Place}
use Rattle.ferry_compact.proofs.StaysLemmas.{changed_where, kept_where}
use Rattle.ferry_compact.specs.Stays.{noted_at}
use Rattle.ferry_log.specs.State.{place_in}
use Rattle.ferry_compact.proofs.stays.note_delete.Goals as goal

pub returns-in_ok-insert-clause-noted : goal.returns-in_ok-insert-clause-noted
returns-in_ok-insert-clause-noted c at q =
    changed_where (λ k. is_none (place_in c.args.log.now k)) c.args.key.now q (Some None) (noted_at q c.args.stays.now.entries)
    (noted_at q c.insert.new.self.entries)
    (ap (λ (p : Option Place). is_none p) (sym c.find.ensures) ∙ (ap not c.is_none.ensures ∙ ap (λ b. not (not b)) c.if-is_none.true))
    (c.in_ok-insert.ensures.updates.0 q)

pub returns-else-is_none-clause-noted : goal.returns-else-is_none-clause-noted
returns-else-is_none-clause-noted c at q =
    kept_where (λ k. is_none (place_in c.args.log.now k)) c.args.key.now q (Some None) (noted_at q c.args.stays.now.entries)
    (ap (λ (p : Option Place). is_none p) (sym c.find.ensures) ∙ (ap not c.is_none.ensures ∙ ap (λ b. not (not b)) c.if-is_none.false))
