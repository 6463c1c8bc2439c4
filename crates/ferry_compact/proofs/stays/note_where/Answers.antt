use Rattle.std.proofs.Common.{List, sym, subst, ◌∙◌}
use Rattle.std.proofs.Common.{MatchResult}
use Rattle.ferry_compact.proofs.ListLemmas.{tested_other, tested_same}
use Rattle.ferry_compact.proofs.StaysLemmas.{entries_taken, takes_passed}
use Rattle.ferry_compact.specs.Reading.{IsOutside}
use Rattle.ferry_compact.specs.Stays.{TakesNotes}
use Rattle.ferry_log.specs.Log.{Located}
use Rattle.ferry_compact.proofs.stays.note_where.Goals as goal

pub returns-then-is_among-among-clause-noted : goal.returns-then-is_among-among-clause-noted
returns-then-is_among-among-clause-noted g c files tells entries has up =
    takes_passed c.args.log.now c.args.chosen.now c.args.among c.args.extent.now.segment entries c.args.stays.now.entries
    (λ e. tested_other c.is_among.result c.args.among c.if-is_among-among.true (c.is_among.ensures up ∙ e))

pub returns-clause-noted : goal.returns-clause-noted
returns-clause-noted g c files tells entries has up =
    subst (λ (log : List Located). MatchResult c.note_segment.result
    (λ x. TakesNotes c.args.log.now c.args.among log c.args.stays.now.entries c.note_segment.new.stays.entries) IsOutside)
    (sym (entries_taken c.args.chosen.now c.args.among c.args.extent.now.segment 8 entries
    (sym (c.is_among.ensures up) ∙ tested_same c.is_among.result c.args.among c.if-is_among-among.false)))
    (c.note_segment.ensures.noted files tells entries has)
