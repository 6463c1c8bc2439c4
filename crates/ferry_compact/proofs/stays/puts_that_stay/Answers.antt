use Rattle.ferry_compact.proofs.ListLemmas.{no_length}
use Rattle.ferry_compact.proofs.StaysLemmas.{notes_none}
use Rattle.ferry_compact.proofs.stays.puts_that_stay.Goals as goal

pub returns-then-is_empty-clause-stays : goal.returns-then-is_empty-clause-stays
returns-then-is_empty-clause-stays g c files tells entries covers up =
    notes_none c.args.log.now c.args.chosen.now entries c.new-stays.result.entries c.note_segments.new.stays.entries c.new-stays.ensures.empty
    (no_length _ (c.is_empty.ensures.0 c.if-is_empty.true)) (c.in_ok-note_segments.ensures.noted files tells entries covers up)
