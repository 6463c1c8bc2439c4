use Rattle.ferry_piece.specs.Puts.{Content, Stream}
use Rattle.ferry_plan.proofs.TallyLemmas.{counts_nothing, knows_nothing}
use Rattle.ferry_plan.proofs.tally.Tally.new.Goals as goal

pub returns-clause-nothing : goal.returns-clause-nothing
returns-clause-nothing c keys log =
    let contents = c.in_ok-new.field-0 in
    let stream = c.in_ok-new-2.field-0 in
    record {
      knows = knows_nothing keys log c.new.result c.new.ensures.empty;
      contents = counts_nothing Content contents.put contents.bytes c.in_ok-new.ensures.counted.0 c.in_ok-new.ensures.counted.1;
      stream = counts_nothing Stream stream.put stream.bytes c.in_ok-new-2.ensures.counted.0 c.in_ok-new-2.ensures.counted.1;
    }
