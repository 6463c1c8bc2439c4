use Rattle.ferry_segment.proofs.SegmentLemmas.{some_answer, split_unbroken, one_split, one_break}
use Rattle.ferry_segment.proofs.laws.segment_laws.Goals as goal

pub returns : goal.returns
returns c = record { some = some_answer; apart = split_unbroken; one_split = one_split; one_place = one_break }
