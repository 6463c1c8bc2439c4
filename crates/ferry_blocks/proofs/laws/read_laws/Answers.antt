use Rattle.ferry_blocks.proofs.SegmentLemmas.{stated_of, read_below, taken_below}
use Rattle.ferry_blocks.proofs.laws.read_laws.Goals as goal

pub returns-clause-read : goal.returns-clause-read
returns-clause-read c = stated_of

pub returns-clause-above : goal.returns-clause-above
returns-clause-above c = read_below

pub returns-clause-taken : goal.returns-clause-taken
returns-clause-taken c = taken_below
