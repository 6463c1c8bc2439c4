use Rattle.std.proofs.Common.{arith}
use Rattle.ferry_segment.proofs.CrcLemmas.{word_by_tables}
use Rattle.ferry_segment.proofs.crc.word_by_128.Goals as goal

pub returns : goal.returns
returns c = word_by_tables c.args.word (omega arith)
