use Rattle.ferry_segment.proofs.CrcLemmas.{crc_more-none, crc_more-crc}
use Rattle.ferry_segment.proofs.laws.crc_laws.Goals as goal

pub returns : goal.returns
returns c = record { begins = crc_more-none; joined = crc_more-crc }
