use Rattle.std.proofs.Common.{refl}
use Rattle.ferry_segment.specs.Entry.{spelling}
use Rattle.ferry_segment.specs.Crc.{crc, register_after, bits_of}
use Rattle.ferry_segment.proofs.laws.constants_spelled.Goals as goal

pub returns : goal.returns
unfolding spelling crc register_after bits_of
returns c = record { begins = refl; commit = refl; segment = refl }
