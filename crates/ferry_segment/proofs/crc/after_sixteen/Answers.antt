use Rattle.std.proofs.Common.{arith}
use Rattle.ferry_segment.proofs.CrcLemmas.{sixteen_by_tables}
use Rattle.ferry_segment.proofs.crc.after_sixteen.Goals as goal

pub returns : goal.returns
returns c =
    sixteen_by_tables c.args.register c.from_le_bytes.result c.word_by_128.result c.args.bytes.now c.requires
    (λ i. omega (arith, c.type_inv.bytes i)) c.from_le_bytes.ensures c.word_by_128.ensures
