use Rattle.std.proofs.Common.{◌∙◌, sym}
use Rattle.ferry_segment.proofs.CrcLemmas.{crc_more-none}
use Rattle.ferry_segment.proofs.crc.crc32.Goals as goal

pub returns : goal.returns
returns c = c.crc32_more.ensures.more ∙ sym (crc_more-none c.args.bytes.now)
