use Rattle.std.proofs.Common.{sym, ◌∙◌, arith}
use Rattle.ferry_segment.proofs.CrcLemmas.{register_after_more, register_after_all}
use Rattle.ferry_segment.proofs.crc.after_each.Goals as goal

pub loop-byte-preserved : goal.loop-byte-preserved
loop-byte-preserved c =
    register_after_more c.loop-byte.after _ c.args.bytes.now c.loop-byte.byte-index (omega arith) c.after_byte-after.ensures ∙ c.loop-byte.invariant

pub returns : goal.returns
returns c = sym (register_after_all c.loop-byte.after c.args.bytes.now c.loop-byte.byte-index (omega arith)) ∙ c.loop-byte.invariant
