use Rattle.ferry_segment.proofs.CrcLemmas.{by_table}
use Rattle.ferry_segment.specs.declared.remainders.TheConstants.{AFTER_8}
use Rattle.std.proofs.Common.{ap, ◌∙◌, bit_xor, bit_and, get_or, ◌/◌, arith}
use Rattle.ferry_segment.proofs.crc.after_byte.Goals as goal

pub returns : goal.returns
returns c =
    ap (λ k. bit_xor (c.args.register / 256) (get_or AFTER_8 (bit_and (bit_xor c.args.register k) 255) 0)) c.from.ensures
    ∙ by_table c.args.register c.args.byte (omega arith) (omega arith)
