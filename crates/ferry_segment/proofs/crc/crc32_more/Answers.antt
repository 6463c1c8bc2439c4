use Rattle.std.proofs.Common.{◌≡◌, ◌∙◌, sym, ap, bit_xor}
use Rattle.ferry_segment.specs.Crc.{all_ones, crc_more}
use Rattle.ferry_segment.proofs.CrcLemmas.{crc_more-crc}
use Rattle.ferry_segment.proofs.crc.crc32_more.Goals as goal

pub returns : goal.returns
unfolding crc_more
returns c =
    let more : bit_xor c.after_bytes.result all_ones ≡ crc_more c.args.before c.args.bytes.now = ap (λ k. bit_xor k all_ones) c.after_bytes.ensures in
    record { more = more; joined = λ front e. more ∙ (ap (λ k. crc_more k c.args.bytes.now) e ∙ sym (crc_more-crc front c.args.bytes.now)) }
