use Rattle.ferry_segment.specs.Crc.{all_ones}
use Rattle.ferry_segment.proofs.CrcLemmas.{register_after_parts}
use Rattle.ferry_segment.proofs.entry.head_register.Goals as goal

pub returns : goal.returns
returns c =
    register_after_parts all_ones _ _ _ c.args.size c.args.tag c.args.key.now c.after_bytes-register.ensures c.after_bytes-register-2.ensures
    c.after_bytes.ensures
