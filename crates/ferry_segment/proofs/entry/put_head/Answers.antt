use Rattle.ferry_segment.proofs.EntryLemmas.{put_spelled}
use Rattle.std.proofs.Common.{refl}
use Rattle.ferry_segment.proofs.entry.put_head.Goals as goal

pub returns : goal.returns
returns c =
    put_spelled c.args.key.now c.args.blob.now _ _ _ _ _ _ c.told-key refl c.to_le_bytes-size.ensures c.head_register-crc.ensures c.after_bytes-crc.ensures
    c.to_le_bytes.ensures c.head_of.ensures
