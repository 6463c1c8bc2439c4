use Rattle.ferry_segment.proofs.EntryLemmas.{delete_spelled}
use Rattle.std.proofs.Common.{refl}
use Rattle.ferry_segment.proofs.entry.delete_entry.Goals as goal

pub returns : goal.returns
returns c =
    delete_spelled c.args.key.now _ _ _ _ _ c.told-key refl c.to_le_bytes-size.ensures c.head_register-crc.ensures c.to_le_bytes.ensures c.head_of.ensures
