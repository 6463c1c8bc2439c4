use Rattle.ferry_aes.proofs.CipherLemmas.{round_by_blocks}
use Rattle.ferry_aes.proofs.cipher.full_round.Goals as goal

pub returns : goal.returns
returns c =
    round_by_blocks _ _ _ _ _ _ _ c.sub_bytes.ensures c.shift_rows.ensures c.mix_columns.ensures c.add_round_key.ensures
