use Rattle.ferry_aes.proofs.CipherLemmas.{last_round_by_blocks}
use Rattle.ferry_aes.proofs.cipher.final_round.Goals as goal

pub returns : goal.returns
returns c = last_round_by_blocks _ _ _ _ _ c.sub_bytes.ensures c.shift_rows.ensures c.add_round_key.ensures
