use Rattle.std.proofs.Common.{arith}
use Rattle.std.proofs.lemmas.List.Edits.{map_over_more}
use Rattle.std.proofs.lemmas.Grind.{common_steps}
use Rattle.ferry_aes.specs.SBox.{sbox}
use Rattle.ferry_aes.proofs.StateLemmas.{sbox_at_end}
use Rattle.ferry_aes.proofs.rounds.sub_bytes.Goals as goal

pub loop-byte-preserved : goal.loop-byte-preserved
loop-byte-preserved c = grind (arith, common_steps, map_over_more sbox)

pub returns : goal.returns
returns c = sbox_at_end _ _ _ c.told-state (omega arith) c.loop-byte.invariant
