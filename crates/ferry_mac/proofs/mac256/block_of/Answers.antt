use Rattle.std.proofs.lemmas.Grind.{common_steps}
use Rattle.std.proofs.Common.{arith}
use Rattle.ferry_mac.specs.Hmac.{block_key}
use Rattle.ferry_mac.proofs.mac256.block_of.Goals as goal

pub returns-then-key-le-BLOCK_LEN : goal.returns-then-key-le-BLOCK_LEN
unfolding block_key
returns-then-key-le-BLOCK_LEN c = grind (arith, common_steps)

pub returns-else-key-le-BLOCK_LEN : goal.returns-else-key-le-BLOCK_LEN
unfolding block_key
returns-else-key-le-BLOCK_LEN c = grind (arith, common_steps)
