use Rattle.std.proofs.Common.{arith}
use Rattle.ferry_aes.proofs.Tables.{tripled}
use Rattle.ferry_aes.proofs.rounds.tripled.Goals as goal

pub returns : goal.returns
returns c = rw c.doubled.ensures (tripled c.args.byte (omega arith))
