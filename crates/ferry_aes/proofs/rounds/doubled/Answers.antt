use Rattle.std.proofs.Common.{arith}
use Rattle.ferry_aes.proofs.Tables.{doubled_low, doubled_high}
use Rattle.ferry_aes.proofs.rounds.doubled.Goals as goal

pub returns-then-byte-lt128 : goal.returns-then-byte-lt128
returns-then-byte-lt128 c = doubled_low c.args.byte (omega arith)

pub returns-else-byte-lt128 : goal.returns-else-byte-lt128
returns-else-byte-lt128 c = doubled_high c.args.byte (omega arith) (omega arith)
