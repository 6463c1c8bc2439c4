use Rattle.std.proofs.Common.{◌≡◌, arith}
use Rattle.ferry_aes.proofs.Tables.{S_BOX-at}
use Rattle.ferry_aes.proofs.substitution.substituted.Goals as goal

pub returns : goal.returns
returns c =
    let same : c.from.result ≡ c.args.byte = omega arith in
    rw same (S_BOX-at c.args.byte (omega arith))
