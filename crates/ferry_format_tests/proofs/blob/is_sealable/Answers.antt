use Rattle.std.proofs.Common.{arith}
use Rattle.ferry_blob.proofs.CallerLemmas.{sealable_by}
use Rattle.ferry_format_tests.proofs.blob.is_sealable.Goals as goal

pub returns : goal.returns
returns c = λ _.
    sealable_by c.args.nonce c.args.buffer.now (omega (arith, c.if-buffer-lt43.false)) (omega (arith, c.if-buffer-gt65536.false))
    (omega (arith, c.if-nonce-gt-NONCE.false))
