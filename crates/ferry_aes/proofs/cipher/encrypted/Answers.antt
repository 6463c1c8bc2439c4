use Rattle.std.proofs.Common.{◌≡◌, ◌+◌, ◌-◌, arith}
use Rattle.ferry_aes.proofs.CipherLemmas.{after_round_first, after_round_more, cipher_from_rounds}
use Rattle.ferry_aes.proofs.cipher.encrypted.Goals as goal

pub loop-number-init : goal.loop-number-init
loop-number-init c = after_round_first _ _ _ c.add_round_key.ensures

pub loop-number-preserved : goal.loop-number-preserved
loop-number-preserved c =
    let e : c.loop-number.number + 1 - 1 ≡ c.loop-number.number = omega arith in
    rw e (after_round_more _ _ _ _ _ (omega arith) c.loop-number.invariant c.full_round.ensures)

pub returns : goal.returns
returns c = cipher_from_rounds _ _ _ _ _ (omega arith) c.loop-number.invariant c.final_round.ensures
