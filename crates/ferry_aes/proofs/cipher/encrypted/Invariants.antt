use Rattle.std.proofs.Common.{◌≡◌, ◌-◌}
use Rattle.ferry_aes.specs.State.{state_of}
use Rattle.ferry_aes.specs.Cipher.{after_round}
use Rattle.ferry_aes.proofs.cipher.encrypted.Given as goal

abbrev pub invariant-loop-number : goal.invariant-loop-number
invariant-loop-number l = state_of l.state ≡ after_round l.words (state_of l.fn.input) (l.number - 1)
