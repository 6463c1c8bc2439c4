use Rattle.std.proofs.Common.{◌≡◌, ◌*◌, ◌++◌, take, drop}
use Rattle.ferry_aes.specs.CounterMode.{ctr}
use Rattle.ferry_blob.proofs.stream.add_key_stream.Given as goal

abbrev pub invariant-loop-number : goal.invariant-loop-number
invariant-loop-number l =
    l.text ≡ ctr l.key l.nonce (take (16384 * l.number) l.initial.text) ++ drop (16384 * l.number) l.initial.text
