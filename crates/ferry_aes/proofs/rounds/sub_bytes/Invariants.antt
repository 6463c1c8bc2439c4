use Rattle.std.proofs.Common.{◌≡◌, ◌++◌, map, take, drop}
use Rattle.ferry_aes.specs.SBox.{sbox}
use Rattle.ferry_aes.proofs.rounds.sub_bytes.Given as goal

abbrev pub invariant-loop-byte : goal.invariant-loop-byte
invariant-loop-byte l =
    l.state ≡ map sbox (take l.byte-index l.initial.state) ++ drop l.byte-index l.initial.state
