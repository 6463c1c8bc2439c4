use Rattle.std.proofs.Common.{◌≡◌, take}
use Rattle.ferry_keyfile.specs.KeyFile.{solid}
use Rattle.ferry_keyfile.proofs.reading.solid.Given as goal

abbrev pub invariant-loop-byte : goal.invariant-loop-byte
invariant-loop-byte l = l.bytes.items ≡ solid (take l.byte-index l.text)
