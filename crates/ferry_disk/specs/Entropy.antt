-- What contracts see of a source of random bytes in memory.
use Rattle.std.specs.Prelude.{ℕ, List}
use Rattle.ferry_disk.specs.declared.entropy.MemoryEntropy.{MemoryEntropy}

-- the numbers of the calls that fail
abbrev pub failing_of : MemoryEntropy → List ℕ
failing_of entropy = entropy.calls.failing.items

-- how many calls it has had
abbrev pub calls_of : MemoryEntropy → ℕ
calls_of entropy = entropy.calls.calls

-- how many of them failed
abbrev pub faults_of : MemoryEntropy → ℕ
faults_of entropy = entropy.calls.faults

-- how many bytes it has handed out
abbrev pub place_of : MemoryEntropy → ℕ
place_of entropy = entropy.place
