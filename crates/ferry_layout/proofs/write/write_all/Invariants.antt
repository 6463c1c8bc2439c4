use Rattle.std.proofs.Common.{◌≤◌, length, take}
use Rattle.std.specs.Io.KnownBytes.{Appends}
use Rattle.ferry_layout.proofs.write.write_all.Given as goal

abbrev pub invariant-loop : goal.invariant-loop
invariant-loop g l = record {
  within : l.done ≤ length l.bytes;
  bytes : Appends (g.W.Write.contents l.initial.out) (g.W.Write.contents l.out) (take l.done l.bytes);
}
