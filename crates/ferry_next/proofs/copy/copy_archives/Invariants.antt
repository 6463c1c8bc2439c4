use Rattle.std.proofs.Common.{◌≡◌, take}
use Rattle.ferry_next.proofs.copy.copy_archives.Given as goal

abbrev pub invariant-loop-archive : goal.invariant-loop-archive
invariant-loop-archive l = l.copies.items ≡ take l.archive-index l.listed
