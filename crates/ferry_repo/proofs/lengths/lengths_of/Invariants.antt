use Rattle.std.proofs.Common.{◌≡◌, length}
use Rattle.ferry_repo.specs.Lengths.{AreLengths}
use Rattle.ferry_repo.proofs.lengths.lengths_of.Given as goal

-- the lengths of the contents before the place
abbrev pub invariant-loop-place : goal.invariant-loop-place
invariant-loop-place l = record {
  count : length l.sizes.items ≡ l.place;
  sizes : AreLengths l.answers l.blobs l.sizes.items;
}
