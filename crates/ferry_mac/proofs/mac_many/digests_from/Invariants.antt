use Rattle.std.proofs.Common.{◌≡◌, ℕ, ◌<◌, ◌+◌, [], length, slice_index_or}
use Rattle.ferry_mac.proofs.mac_many.digests_from.Given as goal

abbrev pub invariant-loop-l : goal.invariant-loop-l
invariant-loop-l l = record {
  size : length l.taken ≡ 8;
  digests : (j : ℕ) → j < l.l → l.at + j < length l.digests → slice_index_or l.taken j [] ≡ slice_index_or l.digests (l.at + j) [];
}
