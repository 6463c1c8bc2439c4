use Rattle.std.proofs.Common.{◌≡◌, ℕ, ◌<◌, ◌≤◌, ◌-◌, List, [], length, slice_index_or}
use Rattle.ferry_mac.specs.Lanes.{lane, nth_text}
use Rattle.ferry_mac.specs.Many.{digest_behind}
use Rattle.ferry_mac.proofs.mac_many.hash_by_groups.Given as goal

abbrev pub invariant-loop-at : goal.invariant-loop-at
invariant-loop-at l = record {
  size : length l.digests ≡ length l.texts;
  at : l.at ≤ 72;
  digests : (h : List ℕ) → ((j : ℕ) → j < 4 → lane l.start j ≡ h) → (k : ℕ) → k < l.at → k < length l.texts
      → slice_index_or l.digests k [] ≡ digest_behind h (nth_text l.texts k);
}

abbrev pub decreases-loop-at : goal.decreases-loop-at
decreases-loop-at l = 72 - l.at
