use Rattle.std.proofs.Common.{◌≡◌, ℕ, ◌<◌, ◌≤◌, ◌-◌, List, [], length, slice_index_or}
use Rattle.ferry_mac.specs.Lanes.{lane}
use Rattle.ferry_mac.specs.Many.{digest_behind}
use Rattle.ferry_mac.proofs.mac_many.finish_macs.Given as goal

abbrev pub invariant-loop-at : goal.invariant-loop-at
invariant-loop-at l = record {
  size : length l.macs ≡ length l.initial.macs;
  at : l.at ≤ 72;
  digests : (h : List ℕ) → ((j : ℕ) → j < 4 → lane l.outer j ≡ h) → (k : ℕ) → k < l.at → k < length l.initial.macs
      → slice_index_or l.macs k [] ≡ digest_behind h (slice_index_or l.initial.macs k []);
  others : (k : ℕ) → l.at ≤ k → slice_index_or l.macs k [] ≡ slice_index_or l.initial.macs k [];
}

abbrev pub decreases-loop-at : goal.decreases-loop-at
decreases-loop-at l = 72 - l.at
