use Rattle.std.proofs.Common.{◌≡◌, ℕ, ◌<◌, List, length, slice_index}
use Rattle.ferry_mac.specs.Lanes.{lane}
use Rattle.ferry_mac.specs.Many.{IsCovered, IsHashed, IsInLane}
use Rattle.ferry_mac.proofs.many.hash_in_lanes.Given as goal

-- each text that was taken has its digest or is in a lane
abbrev pub invariant-loop-turn : goal.invariant-loop-turn
invariant-loop-turn g l = record {
  size : length l.digests ≡ length l.initial.digests;
  lanes : (k : ℕ) → k < g.row.N → IsInLane l.texts l.lanes k;
  hash : (h : List ℕ) → ((k : ℕ) → k < g.row.N → lane l.start k ≡ h) → (k : ℕ) → k < g.row.N → IsHashed h l.texts l.lanes l.state k;
  covered : (h : List ℕ) → ((k : ℕ) → k < g.row.N → lane l.start k ≡ h) → (i : ℕ) → i < l.turn
      → IsCovered g.row.N h l.texts l.lanes.places l.digests (slice_index l.order i);
}
