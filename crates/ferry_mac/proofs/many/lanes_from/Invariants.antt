use Rattle.std.proofs.Common.{◌≡◌, ℕ, ◌<◌, ◌+◌, slice_index}
use Rattle.ferry_mac.specs.Many.{IsInLane}
use Rattle.ferry_mac.proofs.many.lanes_from.Given as goal

abbrev pub invariant-loop-l : goal.invariant-loop-l
invariant-loop-l g l = record {
  lanes : (j : ℕ) → j < l.l → IsInLane l.texts l.lanes j;
  places : (j : ℕ) → j < l.l → slice_index l.lanes.places j ≡ l.at + j;
  none : (j : ℕ) → j < l.l → slice_index l.lanes.done j ≡ 0;
}
