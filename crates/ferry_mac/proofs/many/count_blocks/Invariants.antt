use Rattle.std.proofs.Common.{◌≡◌, ℕ, ◌<◌, ◌≤◌, ◌+◌, slice_index}
use Rattle.ferry_mac.proofs.many.count_blocks.Given as goal

abbrev pub invariant-loop-l : goal.invariant-loop-l
invariant-loop-l g l = record {
  done : (j : ℕ) → j < l.l → slice_index l.lanes.done j ≡ slice_index l.initial.lanes.done j + l.count;
  left : (j : ℕ) → j < l.l → slice_index l.lanes.lefts j + l.count ≡ slice_index l.initial.lanes.lefts j;
  done_behind : (j : ℕ) → l.l ≤ j → slice_index l.lanes.done j ≡ slice_index l.initial.lanes.done j;
  left_behind : (j : ℕ) → l.l ≤ j → slice_index l.lanes.lefts j ≡ slice_index l.initial.lanes.lefts j;
  places : l.lanes.places ≡ l.initial.lanes.places;
  ends : l.lanes.ends ≡ l.initial.lanes.ends;
}
