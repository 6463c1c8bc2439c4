use Rattle.std.proofs.Common.{ℕ, ◌<◌, ◌≤◌, slice_index}
use Rattle.ferry_mac.proofs.four.most.Given as goal

abbrev pub invariant-loop-l : goal.invariant-loop-l
invariant-loop-l g l = record {
  each : (j : ℕ) → j < l.l → slice_index l.counts j ≤ l.most;
  least : (bound : ℕ) → ((j : ℕ) → j < g.row.N → slice_index l.counts j ≤ bound) → l.most ≤ bound;
}
