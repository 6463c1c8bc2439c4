use Rattle.std.proofs.Common.{◌≡◌, ℕ, ◌<◌, cond, length, ltb, slice_index}
use Rattle.ferry_mac.proofs.four.going.Given as goal

abbrev pub invariant-loop-l : goal.invariant-loop-l
invariant-loop-l g l = (length l.marks ≡ g.row.N) × ((j : ℕ) → j < l.l → slice_index l.marks j ≡ cond (ltb l.n (slice_index l.counts j)) 1 0)
