use Rattle.std.proofs.Common.{ℕ, ◌<◌, ◌+◌, ◌*◌, take, drop, slice_index}
use Rattle.ferry_mac.specs.Lanes.{HasRows, HasWords, behind_key}
use Rattle.ferry_mac.specs.Many.{text_of}
use Rattle.ferry_mac.proofs.many.put_blocks.Given as goal

abbrev pub invariant-loop-l : goal.invariant-loop-l
invariant-loop-l g l = record {
  rows : HasRows l.w g.row.N;
  words : (j : ℕ) → j < l.l → l.n < slice_index l.lanes.lefts j
      → HasWords l.w j (take 64 (drop ((slice_index l.lanes.done j + l.n) * 64) (behind_key (text_of l.texts l.lanes j))));
}
