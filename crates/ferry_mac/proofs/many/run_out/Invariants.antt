use Rattle.std.proofs.Common.{◌≡◌, ℕ, ◌<◌, ◌+◌, List, min, slice_index}
use Rattle.sha2.specs.Sha256.{hash_after}
use Rattle.ferry_mac.specs.Lanes.{HasRows, behind_key, lane}
use Rattle.ferry_mac.specs.Many.{IsHashed, text_of}
use Rattle.ferry_mac.proofs.many.run_out.Given as goal

abbrev pub invariant-loop-n : goal.invariant-loop-n
invariant-loop-n g l = record {
  rows : HasRows l.w g.row.N;
  hash : (start : List ℕ) (k : ℕ) → k < g.row.N → IsHashed start l.texts l.lanes l.fn.state k
      → lane l.state k
      ≡ hash_after start (behind_key (text_of l.texts l.lanes k)) (slice_index l.lanes.done k + min l.n (slice_index l.lanes.lefts k));
}
