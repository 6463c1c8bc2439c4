use Rattle.std.proofs.Common.{◌≡◌, ◌⊎◌, ℕ, ◌<◌, List, [], length, slice_index, slice_index_or}
use Rattle.std.specs.Borrow.{Bor}
use Rattle.ferry_mac.specs.Lanes.{hashed_behind, lane, nth_text}
use Rattle.ferry_mac.specs.Many.{digest_behind}
use Rattle.ferry_mac.proofs.many.put_digests.Given as goal

-- a text that had its digest, or is in a lane before this one, has it
abbrev pub invariant-loop-l : goal.invariant-loop-l
invariant-loop-l g l = record {
  size : length l.digests ≡ length l.initial.digests;
  digests : (h : List ℕ) (texts : List (Bor (List ℕ)))
      → ((j : ℕ) → j < g.row.N → lane l.state j ≡ hashed_behind h (nth_text texts (slice_index l.places j)))
      → (k : ℕ) → k < length l.initial.digests
      → (slice_index_or l.initial.digests k [] ≡ digest_behind h (nth_text texts k)) ⊎ ((j : ℕ) × (j < l.l) × (slice_index l.places j ≡ k))
      → slice_index_or l.digests k [] ≡ digest_behind h (nth_text texts k);
}
