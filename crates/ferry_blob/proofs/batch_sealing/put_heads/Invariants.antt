use Rattle.std.proofs.Common.{◌≡◌, ℕ, ◌<◌, ◌≤◌, [], ◌∷◌, ◌++◌, drop, slice_index_or}
use Rattle.ferry_blob.specs.Batch.{bytes_at}
use Rattle.ferry_blob.specs.Blob.{type_of}
use Rattle.ferry_blob.proofs.batch_sealing.put_heads.Given as goal

-- the buffers before the place have their heads, and those from it on are as they were
abbrev pub invariant-loop-place : goal.invariant-loop-place
invariant-loop-place l = record {
  heads : (k : ℕ) → k < l.place
      → bytes_at l.buffers k ≡ type_of l.mode ∷ (slice_index_or l.macs k [] ++ drop 33 (bytes_at l.initial.buffers k));
  left : (k : ℕ) → l.place ≤ k → bytes_at l.buffers k ≡ bytes_at l.initial.buffers k;
}
