use Rattle.std.proofs.Common.{◌≡◌, ℕ, ◌<◌, List, ◌++◌, length, drop, IsOk, Vec, Global}
use Rattle.std.specs.List.{AllByRecursion}
use Rattle.ferry_blob.specs.Batch.{answer_at, bytes_at, id_at}
use Rattle.ferry_disk.specs.Files.{Files}
use Rattle.ferry_log.specs.State.{LogState}
use Rattle.ferry_mac.specs.declared.keys.Keys.{Keys}
use Rattle.ferry_repo.specs.Objects.{HoldsChunk}
use Rattle.ferry_repo.proofs.batch.keep_opened.Given as goal

-- the blobs that are left are the first of all, and what is kept is what opens
abbrev pub invariant-loop-blob : goal.invariant-loop-blob
invariant-loop-blob l = record {
  left : (behind : List (Vec ℕ Global)) × (l.left.items ++ behind ≡ l.fn.blobs.items);
  holds : (files : Files) (log : LogState) (keys : Keys)
      → ((k : ℕ) → k < length l.fn.blobs.items → IsOk (answer_at l.answers k)
      → HoldsChunk files log keys (id_at l.ids k) (drop 43 (bytes_at l.fn.blobs.items k)))
      → AllByRecursion (λ c. HoldsChunk files log keys c.0 c.1) l.fn.cache → AllByRecursion (λ c. HoldsChunk files log keys c.0 c.1) l.cache;
}

abbrev pub decreases-loop-blob : goal.decreases-loop-blob
decreases-loop-blob l = length l.left.items
