-- Some blobs of chunks, read to be opened at once: their ids, and the blobs in the same order.
use Rattle.std.specs.Prelude.{◌≡◌, ◌≢◌, ℕ, ◌<◌, ◌≤◌, List, length, Vec}
use Rattle.std.specs.declared.alloc.Global.{Global}
use Rattle.ferry_base.specs.Limits.{zero_id}
use Rattle.ferry_blob.specs.Batch.{bytes_at, id_at}
use Rattle.ferry_disk.specs.Files.{Files}
use Rattle.ferry_log.specs.State.{LogState}
use Rattle.ferry_repo.specs.Objects.{HasBlob}

-- There is an id for each blob, and there are 64 at most.
pub record IsBatch (ids : List (List ℕ)) (blobs : List (Vec ℕ Global)) : Type 0 where
  pub each : length ids ≡ length blobs
  pub few : length blobs ≤ 64

-- The chunk of this id is live with this blob. The manifest, which stands under the zero id, is none.
pub record HasChunkBlob (files : Files) (log : LogState) (id blob : List ℕ) : Type 0 where
  pub chunk : id ≢ zero_id
  pub has : HasBlob files log id blob

-- At each place the chunk of the id is live with the blob.
abbrev pub HasBlobs : Files → LogState → List (List ℕ) → List (Vec ℕ Global) → Type 0
HasBlobs files log ids blobs = (k : ℕ) → k < length blobs → HasChunkBlob files log (id_at ids k) (bytes_at blobs k)
