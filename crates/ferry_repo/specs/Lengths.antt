-- The lengths of the contents of several chunks that are opened side by side, and why the first that is refused is.
use Rattle.std.specs.Prelude.{◌≡◌, ℕ, ◌-◌, ◌<◌, List, length, slice_index_or, Result, Err, IsOk, Vec}
use Rattle.std.specs.declared.alloc.Global.{Global}
use Rattle.ferry_base.specs.Limits.{zero_id}
use Rattle.ferry_blob.specs.Batch.{answer_at, bytes_at, id_at}
use Rattle.ferry_blob.specs.declared.fault.BlobFault.{BlobFault}
use Rattle.ferry_disk.specs.Files.{Files}
use Rattle.ferry_log.specs.State.{LogState}
use Rattle.ferry_mac.specs.declared.keys.Keys.{Keys}
use Rattle.ferry_repo.specs.Objects.{HoldsChunk, RefusesChunk}
use Rattle.ferry_repo.specs.declared.fault.RepoFault.{RepoFault}
use Rattle.ferry_repo.specs.declared.fault.RepoFault.TheVariants.{Blob}

-- The content of the chunk of this id has this length.
pub record HasLength (files : Files) (log : LogState) (keys : Keys) (id : List ℕ) (size : ℕ) : Type 0 where
  pub content : List ℕ
  pub holds : HoldsChunk files log keys id content
  pub size_is : size ≡ length content

-- In each place of these lengths stands that of the content of the chunk whose id is in that place.
abbrev pub HaveLengths : Files → LogState → Keys → List (List ℕ) → List ℕ → Type 0
HaveLengths files log keys ids sizes = (k : ℕ) → k < length sizes → HasLength files log keys (slice_index_or ids k zero_id) (slice_index_or sizes k 0)

-- One of these chunks is refused so, and each one before it opens.
pub record RefusesOne (files : Files) (log : LogState) (keys : Keys) (ids : List (List ℕ)) (fault : RepoFault) : Type 0 where
  pub place : ℕ
  pub low : place < length ids
  pub before : (k : ℕ) → k < place → (content : List ℕ) × HoldsChunk files log keys (slice_index_or ids k zero_id) content
  pub refused : RefusesChunk files log keys (slice_index_or ids place zero_id) fault

-- ---- blobs that were opened

-- In each place of these lengths a blob was opened, and the length is that of what stands behind its first 43 bytes.
abbrev pub AreLengths : List (Result (Unit {0}) BlobFault) → List (Vec ℕ Global) → List ℕ → Type 0
AreLengths answers blobs sizes = (k : ℕ) → k < length sizes
    → IsOk (answer_at answers k) × (slice_index_or sizes k 0 ≡ length (bytes_at blobs k) - 43)

-- In one of so many places this is the fault, and each one before it was opened.
pub record BreaksPlace (ids : List (List ℕ)) (answers : List (Result (Unit {0}) BlobFault)) (count : ℕ) (fault : RepoFault) : Type 0 where
  pub place : ℕ
  pub low : place < count
  pub before : (k : ℕ) → k < place → IsOk (answer_at answers k)
  pub broken : BlobFault
  pub answer : answer_at answers place ≡ Err broken
  pub fault_is : fault ≡ Blob (id_at ids place) broken
