-- The objects of a repository: a live id has a place in the log, where its blob lies, which opens under the repository's keys, or
-- breaks a first rule (BorgBackup 1.2, Internals, Repository, and "Data structures and file formats", Encryption).
use Rattle.std.specs.Prelude.{◌≡◌, ◌≢◌, ◌⊎◌, ℕ, ◌+◌, ◌<◌, List, length, Some, None}
use Rattle.ferry_base.specs.Limits.{zero_id}
use Rattle.ferry_blob.specs.Blob.{OpensTo as OpensBlob, blob_fault}
use Rattle.ferry_blob.specs.declared.fault.BlobFault.{BlobFault}
use Rattle.ferry_disk.specs.Files.{Files, segment_bytes}
use Rattle.ferry_log.specs.State.{LogState, place_in, IsBlobAt}
use Rattle.ferry_log.specs.declared.place.Place.{Place}
use Rattle.ferry_mac.specs.declared.keys.Keys.{Keys}
use Rattle.ferry_repo.specs.declared.fault.RepoFault.{RepoFault}
use Rattle.ferry_repo.specs.declared.fault.RepoFault.TheVariants.{NoCommit, Damaged, Config, Key, Missing, Blob, Manifest, Archive}
use Rattle.ferry_repo.specs.declared.fault.RepoFault.TheVariants.{Item, Size, KeyFile, Other, NoKey, Device, Memory}

-- The log has a place for the id, and this blob lies there.
pub record HasBlob (files : Files) (log : LogState) (id blob : List ℕ) : Type 0 where
  pub place : Place
  pub placed : place_in log id ≡ Some place
  pub lies : IsBlobAt (segment_bytes files place.segment) place.at place.size blob

-- The log has no place for the id: it isn't live.
abbrev pub IsMissing : LogState → List ℕ → Type 0
IsMissing log id = place_in log id ≡ None

-- The id is live, and its blob opens to this content.
pub record HoldsObject (files : Files) (log : LogState) (keys : Keys) (id content : List ℕ) : Type 0 where
  pub blob : List ℕ
  pub has : HasBlob files log id blob
  pub opens : OpensBlob keys id blob content

-- The id is live, and its blob breaks this rule first.
pub record BreaksObject (files : Files) (log : LogState) (keys : Keys) (id : List ℕ) (fault : BlobFault) : Type 0 where
  pub blob : List ℕ
  pub has : HasBlob files log id blob
  pub breaks : blob_fault keys id blob ≡ Some fault

-- What a refusal says of an object: it isn't live, or its blob doesn't open. A blob isn't lost from its place.
abbrev pub RefusesObject : Files → LogState → Keys → List ℕ → RepoFault → Type 0
RefusesObject files log keys id NoCommit = ⊥
RefusesObject files log keys id (Damaged segment at) = ⊥
RefusesObject files log keys id (Config fault) = ⊥
RefusesObject files log keys id (Key fault) = ⊥
RefusesObject files log keys id (Missing named) = (named ≡ id) × IsMissing log id
RefusesObject files log keys id (Blob named fault) = (named ≡ id) × BreaksObject files log keys id fault
RefusesObject files log keys id (Manifest fault) = ⊥
RefusesObject files log keys id (Archive named fault) = ⊥
RefusesObject files log keys id (Item named fault) = ⊥
RefusesObject files log keys id (Size named) = ⊥
RefusesObject files log keys id (KeyFile fault) = ⊥
RefusesObject files log keys id (Other file config) = ⊥
RefusesObject files log keys id NoKey = ⊥
RefusesObject files log keys id Device = Unit {0}
RefusesObject files log keys id Memory = Unit {0}

-- The content of a chunk. The manifest, which stands under the zero id, is none.
pub record HoldsChunk (files : Files) (log : LogState) (keys : Keys) (id content : List ℕ) : Type 0 where
  pub chunk : id ≢ zero_id
  pub object : HoldsObject files log keys id content

-- What a refusal says of a chunk. The zero id counts as not live.
abbrev pub RefusesChunk : Files → LogState → Keys → List ℕ → RepoFault → Type 0
RefusesChunk files log keys id (Missing named) = (named ≡ id) × ((id ≡ zero_id) ⊎ IsMissing log id)
RefusesChunk files log keys id (Blob named fault) = (id ≢ zero_id) × (named ≡ id) × BreaksObject files log keys id fault
RefusesChunk files log keys id fault = RefusesObject files log keys id fault

-- Why no blob is read at a place: the segment ends before it does.
abbrev pub LosesBlob : List ℕ → Place → RepoFault → Type 0
LosesBlob bytes place (Damaged segment at) = length bytes < place.at + place.size
LosesBlob bytes place Device = Unit {0}
LosesBlob bytes place Memory = Unit {0}
LosesBlob bytes place fault = ⊥

-- Why a blob has no content: its first broken rule.
abbrev pub BreaksBlob : Keys → List ℕ → List ℕ → RepoFault → Type 0
BreaksBlob keys id blob (Blob named fault) = (named ≡ id) × (blob_fault keys id blob ≡ Some fault)
BreaksBlob keys id blob fault = ⊥

-- Each blob that is there in these files, by this log, is there in those by that.
abbrev pub KeepsBlobs : Files → LogState → Files → LogState → Type 0
KeepsBlobs files log others after = (id blob : List ℕ) → HasBlob files log id blob → HasBlob others after id blob
