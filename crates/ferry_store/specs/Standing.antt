-- What the entries hold that are written: the blobs of live ids, and the manifest (BorgBackup 1.2, Internals, Repository).
use Rattle.std.specs.Prelude.{◌≡◌, ◌≢◌, ◌↔◌, ℕ, ◌-◌, List, [], ◌∷◌, ◌++◌, filter, length, slice_get, Option, Some, option_and_then, unwrap_or, Ok}
use Rattle.ferry_base.specs.Limits.{zero_id}
use Rattle.ferry_blob.specs.Blob.{OpensTo}
use Rattle.ferry_config.specs.declared.config.Config.{Config}
use Rattle.ferry_disk.specs.Files.{Files}
use Rattle.ferry_keyblob.specs.Opening.{Opened}
use Rattle.ferry_log.specs.Live.{names_key, put_blob}
use Rattle.ferry_log.specs.State.{LogState}
use Rattle.ferry_mac.specs.declared.keys.Keys.{Keys}
use Rattle.ferry_manifest.specs.Manifest.Text.{ManifestText, manifest_of}
use Rattle.ferry_repo.specs.Objects.{HasBlob}
use Rattle.ferry_repo.specs.Opening.{OpensFilesTo, RepoState, UnlocksTo}
use Rattle.ferry_repo.specs.declared.secret.Secret.{Secret}
use Rattle.ferry_segment.specs.Entry.{LogEntry, CommitEntry}
use Rattle.ferry_store.specs.State.{Written}

-- ---- what is live

-- the last of these entries that names an id
abbrev pub last_named : List ℕ → List LogEntry → Option LogEntry
last_named id entries = slice_get (filter (names_key id) entries) (length (filter (names_key id) entries) - 1)

-- the blob of an id, where the last of these entries that names it is a PUT
unfoldable pub live_in : List ℕ → List LogEntry → Option (List ℕ)
live_in id entries = option_and_then put_blob (last_named id entries)

-- Each id that is live by these entries is live by those, with the same blob.
abbrev pub Keeps : List LogEntry → List LogEntry → Type 0
Keeps before after = (id blob : List ℕ) → live_in id before ≡ Some blob → live_in id after ≡ Some blob

-- The blobs of a log over files are those of the ids that are live by these entries, apart from the manifest's.
abbrev pub HoldsLive : Files → LogState → List LogEntry → Type 0
HoldsLive files log entries = (id blob : List ℕ) → id ≢ zero_id → HasBlob files log id blob ↔ (live_in id entries ≡ Some blob)

-- ---- what is written

-- what was committed
abbrev pub committed_of : Written → List LogEntry
committed_of written = unwrap_or written.committed []

-- what was committed, and what was put since
abbrev pub entries_of : Written → List LogEntry
entries_of written = committed_of written ++ written.pending

-- the same, committed
abbrev pub entries_committed : Written → List LogEntry
entries_committed written = entries_of written ++ CommitEntry ∷ []

-- ---- the manifest

-- By these entries the zero id is live, and its blob opens to the manifest of a repository.
pub record HoldsManifest (repo : RepoState) (entries : List LogEntry) : Type 0 where
  pub blob : List ℕ
  pub content : List ℕ
  pub live : live_in zero_id entries ≡ Some blob
  pub opens : OpensTo repo.keys zero_id blob content
  pub reads : manifest_of repo.keys content ≡ Ok repo.manifest

-- Entries are committed, and hold the manifest of a repository.
pub record CommitsManifest (repo : RepoState) (committed : Option (List LogEntry)) : Type 0 where
  pub entries : List LogEntry
  pub is : committed ≡ Some entries
  pub holds : HoldsManifest repo entries

-- a repository with another manifest
abbrev pub with_manifest : RepoState → ManifestText → RepoState
with_manifest repo manifest = record repo { manifest = manifest }

-- ---- the settings

-- A file `config`, where absent is empty, reads, and the secret opens its key: to these settings and these secrets.
pub record UnlocksSettings (secret : Secret) (file : Option (List ℕ)) (config : Config) (keys : Keys) : Type 0 where
  pub iterations : ℕ
  pub key : Opened
  pub unlocks : UnlocksTo (unwrap_or file []) secret config iterations key
  pub keys_are : keys ≡ key.keys

-- Files open under a secret to a repository with another log, whose blobs are those of the ids that are live by these entries.
pub record OpensLive (files : Files) (secret : Secret) (repo : RepoState) (entries : List LogEntry) : Type 0 where
  pub log : LogState
  pub opens : OpensFilesTo files secret (record repo { log = log })
  pub blobs : (id blob : List ℕ) → HasBlob files log id blob ↔ (live_in id entries ≡ Some blob)
