-- Contents in buffers, which stand behind byte 43 or are sealed already.
use Rattle.std.specs.Prelude.{◌≡◌, ℕ, ◌+◌, ◌≤◌, Bool, true, false, IsTrue, List, drop, length}
use Rattle.ferry_base.specs.Limits.{blob_limit}
use Rattle.ferry_blob.specs.Batch.{IsSealed}
use Rattle.ferry_blob.specs.Blob.{content_id, decrypted, nonce_of}
use Rattle.ferry_blob.specs.declared.mode.Mode.{Mode}
use Rattle.ferry_mac.specs.declared.keys.Keys.{Keys}
use Rattle.ferry_repo.specs.Opening.{RepoState, mode_of}

-- a buffer, or what it is decrypted where it is a blob
abbrev pub opened_in : Keys → Bool → List ℕ → List ℕ
opened_in keys false buffer = buffer
opened_in keys true buffer = decrypted keys buffer

-- the content of a buffer
abbrev pub content_in : Keys → Bool → List ℕ → List ℕ
content_in keys is_blob buffer = drop 43 (opened_in keys is_blob buffer)

-- A buffer has room for the head of a blob, and no more than a blob has.
pub record HasSize (buffer : List ℕ) : Type 0 where
  pub head : 43 ≤ length buffer
  pub limit : length buffer ≤ blob_limit

-- A buffer of which it is said that it is a blob was sealed, of counter blocks from some nonce on.
abbrev pub IsReady : Keys → Mode → Bool → List ℕ → Type 0
IsReady keys mode is_blob buffer = IsTrue is_blob → IsSealed keys mode (nonce_of buffer) (decrypted keys buffer) buffer

-- A buffer has a content of this id, sealed already or not.
pub record IsPrepared (repo : RepoState) (id : List ℕ) (is_blob : Bool) (buffer : List ℕ) : Type 0 where
  pub named : id ≡ content_id repo.keys (content_in repo.keys is_blob buffer)
  pub whole : length buffer ≡ 43 + length (content_in repo.keys is_blob buffer)
  pub limit : length buffer ≤ blob_limit
  pub ready : IsReady repo.keys (mode_of repo.config) is_blob buffer

-- A buffer with a content behind byte 43 was prepared.
pub record Prepares (repo : RepoState) (before id : List ℕ) (is_blob : Bool) (after : List ℕ) : Type 0 where
  pub prepared : IsPrepared repo id is_blob after
  pub content : content_in repo.keys is_blob after ≡ drop 43 before
