-- Up to four blobs at once: what is said of one blob, for each place.
use Rattle.std.specs.Prelude.{◌≡◌, ◌⊎◌, ℕ, ◌+◌, ◌-◌, ◌^◌, ◌≤◌, false, true, List, [], length, map, drop, slice_index, slice_index_or}
use Rattle.std.specs.Prelude.{Some, None, Result, Ok, Err, OnOk, IfErr, Vec, Bool, ◌||◌, if◌then◌else◌}
use Rattle.std.specs.declared.alloc.Global.{Global}
use Rattle.std.specs.Str.{bytes_eq}
use Rattle.ferry_base.specs.Limits.{blob_limit, zero_id}
use Rattle.ferry_mac.specs.declared.keys.Keys.{Keys}
use Rattle.ferry_blob.specs.Blob.{OpensTo, blob_fault, blocks, content_id, decrypted, is_decrypted, nonce_of, sealed, type_of}
use Rattle.ferry_blob.specs.declared.fault.BlobFault.{BlobFault}
use Rattle.ferry_blob.specs.declared.fault.BlobFault.TheVariants.{Short, Id}
use Rattle.ferry_blob.specs.declared.mode.Mode.{Mode}

-- ---- places

-- the bytes of the buffer in a place, and none in a place that has no buffer
abbrev pub bytes_at : List (Vec ℕ Global) → ℕ → List ℕ
bytes_at buffers k = slice_index_or (map (λ buffer. buffer.items) buffers) k []

-- the id for a place
abbrev pub id_at : List (List ℕ) → ℕ → List ℕ
id_at ids k = slice_index_or ids k zero_id

-- the answer for a place
abbrev pub answer_at : List (Result (Unit {0}) BlobFault) → ℕ → Result (Unit {0}) BlobFault
answer_at answers k = slice_index_or answers k (Err Short)

-- ---- opening

-- what opening a blob under an id answers and leaves in its place: all that the clauses of `open_blob` say
pub record IsOpened (keys : Keys) (id before : List ℕ) (answer : Result (Unit {0}) BlobFault) (after : List ℕ) : Type 0 where
  -- at `Ok` the blob opens to what stands behind byte 43
  pub opened : OnOk answer (OpensTo keys id before (drop 43 after))
  -- a fault is the first broken rule, and `Ok` comes where none is broken
  pub fault : IfErr answer (λ fault. blob_fault keys id before ≡ Some fault)
  pub ok : OnOk answer (blob_fault keys id before ≡ None)
  -- after Short, Kind and Mac the blob is as it was
  pub kept : IfErr answer (λ fault. is_decrypted fault ≡ false → after ≡ before)
  -- after Compressed and Id, and at `Ok`, it is decrypted from byte 41 on
  pub refused : IfErr answer (λ fault. is_decrypted fault ≡ true → after ≡ decrypted keys before)
  pub decrypted : OnOk answer (after ≡ decrypted keys before)

-- whether what has the id `name` may stand under `id`
abbrev pub is_id : List ℕ → List ℕ → Bool
is_id id name = bytes_eq id zero_id || bytes_eq id name

-- the answer under an id that may stand there or not, of the answer under the zero id
abbrev pub answer_under : Bool → Result (Unit {0}) BlobFault → Result (Unit {0}) BlobFault
answer_under named (Ok done) = if named then Ok done else Err Id
answer_under named (Err fault) = Err fault

-- ---- sealing

-- a buffer may be sealed from a nonce on: the conditions of `seal`
pub record IsSealable (nonce : ℕ) (buffer : List ℕ) : Type 0 where
  pub head : 43 ≤ length buffer
  pub limit : length buffer ≤ blob_limit
  pub blocks : nonce + blocks (length buffer - 43) ≤ 2 ^ 64 - 1

-- what sealing a buffer from a nonce on leaves in its place: all that the clauses of `seal` say
pub record IsSealed (keys : Keys) (mode : Mode) (first : ℕ) (before after : List ℕ) : Type 0 where
  pub blob : after ≡ sealed keys mode first (drop 43 before)
  pub opens : (id : List ℕ) → (id ≡ zero_id) ⊎ (id ≡ content_id keys (drop 43 before)) → OpensTo keys id after (drop 43 before)
  pub kind : slice_index after 0 ≡ type_of mode
  pub nonce : nonce_of after ≡ first
