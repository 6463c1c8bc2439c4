-- The counter blocks that the blobs of a repository's segments take, by what entries state of themselves: their size, their tag, and the type and
-- the nonce of their blob. No checksum is looked at (BorgBackup 1.2, Internals, "Data structures and file formats", Segments and Encryption).
use Rattle.std.specs.Prelude.{◌≡◌, ◌⊎◌, ℕ, ◌+◌, ◌-◌, ◌≤◌, List, [], ◌∷◌, length, take, drop, slice_index}
use Rattle.ferry_base.specs.Limits.{entry_limit}
use Rattle.ferry_blob.specs.Blob.{IsType, IsBlockOf}
use Rattle.ferry_disk.specs.Files.{Files, segment_bytes}
use Rattle.ferry_segment.specs.Entry.{stated_size}
use Rattle.ferry_stops.specs.Counters.{AreBelow}

-- ---- what entries state

-- The entry at the front of these bytes states this size: it is in range, and so many bytes are there.
pub record StatesSize (bytes : List ℕ) (size : ℕ) : Type 0 where
  pub stated : size ≡ stated_size bytes
  pub least : 9 ≤ size
  pub most : size ≤ entry_limit
  pub within : size ≤ length bytes

abbrev pub StatesNoSize : List ℕ → Type 0
StatesNoSize bytes = (size : ℕ) → StatesSize bytes size → ⊥

-- Entries of these stated sizes lie one behind the other from one place up to another.
abbrev pub Lead : List ℕ → ℕ → List ℕ → ℕ → Type 0
Lead bytes from [] to = from ≡ to
Lead bytes from (size ∷ sizes) to = StatesSize (drop from bytes) size × Lead bytes (from + size) sizes to

-- Stated sizes lead from one place to another.
abbrev pub IsReached : List ℕ → ℕ → ℕ → Type 0
IsReached bytes from to = (sizes : List ℕ) × Lead bytes from sizes to

-- The entry at the front of these bytes states that it is a PUT of this blob: what follows the 41 bytes of the head, up to the stated size.
pub record StatesPut (bytes blob : List ℕ) : Type 0 where
  pub size : ℕ
  pub stated : StatesSize bytes size
  pub put : slice_index bytes 8 ≡ 0
  pub room : 41 ≤ size
  pub blob_is : blob ≡ take (size - 41) (drop 41 bytes)

-- A PUT of this blob is stated at a place that stated sizes lead to.
pub record IsStatedFrom (bytes : List ℕ) (from : ℕ) (blob : List ℕ) : Type 0 where
  pub at : ℕ
  pub reached : IsReached bytes from at
  pub put : StatesPut (drop at bytes) blob

-- ---- which blobs take counter blocks

-- The types of blobs that are encrypted by AES-256 in counter mode and authenticated by HMAC-SHA-256 under the keys of a repository: 00 where a
-- key file has them, 03 where the repository has, and 01 of what was written while a passphrase alone gave them.
abbrev pub IsCounterType : ℕ → Type 0
IsCounterType kind = IsType kind ⊎ (kind ≡ 1)

-- A blob takes counter blocks of a repository's key: it has room for each field, and one of these types.
pub record TakesBlocks (blob : List ℕ) : Type 0 where
  pub room : 43 ≤ length blob
  pub kind : IsCounterType (slice_index blob 0)

-- Such a blob is stated at the front of these bytes.
abbrev pub IsCountedPut : List ℕ → List ℕ → Type 0
IsCountedPut bytes blob = StatesPut bytes blob × TakesBlocks blob

-- Such a blob is stated behind a place.
abbrev pub IsCountedFrom : List ℕ → ℕ → List ℕ → Type 0
IsCountedFrom bytes from blob = IsStatedFrom bytes from blob × TakesBlocks blob

-- Such a blob is stated in a segment: from byte 8 on, whatever the first 8 bytes are.
abbrev pub IsCountedIn : Files → ℕ → List ℕ → Type 0
IsCountedIn files segment blob = IsCountedFrom (segment_bytes files segment) 8 blob

-- Such a blob is stated in some segment, committed or not.
abbrev pub IsCountedBlob : Files → List ℕ → Type 0
IsCountedBlob files blob = (segment : ℕ) × IsCountedIn files segment blob

-- ---- the end of the blocks

-- The number behind a counter block of one of these blobs.
pub record IsBehind (Is : List ℕ → Type 0) (end : ℕ) : Type 0 where
  pub blob : List ℕ
  pub is : Is blob
  pub number : ℕ
  pub block : IsBlockOf blob number
  pub next : end ≡ number + 1

-- The least number above all counter blocks of these blobs, 0 where they take none.
pub record IsEndOf (Is : List ℕ → Type 0) (end : ℕ) : Type 0 where
  pub above : AreBelow Is end
  pub reached : (end ≡ 0) ⊎ IsBehind Is end

-- The same of the blobs of a repository's segments.
abbrev pub IsEndOfBlocks : Files → ℕ → Type 0
IsEndOfBlocks files end = IsEndOf (IsCountedBlob files) end
