-- Any number of texts in n lanes. Each lane hashes a text behind the block of a key, and takes another one where its text has ended.
use Rattle.std.specs.Prelude.{◌≡◌, ◌⊎◌, ℕ, ◌<◌, ◌+◌, ◌/◌, ◌^◌, List, [], length, slice_index, slice_index_or}
use Rattle.std.specs.Borrow.{Bor}
use Rattle.sha2.specs.Sha256.{compress, digest_bytes, hash_after, initial_hash_256, sha256}
use Rattle.ferry_mac.specs.Hmac.{block_key, hmac256, xored_with}
use Rattle.ferry_mac.specs.Lanes.{IsEnding, behind_key, hashed_behind, lane, nth_text}
use Rattle.ferry_mac.specs.declared.many.Lanes.{Lanes}

-- the digest of a text behind a block, from the hash value after the block
abbrev pub digest_behind : List ℕ → List ℕ → List ℕ
digest_behind start text = digest_bytes (hashed_behind start text) 8

-- each lane has the hash value after the key's block, xored with a pad
abbrev pub HasKey : ℕ → List (List ℕ) → ℕ → List ℕ → Type 0
HasKey n state pad key = (l : ℕ) → l < n → lane state l ≡ compress initial_hash_256 (xored_with pad (block_key sha256 64 key))

-- the text of a lane
abbrev pub text_of : {n : ℕ} → List (Bor (List ℕ)) → Lanes n → ℕ → List ℕ
text_of texts lanes l = nth_text texts (slice_index lanes.places l)

-- what is behind the last whole block of the text of a lane
abbrev pub end_of : {n : ℕ} → Lanes n → ℕ → List ℕ
end_of lanes l = (slice_index_or lanes.ends l (record { bytes = [] })).bytes

-- a lane has the blocks of its text and its padding, some of which are hashed and the others left
pub record IsInLane {n : ℕ} (texts : List (Bor (List ℕ))) (lanes : Lanes n) (l : ℕ) : Type 0 where
  pub ending : IsEnding (end_of lanes l) (text_of texts lanes l)
  pub count : slice_index lanes.done l + slice_index lanes.lefts l ≡ length (behind_key (text_of texts lanes l)) / 64
  pub fits : slice_index lanes.done l + slice_index lanes.lefts l < 2 ^ 60

-- the hash value of a lane is that after the hashed blocks of its text
abbrev pub IsHashed : {n : ℕ} → List ℕ → List (Bor (List ℕ)) → Lanes n → List (List ℕ) → ℕ → Type 0
IsHashed start texts lanes state l = lane state l ≡ hash_after start (behind_key (text_of texts lanes l)) (slice_index lanes.done l)

-- a text has its digest, or is in a lane
abbrev pub IsCovered : ℕ → List ℕ → List (Bor (List ℕ)) → List ℕ → List (List ℕ) → ℕ → Type 0
IsCovered n start texts places digests k =
    (slice_index_or digests k [] ≡ digest_behind start (nth_text texts k)) ⊎ ((l : ℕ) × (l < n) × (slice_index places l ≡ k))

-- the first n numbers are those below n, in some order
pub record HasEach (order : List ℕ) (n : ℕ) : Type 0 where
  pub below : (i : ℕ) → i < n → slice_index order i < n
  pub each : (k : ℕ) → k < n → (i : ℕ) × (i < n) × (slice_index order i ≡ k)

-- a text's MAC stands in its place
abbrev pub HasMac : List ℕ → List (Bor (List ℕ)) → List (List ℕ) → ℕ → Type 0
HasMac key texts macs k = slice_index_or macs k [] ≡ hmac256 key (nth_text texts k)
