-- Blobs, the encrypted objects of a repository. BorgBackup 1.2 Internals, "Data structures and file
-- formats", Encryption: in 1 byte the type, 03 where the repository keeps its key and 00 where a key
-- file does; in 32 bytes the HMAC-SHA-256 of all that follows; in
-- 8 bytes the nonce, the highest first; and the plaintext, encrypted by AES-256 in counter mode from
-- the block of 8 zero bytes and the nonce on. The plaintext is the compression header, 00 00 for
-- none, and the content. The type isn't under the MAC.
use Rattle.std.specs.Prelude.{◌≡◌, ◌⊎◌, ℕ, ◌+◌, ◌-◌, ◌/◌, ◌<◌, ◌≤◌, ◌==◌, nat_lt, ◌||◌, not, Bool, true, false, if◌then◌else◌, List, [], ◌∷◌, ◌++◌, length}
use Rattle.std.specs.Prelude.{take, drop, slice_index, Option, Some, None}
use Rattle.std.specs.Int.{w64, to_be_bytes, from_be_bytes}
use Rattle.std.specs.Str.{bytes_eq}
use Rattle.ferry_base.specs.Limits.{zero_id}
use Rattle.ferry_aes.specs.CounterMode.{ctr}
use Rattle.ferry_mac.specs.Hmac.{hmac256}
use Rattle.ferry_mac.specs.declared.keys.Keys.{Keys}
use Rattle.ferry_blob.specs.declared.fault.BlobFault.{BlobFault}
use Rattle.ferry_blob.specs.declared.fault.BlobFault.TheVariants.{Kind, Short, Mac, Compressed, Id}
use Rattle.ferry_blob.specs.declared.mode.Mode.{Mode}
use Rattle.ferry_blob.specs.declared.mode.Mode.TheVariants.{Repokey, Keyfile}

-- ---- ids

-- the id of a content: its HMAC-SHA-256 under the id key
unfoldable pub content_id : Keys → List ℕ → List ℕ
content_id keys content = hmac256 keys.id_key content

-- ---- the fields of a blob

-- the type of the blobs of a mode
abbrev pub type_of : Mode → ℕ
type_of Repokey = 3
type_of Keyfile = 0

-- A number is the type of a mode.
abbrev pub IsType : ℕ → Type 0
IsType kind = (kind ≡ type_of Repokey) ⊎ (kind ≡ type_of Keyfile)

-- the nonce: the number of the 8 bytes from byte 33 on, the highest first
unfoldable pub nonce_of : List ℕ → ℕ
nonce_of blob = from_be_bytes w64 (take 8 (drop 33 blob))

-- the plaintext: what follows the nonce, decrypted from the nonce's counter block on
unfoldable pub plaintext : Keys → List ℕ → List ℕ
plaintext keys blob = ctr keys.enc_key (nonce_of blob) (drop 41 blob)

-- the compression header of a content that isn't compressed
abbrev pub no_compression : List ℕ
no_compression = 0 ∷ 0 ∷ []

-- A blob is authentic: it has room for each field, the type of a mode, and the MAC of all that follows it.
pub record IsAuthentic (keys : Keys) (blob : List ℕ) : Type 0 where
  pub size : 43 ≤ length blob
  pub kind : IsType (slice_index blob 0)
  pub mac : take 32 (drop 1 blob) ≡ hmac256 keys.enc_hmac_key (drop 33 blob)

-- A blob opens under an id to a content: it has room for each field, the type of a mode, whichever,
-- and the MAC of all that follows the MAC; the plaintext is the header 00 00 and the content; and the id is the zero id
-- or that of the content.
pub record OpensTo (keys : Keys) (id blob content : List ℕ) : Type 0 where
  pub size : 43 ≤ length blob
  pub kind : IsType (slice_index blob 0)
  pub mac : take 32 (drop 1 blob) ≡ hmac256 keys.enc_hmac_key (drop 33 blob)
  pub plain : plaintext keys blob ≡ no_compression ++ content
  pub named : (id ≡ zero_id) ⊎ (id ≡ content_id keys content)

-- ---- the first broken rule

-- whether a number is the type of a mode
unfoldable pub has_type : ℕ → Bool
has_type kind = (kind == type_of Repokey) || (kind == type_of Keyfile)

-- whether the MAC is that of all that follows it
unfoldable pub has_mac : Keys → List ℕ → Bool
has_mac keys blob = bytes_eq (take 32 (drop 1 blob)) (hmac256 keys.enc_hmac_key (drop 33 blob))

-- whether the header says that the content isn't compressed
unfoldable pub is_plain : Keys → List ℕ → Bool
is_plain keys blob = bytes_eq (take 2 (plaintext keys blob)) no_compression

-- whether a content may stand under an id
unfoldable pub is_named : Keys → List ℕ → List ℕ → Bool
is_named keys id content = bytes_eq id zero_id || bytes_eq id (content_id keys content)

-- the first of Short, Kind, Mac, Compressed and Id that holds
unfoldable pub blob_fault : Keys → List ℕ → List ℕ → Option BlobFault
blob_fault keys id blob =
    if nat_lt (length blob) 43 then Some Short
    else if not (has_type (slice_index blob 0)) then Some Kind
    else if not (has_mac keys blob) then Some Mac
    else if not (is_plain keys blob) then Some Compressed
    else if not (is_named keys id (drop 2 (plaintext keys blob))) then Some Id
    else None

-- ---- what stands in the place of a blob

-- a blob with the plaintext in the place of the ciphertext
unfoldable pub decrypted : Keys → List ℕ → List ℕ
decrypted keys blob = take 41 blob ++ plaintext keys blob

-- whether a fault is found behind the decryption
abbrev pub is_decrypted : BlobFault → Bool
is_decrypted Kind = false
is_decrypted Short = false
is_decrypted Mac = false
is_decrypted Compressed = true
is_decrypted Id = true

-- ---- what is sealed

-- what the MAC is of: the nonce and the encrypted header and content
unfoldable pub authenticated : List ℕ → ℕ → List ℕ → List ℕ
authenticated key nonce content = to_be_bytes w64 nonce ++ ctr key nonce (no_compression ++ content)

-- the blob of a content, of a mode's type
unfoldable pub sealed : Keys → Mode → ℕ → List ℕ → List ℕ
sealed keys mode nonce content =
    let part = authenticated keys.enc_key nonce content in
    type_of mode ∷ (hmac256 keys.enc_hmac_key part ++ part)

-- ---- counter blocks

-- how many blocks of 16 bytes hold so many bytes, where the last one may be cut
abbrev pub blocks_for : ℕ → ℕ
blocks_for len = (len + 15) / 16

-- how many counter blocks the blob of a content of so many bytes takes
unfoldable pub blocks : ℕ → ℕ
blocks content = blocks_for (2 + content)

-- how many counter blocks a blob takes: those of its ciphertext, and none below 43 bytes
unfoldable pub block_count : List ℕ → ℕ
block_count blob = if nat_lt (length blob) 43 then 0 else blocks_for (length blob - 41)

-- a counter block of a blob: a number from its nonce on, below the nonce and the count
pub record IsBlockOf (blob : List ℕ) (number : ℕ) : Type 0 where
  pub first : nonce_of blob ≤ number
  pub below : number < nonce_of blob + block_count blob
