-- The key inside an envelope. BorgBackup 1.2 Internals, "Data structures and file formats", Key
-- files: a passphrase and PBKDF2 give the key-encryption key, under which AES-256 in counter mode
-- from the counter 0 encrypts the packed key, and whose HMAC of the packed key is the hash.
use Rattle.std.specs.Prelude.{ℕ, ◌||◌, not, Bool, if◌then◌else◌, List, [], ◌∷◌, codes, ℤ, pos, Option, Some, None, is_none, unwrap_or, Result, Ok, Err}
use Rattle.std.specs.Str.{bytes_eq}
use Rattle.ferry_aes.specs.CounterMode.{ctr}
use Rattle.ferry_mac.specs.Hmac.{hmac256}
use Rattle.ferry_mac.specs.Pbkdf2.{pbkdf2}
use Rattle.ferry_mac.specs.declared.keys.Keys.{Keys}
use Rattle.ferry_msgpack.specs.Tree.{Tree, table, Pairs}
use Rattle.ferry_msgpack.specs.View.{value_view}
use Rattle.ferry_fields.specs.Fields.{map_of, number_in, raw32_in, has_version_1}
use Rattle.ferry_fields.specs.Others.{is_among, without}
use Rattle.ferry_keyblob.specs.Envelope.{envelope_of, fault_or}
use Rattle.ferry_keyblob.specs.declared.envelope.Envelope.{Envelope}
use Rattle.ferry_keyblob.specs.declared.key_text.KeyText.{KeyText}
use Rattle.ferry_keyblob.specs.declared.fault.KeyFault.{KeyFault}
use Rattle.ferry_keyblob.specs.declared.fault.KeyFault.TheVariants.{Pack, Field, Passphrase}

-- what a repository key says
pub record Opened : Type 0 where
  pub keys : Keys
  pub repository_id : List ℕ
  pub chunk_seed : ℤ
  pub more : Tree

-- what a `KeyText` says, apart from where its other names lie in memory
abbrev pub key_view : KeyText → Opened
key_view text = record {
  keys = text.keys;
  repository_id = text.repository_id;
  chunk_seed = text.chunk_seed;
  more = value_view text.more;
}

-- the names of the fields of a key
abbrev pub field_names : List (List ℕ)
field_names =
    codes "version" ∷ codes "repository_id" ∷ codes "enc_key"
    ∷ codes "enc_hmac_key" ∷ codes "id_key" ∷ codes "chunk_seed" ∷ []

-- whether a name is that of a field
abbrev pub is_field : List ℕ → Bool
is_field name = is_among field_names name

-- the pairs whose names are no field's
abbrev pub others : Pairs → Pairs
others pairs = without field_names pairs

-- whether a field of a key is missing or has another kind or length, or the version isn't 1
abbrev pub lacks_key_field : Pairs → Bool
lacks_key_field pairs =
    not (has_version_1 pairs)
    || is_none (raw32_in (codes "repository_id") pairs)
    || is_none (raw32_in (codes "enc_key") pairs)
    || is_none (raw32_in (codes "enc_hmac_key") pairs)
    || is_none (raw32_in (codes "id_key") pairs)
    || is_none (number_in (codes "chunk_seed") pairs)

-- the first fault of a key's fields
abbrev pub key_fault : Pairs → Option KeyFault
key_fault pairs = if lacks_key_field pairs then Some Field else None

-- the secrets that the fields say
abbrev pub keys_in : Pairs → Keys
keys_in pairs = record {
  enc_key = unwrap_or (raw32_in (codes "enc_key") pairs) [];
  enc_hmac_key = unwrap_or (raw32_in (codes "enc_hmac_key") pairs) [];
  id_key = unwrap_or (raw32_in (codes "id_key") pairs) [];
}

-- the id of the repository that the fields say
abbrev pub repository_id_in : Pairs → List ℕ
repository_id_in pairs = unwrap_or (raw32_in (codes "repository_id") pairs) []

-- the seed that the fields say
abbrev pub chunk_seed_in : Pairs → ℤ
chunk_seed_in pairs = unwrap_or (number_in (codes "chunk_seed") pairs) (pos 0)

-- what the fields say, and the other names
abbrev pub key_in : Pairs → Opened
key_in pairs = record {
  keys = keys_in pairs;
  repository_id = repository_id_in pairs;
  chunk_seed = chunk_seed_in pairs;
  more = table (others pairs);
}

-- the key of a map, where the bytes spell one
abbrev pub key_from : Option Pairs → Result Opened KeyFault
key_from None = Err Pack
key_from (Some pairs) = fault_or (key_fault pairs) (key_in pairs)

-- what the bytes of a packed key mean
unfoldable pub packed_key_of : List ℕ → Result Opened KeyFault
packed_key_of bytes = key_from (map_of bytes)

-- the key-encryption key that a passphrase makes
abbrev pub key_encryption_key : List ℕ → Envelope → List ℕ
key_encryption_key passphrase envelope = pbkdf2 passphrase envelope.salt envelope.iterations

-- the packed key: what was sealed, decrypted
unfoldable pub unsealed : List ℕ → Envelope → List ℕ
unsealed passphrase envelope = ctr (key_encryption_key passphrase envelope) 0 envelope.sealed

-- whether the hash is that of what the passphrase decrypts
unfoldable pub has_hash : List ℕ → Envelope → Bool
has_hash passphrase envelope =
    bytes_eq (hmac256 (key_encryption_key passphrase envelope) (unsealed passphrase envelope)) envelope.hash

-- the key inside an envelope
unfoldable pub opened : List ℕ → Envelope → Result Opened KeyFault
opened passphrase envelope =
    if has_hash passphrase envelope then packed_key_of (unsealed passphrase envelope) else Err Passphrase

-- the key inside an envelope that reads
abbrev pub key_inside : List ℕ → Result Envelope KeyFault → Result Opened KeyFault
key_inside passphrase (Err fault) = Err fault
key_inside passphrase (Ok envelope) = opened passphrase envelope

-- what a key text means under a passphrase: the first fault, or the key
unfoldable pub key_of : List ℕ → List ℕ → Result Opened KeyFault
key_of passphrase blob = key_inside passphrase (envelope_of blob)
