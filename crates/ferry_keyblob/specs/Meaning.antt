-- When a key text opens, and when it doesn't. BorgBackup 1.2 Internals, "Data structures and file formats", Key files; RFC 8018 section 5.2; RFC 2104.
use Rattle.std.specs.Prelude.{◌≡◌, ◌≢◌, ◌⊎◌, ℕ, ◌≤◌, List, codes, ℤ, pos, Some, Ok}
use Rattle.ferry_mac.specs.Hmac.{hmac256}
use Rattle.ferry_msgpack.specs.Tree.{Pairs, table}
use Rattle.ferry_msgpack.specs.Spelling.{Spells}
use Rattle.ferry_fields.specs.Fields.{number_in, raw_in, raw32_in}
use Rattle.ferry_keyblob.specs.Opening.{Opened, key_encryption_key, others, unsealed}
use Rattle.ferry_keyblob.specs.declared.envelope.Envelope.{Envelope}

-- The bytes spell no map, or something stands behind it.
abbrev pub IsNoMap : List ℕ → Type 0
IsNoMap bytes = (pairs : Pairs) → Spells (table pairs) bytes → ⊥

-- ---- the envelope

-- The fields of an envelope of version 1: these are there, each of its kind, the salt and the hash of 32 bytes.
pub record EnvelopeFields (pairs : Pairs) (algorithm : List ℕ) (iterations : ℤ) (salt hash sealed : List ℕ) : Type 0 where
  pub version : number_in (codes "version") pairs ≡ Some (pos 1)
  pub algorithm_is : raw_in (codes "algorithm") pairs ≡ Some algorithm
  pub iterations_are : number_in (codes "iterations") pairs ≡ Some iterations
  pub salt_is : raw32_in (codes "salt") pairs ≡ Some salt
  pub hash_is : raw32_in (codes "hash") pairs ≡ Some hash
  pub sealed_is : raw_in (codes "data") pairs ≡ Some sealed

-- A field of an envelope isn't there, or isn't of its kind.
abbrev pub LacksField : Pairs → Type 0
LacksField pairs =
    (algorithm : List ℕ) (iterations : ℤ) (salt hash sealed : List ℕ) → EnvelopeFields pairs algorithm iterations salt hash sealed → ⊥

-- A number of iterations is from 1 to 10000000.
abbrev pub IsInRange : ℤ → Type 0
IsInRange z = (n : ℕ) × (z ≡ pos n) × (1 ≤ n) × (n ≤ 10000000)

-- The bytes are the text of an envelope.
pub record IsEnvelope (bytes : List ℕ) (envelope : Envelope) : Type 0 where
  pub pairs : Pairs
  pub spells : Spells (table pairs) bytes
  pub fields : EnvelopeFields pairs (codes "sha256") (pos envelope.iterations) envelope.salt envelope.hash envelope.sealed
  pub some : 1 ≤ envelope.iterations
  pub few : envelope.iterations ≤ 10000000

-- The bytes spell a map with the fields of an envelope, whose algorithm is another one.
pub record HasOtherAlgorithm (bytes : List ℕ) : Type 0 where
  pub pairs : Pairs
  pub spells : Spells (table pairs) bytes
  pub algorithm : List ℕ
  pub iterations : ℤ
  pub salt : List ℕ
  pub hash : List ℕ
  pub sealed : List ℕ
  pub fields : EnvelopeFields pairs algorithm iterations salt hash sealed
  pub other : algorithm ≢ codes "sha256"

-- The bytes spell a map with the fields of an envelope, whose iterations are out of their range.
pub record HasOtherIterations (bytes : List ℕ) : Type 0 where
  pub pairs : Pairs
  pub spells : Spells (table pairs) bytes
  pub iterations : ℤ
  pub salt : List ℕ
  pub hash : List ℕ
  pub sealed : List ℕ
  pub fields : EnvelopeFields pairs (codes "sha256") iterations salt hash sealed
  pub outside : IsInRange iterations → ⊥

-- The bytes spell a map that lacks a field of an envelope.
pub record HasNoEnvelope (bytes : List ℕ) : Type 0 where
  pub pairs : Pairs
  pub spells : Spells (table pairs) bytes
  pub lacks : LacksField pairs

-- ---- the key inside

-- The bytes are the text of an envelope whose hash is that of what the passphrase decrypts.
pub record Unlocks (passphrase bytes : List ℕ) (envelope : Envelope) : Type 0 where
  pub is : IsEnvelope bytes envelope
  pub hash : hmac256 (key_encryption_key passphrase envelope) (unsealed passphrase envelope) ≡ envelope.hash

-- The fields of a key of version 1: these are there, each of its kind, the secrets and the id of 32 bytes; the other names are `more`.
pub record KeyFields (pairs : Pairs) (key : Opened) : Type 0 where
  pub version : number_in (codes "version") pairs ≡ Some (pos 1)
  pub id : raw32_in (codes "repository_id") pairs ≡ Some key.repository_id
  pub enc : raw32_in (codes "enc_key") pairs ≡ Some key.keys.enc_key
  pub mac : raw32_in (codes "enc_hmac_key") pairs ≡ Some key.keys.enc_hmac_key
  pub ids : raw32_in (codes "id_key") pairs ≡ Some key.keys.id_key
  pub seed : number_in (codes "chunk_seed") pairs ≡ Some key.chunk_seed
  pub more : key.more ≡ table (others pairs)

-- A field of a key isn't there, or isn't of its kind.
abbrev pub LacksKeyField : Pairs → Type 0
LacksKeyField pairs = (key : Opened) → KeyFields pairs key → ⊥

-- A key text opens under a passphrase to this key: what it decrypts spells the fields of the key.
pub record OpensTo (passphrase bytes : List ℕ) (key : Opened) : Type 0 where
  pub envelope : Envelope
  pub unlocks : Unlocks passphrase bytes envelope
  pub pairs : Pairs
  pub spells : Spells (table pairs) (unsealed passphrase envelope)
  pub fields : KeyFields pairs key

-- What the passphrase decrypts spells no map.
pub record HasNoMap (passphrase bytes : List ℕ) : Type 0 where
  pub envelope : Envelope
  pub unlocks : Unlocks passphrase bytes envelope
  pub none : IsNoMap (unsealed passphrase envelope)

-- What the passphrase decrypts spells a map that lacks a field of a key.
pub record HasNoKey (passphrase bytes : List ℕ) : Type 0 where
  pub envelope : Envelope
  pub unlocks : Unlocks passphrase bytes envelope
  pub pairs : Pairs
  pub spells : Spells (table pairs) (unsealed passphrase envelope)
  pub lacks : LacksKeyField pairs
