-- The key text that is written. BorgBackup 1.2 Internals, "Data structures and file formats", Key
-- files. Each map is written by the one shortest spelling.
use Rattle.std.specs.Prelude.{◌≡◌, ℕ, ◌≤◌, Bool, false, List, codes, length, pos, unwrap_or}
use Rattle.ferry_base.specs.Limits.{content_limit}
use Rattle.ferry_aes.specs.CounterMode.{ctr}
use Rattle.ferry_mac.specs.Hmac.{hmac256}
use Rattle.ferry_mac.specs.Pbkdf2.{pbkdf2}
use Rattle.ferry_msgpack.specs.Tree.{number, raw, table, Pairs, no_pairs, put}
use Rattle.ferry_msgpack.specs.Shortest.{shortest}
use Rattle.ferry_msgpack.specs.Writable.{IsNumber, IsWritable}
use Rattle.ferry_fields.specs.Fields.{pairs_in}
use Rattle.ferry_fields.specs.Others.{has_among}
use Rattle.ferry_keyblob.specs.Opening.{Opened, field_names}

-- whether one of the names is that of a field
abbrev pub names_field : Pairs → Bool
names_field pairs = has_among field_names pairs

-- the pairs of the other names
unfoldable pub more_of : Opened → Pairs
more_of key = unwrap_or (pairs_in key.more) no_pairs

-- the pairs of a packed key: the fields and the other names, each in its place
unfoldable pub packed_pairs : Opened → Pairs
packed_pairs key =
    put (codes "version") (number (pos 1))
    (put (codes "repository_id") (raw key.repository_id)
    (put (codes "enc_key") (raw key.keys.enc_key)
    (put (codes "enc_hmac_key") (raw key.keys.enc_hmac_key)
    (put (codes "id_key") (raw key.keys.id_key)
    (put (codes "chunk_seed") (number key.chunk_seed) (more_of key))))))

-- the bytes of a packed key
unfoldable pub packed : Opened → List ℕ
packed key = shortest (table (packed_pairs key))

-- the pairs of the envelope around a packed key, under this key-encryption key
unfoldable pub envelope_pairs : List ℕ → List ℕ → ℕ → List ℕ → Pairs
envelope_pairs kek salt iterations packed =
    put (codes "version") (number (pos 1))
    (put (codes "algorithm") (raw (codes "sha256"))
    (put (codes "iterations") (number (pos iterations))
    (put (codes "salt") (raw salt)
    (put (codes "hash") (raw (hmac256 kek packed))
    (put (codes "data") (raw (ctr kek 0 packed)) no_pairs)))))

-- the bytes of the envelope around a packed key
unfoldable pub envelope_text : List ℕ → List ℕ → ℕ → List ℕ → List ℕ
envelope_text kek salt iterations packed = shortest (table (envelope_pairs kek salt iterations packed))

-- the key text of a key under a passphrase
unfoldable pub key_text : Opened → List ℕ → List ℕ → ℕ → List ℕ
key_text key passphrase salt iterations =
    envelope_text (pbkdf2 passphrase salt iterations) salt iterations (packed key)

-- a key that can be sealed: the other names are a table without a field's name that can be
-- written, the seed is a number of msgpack, and the packed key is no longer than a content
pub record IsSealable (key : Opened) : Type 0 where
  pub more : key.more ≡ table (more_of key)
  pub apart : names_field (more_of key) ≡ false
  pub writable : IsWritable key.more
  pub seed : IsNumber key.chunk_seed
  pub size : length (packed key) ≤ content_limit

-- the secrets and the id have 32 bytes each, as arrays of the code have
pub record HasLengths (key : Opened) : Type 0 where
  pub id : length key.repository_id ≡ 32
  pub enc : length key.keys.enc_key ≡ 32
  pub mac : length key.keys.enc_hmac_key ≡ 32
  pub ids : length key.keys.id_key ≡ 32
