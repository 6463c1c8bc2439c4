-- The authentication tag of a packed map. BorgBackup 1.2 Internals, "Data structures and file formats", The manifest, and
-- TAM: HMAC-SHA-512 of the packed map with 64 zero bytes in the place of the tag, under a key that HKDF derives. The info
-- text of that derivation (RFC 5869) says which kind of map it is.
use Rattle.std.specs.Prelude.{ℕ, List, ◌++◌, codes}
use Rattle.ferry_mac.specs.Hmac.{hmac512}
use Rattle.ferry_mac.specs.Hkdf.{hkdf512}
use Rattle.ferry_mac.specs.declared.keys.Keys.{Keys}
use Rattle.ferry_manifest.specs.Walk.{zeroed}

-- the info text for a manifest
abbrev pub manifest_info : List ℕ
manifest_info = codes "borg-metadata-authentication-manifest"

-- the info text for an archive's record
abbrev pub archive_info : List ℕ
archive_info = codes "borg-metadata-authentication-archive"

-- the key of the tag, from the info text, the secrets of the repository and the tag's salt
unfoldable pub tag_key : List ℕ → Keys → List ℕ → List ℕ
tag_key info keys salt = hkdf512 (keys.id_key ++ (keys.enc_key ++ keys.enc_hmac_key)) salt info

-- the tag that these bytes have to have under the salt
unfoldable pub tag_of : List ℕ → Keys → List ℕ → List ℕ → List ℕ
tag_of info keys salt bytes = hmac512 (tag_key info keys salt) (zeroed bytes)
