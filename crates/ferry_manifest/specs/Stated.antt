-- The authentication tag that a map states. BorgBackup 1.2 Internals, "Data structures and file formats", The manifest, and
-- TAM: `tam` is a map with `type`, `hmac` and `salt`.
use Rattle.std.specs.Prelude.{◌≡◌, ℕ, Bool, if◌then◌else◌, List, [], ◌++◌, replicate, codes, Option, Some, None, unwrap_or, option_and_then, option_map}
use Rattle.std.specs.Str.{bytes_eq}
use Rattle.ferry_mac.specs.Hmac.{hmac512}
use Rattle.ferry_mac.specs.declared.keys.Keys.{Keys}
use Rattle.ferry_msgpack.specs.Tree.{table, Pairs}
use Rattle.ferry_fields.specs.Fields.{value_of, raw_in, raw64_in, pairs_in}
use Rattle.ferry_manifest.specs.Place.{TagStands}
use Rattle.ferry_manifest.specs.Tag.{tag_key, tag_of}
use Rattle.ferry_manifest.specs.Values.{where_absent}
use Rattle.ferry_manifest.specs.declared.stated.StatedTag.{StatedTag}

-- whether the type of the tag is the one that is known
abbrev pub has_known_type : Pairs → Bool
has_known_type fields = bytes_eq (unwrap_or (raw_in (codes "type") fields) []) (codes "HKDF_HMAC_SHA512")

-- the tag, from the pairs of its map
abbrev pub tag_from : Pairs → Option StatedTag
tag_from fields =
    if has_known_type fields
    then option_and_then
    (λ hmac. option_map (λ salt. record { hmac = hmac; salt = salt }) (raw64_in (codes "salt") fields))
    (raw64_in (codes "hmac") fields)
    else None

-- the tag, where the name is absent or has a map with a tag of the known type
abbrev pub tag_in : Pairs → Option (Option StatedTag)
tag_in pairs =
    where_absent None (λ t. option_map Some (option_and_then tag_from (pairs_in t))) (value_of (codes "tam") pairs)

-- whether a tag is the one that the bytes have to have
abbrev pub is_right : List ℕ → Keys → List ℕ → StatedTag → Bool
is_right info keys bytes tag = bytes_eq (tag_of info keys tag.salt bytes) tag.hmac

-- the pairs state this tag with this salt
abbrev pub StatesTag : Pairs → List ℕ → List ℕ → Type 0
StatesTag pairs hmac salt =
    (tam : Pairs)
    × (value_of (codes "tam") pairs ≡ Some (table tam))
    × (raw64_in (codes "hmac") tam ≡ Some hmac)
    × (raw64_in (codes "salt") tam ≡ Some salt)

-- a tag that the pairs state stands in its place, and is that of the bytes with 64 zero bytes there
pub record IsTagged (info : List ℕ) (keys : Keys) (bytes : List ℕ) (pairs : Pairs) : Type 0 where
  pub hmac : List ℕ
  pub salt : List ℕ
  pub front : List ℕ
  pub back : List ℕ
  pub states : StatesTag pairs hmac salt
  pub stands : TagStands bytes front hmac back
  pub tag : hmac ≡ hmac512 (tag_key info keys salt) (front ++ (replicate 64 0 ++ back))
