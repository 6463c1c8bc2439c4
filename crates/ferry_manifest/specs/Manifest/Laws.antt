-- When the packed bytes of a manifest are read. BorgBackup 1.2 Internals, "Data structures and file formats", The manifest, and TAM.
use Rattle.std.specs.Prelude.{◌≡◌, ℕ, Bool, false, List, Some}
use Rattle.ferry_mac.specs.declared.keys.Keys.{Keys}
use Rattle.ferry_msgpack.specs.Tree.{Pairs}
use Rattle.ferry_fields.specs.Fields.{map_of}
use Rattle.ferry_manifest.specs.Manifest.Text.{ManifestText, lacks_field, text_in}
use Rattle.ferry_manifest.specs.Stated.{StatesTag}
use Rattle.ferry_manifest.specs.Tag.{manifest_info, tag_of}

-- The bytes spell a map that has all fields and states a tag, which is the one that the bytes have to have, and this is what the fields say.
pub record IsRead (keys : Keys) (bytes : List ℕ) (manifest : ManifestText) : Type 0 where
  pub pairs : Pairs
  pub hmac : List ℕ
  pub salt : List ℕ
  pub map_is : map_of bytes ≡ Some pairs
  pub whole : lacks_field pairs ≡ false
  pub states : StatesTag pairs hmac salt
  pub tag : tag_of manifest_info keys salt bytes ≡ hmac
  pub text : manifest ≡ text_in pairs
