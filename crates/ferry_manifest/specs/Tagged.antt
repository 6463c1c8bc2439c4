-- The packed bytes of a map that is written with an authentication tag. BorgBackup 1.2 Internals, "Data structures and file
-- formats", The manifest, and TAM. Each map is written by the one shortest spelling.
use Rattle.std.specs.Prelude.{◌≡◌, ℕ, ◌≤◌, List, replicate, codes}
use Rattle.ferry_mac.specs.Hmac.{hmac512}
use Rattle.ferry_mac.specs.declared.keys.Keys.{Keys}
use Rattle.ferry_msgpack.specs.Tree.{Tree, raw, table, Pairs, no_pairs, put}
use Rattle.ferry_msgpack.specs.Shortest.{shortest}
use Rattle.ferry_msgpack.specs.Writable.{depth}
use Rattle.ferry_fields.specs.Sizes.{IsOrdered}
use Rattle.ferry_manifest.specs.Tag.{tag_key}
use Rattle.ferry_manifest.specs.Values.{pairs_of_table}

-- a map that can be packed with a tag, apart from the lengths in it
pub record IsTaggable (t : Tree) : Type 0 where
  pub is_table : t ≡ table (pairs_of_table t)
  pub deep : depth t ≤ 64
  pub ordered : IsOrdered t

-- the map of an authentication tag and its salt
unfoldable pub tag_pairs : List ℕ → List ℕ → Pairs
tag_pairs hmac salt =
    put (codes "hmac") (raw hmac) (put (codes "salt") (raw salt) (put (codes "type") (raw (codes "HKDF_HMAC_SHA512")) no_pairs))

-- the pairs with this tag and salt
unfoldable pub tagged_pairs : Pairs → List ℕ → List ℕ → Pairs
tagged_pairs pairs hmac salt = put (codes "tam") (table (tag_pairs hmac salt)) pairs

-- the packed bytes of the pairs with this tag and salt
unfoldable pub packed : Pairs → List ℕ → List ℕ → List ℕ
packed pairs hmac salt = shortest (table (tagged_pairs pairs hmac salt))

-- the tag of the pairs that are packed: that of the bytes with 64 zero bytes in its place
unfoldable pub packed_tag : List ℕ → Keys → List ℕ → Pairs → List ℕ
packed_tag info keys salt pairs = hmac512 (tag_key info keys salt) (packed pairs (replicate 64 0) salt)

-- the packed bytes of the pairs with the tag that they have to have
unfoldable pub tagged_text : List ℕ → Keys → List ℕ → Pairs → List ℕ
tagged_text info keys salt pairs = packed pairs (packed_tag info keys salt pairs) salt
