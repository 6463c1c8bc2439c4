-- What is written is read again.
use Rattle.std.proofs.Common.{◌≡◌, ℕ, Bool, true, false, ◌||◌, List, [], ◌∷◌, length, codes, pos, Option, Some, None, option_map, Result, Ok, Err}
use Rattle.std.proofs.Common.{IfOk, Vec, Global, refl, sym, ap, subst, ◌∙◌}
use Rattle.std.specs.Str.{bytes_eq}
use Rattle.std.proofs.lemmas.Slice.Eq.{bytes_eq-Decides}
use Rattle.ferry_mac.specs.declared.keys.Keys.{Keys}
use Rattle.ferry_msgpack.specs.Tree.{Tree, number, raw, array, table, Pairs, no_pairs, pair, put}
use Rattle.ferry_msgpack.specs.Writable.{IsWritable}
use Rattle.ferry_fields.specs.Fields.{value_of, raw32_in, has_version_1}
use Rattle.ferry_fields.specs.Others.{is_among, without, has_among}
use Rattle.ferry_fields.proofs.FieldLemmas.{value_of-none, value_of-other}
use Rattle.ferry_fields.proofs.OtherLemmas.{without-apart}
use Rattle.ferry_fields.proofs.PutLemmas.{value_of-put, value_of-put_other, without-put}
use Rattle.ferry_manifest.specs.Manifest.Text.{ManifestText, archive_from, archives_in, archives_of, config_in, field_names, in_order, item_keys_in}
use Rattle.ferry_manifest.specs.Manifest.Text.{manifest_from, manifest_of, map_tree, raws_in, timestamp_in}
use Rattle.ferry_manifest.specs.Stated.{is_right, tag_in}
use Rattle.ferry_manifest.specs.Tag.{manifest_info}
use Rattle.ferry_manifest.specs.Tagged.{packed_tag, tag_pairs, tagged_pairs, tagged_text}
use Rattle.ferry_manifest.specs.Manifest.Writing.{HaveIds, IsPackable, archive_fields, archive_pairs, untagged_pairs, with_timestamp}
use Rattle.ferry_manifest.specs.Values.{pairs_of_table, raws}
use Rattle.ferry_manifest.specs.declared.manifest.ArchiveRef.{ArchiveRef}
use Rattle.ferry_manifest.specs.declared.fault.MetaFault.{MetaFault}
use Rattle.ferry_manifest.specs.declared.stated.StatedTag.{StatedTag}
use Rattle.ferry_manifest.proofs.TaggedLemmas.{length-packed_tag, raw_said, tag_right, tag_said, tagged_map}
use Rattle.ferry_manifest.proofs.Manifests.OrderLemmas.{in_order-again}

-- ---- what the fields say, all of it

said : (keys : Keys) (bytes : List ℕ) (all : Pairs) (manifest : ManifestText) (tag : StatedTag) → has_version_1 all ≡ true
    → timestamp_in all ≡ Some manifest.timestamp → config_in all ≡ Some manifest.config
    → item_keys_in all ≡ Some manifest.item_keys → archives_in all ≡ Some manifest.archives → tag_in all ≡ Some (Some tag)
    → table (without field_names all) ≡ manifest.more → is_right manifest_info keys bytes tag ≡ true
    → manifest_from keys bytes (Some all) ≡ Ok manifest
said keys bytes all manifest tag version timestamp config names archives tagged more same =
    rw (version, timestamp, config, names, archives, tagged, more, same) refl

-- ---- fields by their values

version_said : (all : Pairs) → value_of (codes "version") all ≡ Some (number (pos 1)) → has_version_1 all ≡ true
version_said all is = rw is refl

timestamp_said : (all : Pairs) (timestamp : Option (List ℕ)) → value_of (codes "timestamp") all ≡ option_map raw timestamp → timestamp_in all ≡ Some timestamp
timestamp_said all None is = rw is refl
timestamp_said all (Some t) is = rw is refl

table_said : (config : Tree) (ps : Pairs) → config ≡ table ps → map_tree config ≡ Some config
table_said config ps is = rw is refl

config_said : (all : Pairs) (config : Tree) → value_of (codes "config") all ≡ Some config → config ≡ table (pairs_of_table config) → config_in all ≡ Some config
config_said all config is table_is = rw is (table_said config (pairs_of_table config) table_is)

raws_said : (names : List (List ℕ)) → raws_in (raws names) ≡ Some names
unfolding raws_in raws
raws_said [] = refl
raws_said (name ∷ names) = rw (raws_said names) refl

names_said : (all : Pairs) (names : List (List ℕ)) → value_of (codes "item_keys") all ≡ Some (array (raws names)) → in_order names ≡ names
    → item_keys_in all ≡ Some names
names_said all names is order = rw (is, raws_said names, order) refl

raw32_said : (name : List ℕ) (fields : Pairs) (content : List ℕ) → value_of name fields ≡ Some (raw content) → length content ≡ 32
    → raw32_in name fields ≡ Some content
raw32_said name fields content is size = rw (is, size) refl

archive_said : (archive : ArchiveRef) → length archive.id ≡ 32 → archive_from archive.name (archive_fields archive) ≡ Some archive
unfolding archive_fields
archive_said archive size =
    let time_put = put (codes "time") (raw archive.time) no_pairs in
    let id = raw32_said (codes "id") (put (codes "id") (raw archive.id) time_put) archive.id (value_of-put (codes "id") (raw archive.id) time_put) size in
    let time = raw_said (codes "time") (put (codes "id") (raw archive.id) time_put) archive.time
    (value_of-put_other (codes "time") (codes "id") (raw archive.id) time_put refl ∙ value_of-put (codes "time") (raw archive.time) no_pairs) in
    rw (id, time) refl

archives_said : (archives : List ArchiveRef) → HaveIds archives → archives_of (archive_pairs archives) ≡ Some archives
unfolding archives_of archive_pairs
archives_said [] ids = refl
archives_said (archive ∷ archives) ids = rw (archive_said archive ids.0, archives_said archives ids.1) refl

listed_said : (all : Pairs) (archives : List ArchiveRef) → value_of (codes "archives") all ≡ Some (table (archive_pairs archives)) → HaveIds archives
    → archives_in all ≡ Some archives
listed_said all archives is ids = rw is (archives_said archives ids)

-- ---- names that are no field's

both_false : (b c : Bool) → (b || c) ≡ false → (b ≡ false) × (c ≡ false)
both_false false c e = (refl, e)
both_false true c e = cc

absent_at : (names : List (List ℕ)) (k l : List ℕ) (t : Tree) (ps : Pairs) (b : Bool) → bytes_eq l k ≡ b → is_among names k ≡ true
    → is_among names l ≡ false → value_of k ps ≡ None → value_of k (pair l t ps) ≡ None
absent_at names k l t ps true is among other rest =
    let same : l ≡ k = (bytes_eq-Decides l k).0 is in
    let e : true ≡ false = sym among ∙ ap (is_among names) (sym same) ∙ other in
    absurd cc
absent_at names k l t ps false is among other rest = value_of-other k l t ps is ∙ rest

pub absent : (names : List (List ℕ)) (k : List ℕ) (ps : Pairs) → is_among names k ≡ true → has_among names ps ≡ false → value_of k ps ≡ None
unfolding has_among
absent names k no_pairs among apart = value_of-none k
absent names k (pair l t ps) among apart =
    let both = both_false (is_among names l) (has_among names ps) apart in
    absent_at names k l t ps (bytes_eq l k) refl among both.0 (absent names k ps among both.1)

-- ---- the fields of a manifest that is written

module _ (manifest : ManifestText) (tag : Tree) where
  abbrev stamped : Pairs
  stamped = with_timestamp manifest.timestamp (pairs_of_table manifest.more)

  abbrev configured : Pairs
  configured = put (codes "config") manifest.config stamped

  abbrev keyed : Pairs
  keyed = put (codes "item_keys") (array (raws manifest.item_keys)) configured

  abbrev archived : Pairs
  archived = put (codes "archives") (table (archive_pairs manifest.archives)) keyed

  abbrev versioned : Pairs
  versioned = put (codes "version") (number (pos 1)) archived

  version_is : value_of (codes "version") (put (codes "tam") tag versioned) ≡ Some (number (pos 1))
  version_is = value_of-put_other (codes "version") (codes "tam") tag versioned refl ∙ value_of-put (codes "version") (number (pos 1)) archived

  archives_are : value_of (codes "archives") (put (codes "tam") tag versioned) ≡ Some (table (archive_pairs manifest.archives))
  archives_are =
      value_of-put_other (codes "archives") (codes "tam") tag versioned refl
      ∙ value_of-put_other (codes "archives") (codes "version") (number (pos 1)) archived refl
      ∙ value_of-put (codes "archives") (table (archive_pairs manifest.archives)) keyed

  names_are : value_of (codes "item_keys") (put (codes "tam") tag versioned) ≡ Some (array (raws manifest.item_keys))
  names_are =
      value_of-put_other (codes "item_keys") (codes "tam") tag versioned refl
      ∙ value_of-put_other (codes "item_keys") (codes "version") (number (pos 1)) archived refl
      ∙ value_of-put_other (codes "item_keys") (codes "archives") (table (archive_pairs manifest.archives)) keyed refl
      ∙ value_of-put (codes "item_keys") (array (raws manifest.item_keys)) configured

  config_is : value_of (codes "config") (put (codes "tam") tag versioned) ≡ Some manifest.config
  config_is =
      value_of-put_other (codes "config") (codes "tam") tag versioned refl
      ∙ value_of-put_other (codes "config") (codes "version") (number (pos 1)) archived refl
      ∙ value_of-put_other (codes "config") (codes "archives") (table (archive_pairs manifest.archives)) keyed refl
      ∙ value_of-put_other (codes "config") (codes "item_keys") (array (raws manifest.item_keys)) configured refl
      ∙ value_of-put (codes "config") manifest.config stamped

  timestamp_is : value_of (codes "timestamp") (put (codes "tam") tag versioned) ≡ value_of (codes "timestamp") stamped
  timestamp_is =
      value_of-put_other (codes "timestamp") (codes "tam") tag versioned refl
      ∙ value_of-put_other (codes "timestamp") (codes "version") (number (pos 1)) archived refl
      ∙ value_of-put_other (codes "timestamp") (codes "archives") (table (archive_pairs manifest.archives)) keyed refl
      ∙ value_of-put_other (codes "timestamp") (codes "item_keys") (array (raws manifest.item_keys)) configured refl
      ∙ value_of-put_other (codes "timestamp") (codes "config") manifest.config stamped refl

  others_are : without field_names (put (codes "tam") tag versioned) ≡ without field_names stamped
  others_are = without-put field_names (codes "tam") tag versioned refl ∙ without-put field_names (codes "version") (number (pos 1)) archived refl
      ∙ without-put field_names (codes "archives") (table (archive_pairs manifest.archives)) keyed refl
      ∙ without-put field_names (codes "item_keys") (array (raws manifest.item_keys)) configured refl
      ∙ without-put field_names (codes "config") manifest.config stamped refl

stamp_is : (timestamp : Option (List ℕ)) (more : Pairs) → has_among field_names more ≡ false
    → value_of (codes "timestamp") (with_timestamp timestamp more) ≡ option_map raw timestamp
stamp_is None more apart = absent field_names (codes "timestamp") more refl apart
stamp_is (Some t) more apart = value_of-put (codes "timestamp") (raw t) more

stamp_others : (timestamp : Option (List ℕ)) (more : Pairs) → has_among field_names more ≡ false → without field_names (with_timestamp timestamp more) ≡ more
stamp_others None more apart = without-apart field_names more apart
stamp_others (Some t) more apart = without-put field_names (codes "timestamp") (raw t) more refl ∙ without-apart field_names more apart

pairs_said : (keys : Keys) (bytes : List ℕ) (manifest : ManifestText) (hmac salt : List ℕ) → IsPackable manifest → HaveIds manifest.archives
    → length hmac ≡ 64 → length salt ≡ 64 → is_right manifest_info keys bytes (record { hmac = hmac; salt = salt }) ≡ true
    → manifest_from keys bytes (Some (tagged_pairs (untagged_pairs manifest) hmac salt)) ≡ Ok manifest
unfolding tagged_pairs untagged_pairs
pairs_said keys bytes manifest hmac salt packable ids hmac_size salt_size right =
    let tag = table (tag_pairs hmac salt) in
    let all = put (codes "tam") tag (untagged_pairs manifest) in
    said keys bytes all manifest (record { hmac = hmac; salt = salt })
    (version_said all (version_is manifest tag))
    (timestamp_said all manifest.timestamp (timestamp_is manifest tag ∙ stamp_is manifest.timestamp (pairs_of_table manifest.more) packable.apart))
    (config_said all manifest.config (config_is manifest tag) packable.config)
    (names_said all manifest.item_keys (names_are manifest tag) (in_order-again manifest.item_keys packable.item_keys))
    (listed_said all manifest.archives (archives_are manifest tag) ids)
    (tag_said (untagged_pairs manifest) hmac salt hmac_size salt_size)
    (ap table (others_are manifest tag ∙ stamp_others manifest.timestamp (pairs_of_table manifest.more) packable.apart) ∙ sym packable.more)
    right

-- ---- the call

text_again : (keys : Keys) (manifest : ManifestText) (salt : List ℕ) → IsPackable manifest → HaveIds manifest.archives → length salt ≡ 64
    → IsWritable (table (tagged_pairs (untagged_pairs manifest) (packed_tag manifest_info keys salt (untagged_pairs manifest)) salt))
    → manifest_of keys (tagged_text manifest_info keys salt (untagged_pairs manifest)) ≡ Ok manifest
unfolding manifest_of
text_again keys manifest salt packable ids salt_size writable =
    let ps = untagged_pairs manifest in
    let bytes = tagged_text manifest_info keys salt ps in
    ap (manifest_from keys bytes) (tagged_map manifest_info keys salt ps writable)
    ∙ pairs_said keys bytes manifest (packed_tag manifest_info keys salt ps) salt packable ids (length-packed_tag manifest_info keys salt ps) salt_size
    (tag_right manifest_info keys salt ps writable)

-- the same of what a call returned for a table
pub written_again : (keys : Keys) (manifest : ManifestText) (salt : List ℕ) (ps : Pairs) (result : Result (Vec ℕ Global) MetaFault) → IsPackable manifest
    → HaveIds manifest.archives → length salt ≡ 64 → ps ≡ untagged_pairs manifest
    → IfOk result (λ text. text.items ≡ tagged_text manifest_info keys salt ps)
    → IfOk result (λ _. IsWritable (table (tagged_pairs ps (packed_tag manifest_info keys salt ps) salt)))
    → IfOk result (λ text. manifest_of keys text.items ≡ Ok manifest)
written_again keys manifest salt ps (Ok text) packable ids salt_size is text_is writable =
    ap (manifest_of keys) (text_is ∙ ap (tagged_text manifest_info keys salt) is)
    ∙ text_again keys manifest salt packable ids salt_size
    (subst (λ (qs : Pairs). IsWritable (table (tagged_pairs qs (packed_tag manifest_info keys salt qs) salt))) is writable)
written_again keys manifest salt ps (Err fault) packable ids salt_size is text_is writable = tt
