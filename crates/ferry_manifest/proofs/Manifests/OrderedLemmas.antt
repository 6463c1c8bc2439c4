-- A manifest that is packable can be packed with a tag.
use Rattle.std.proofs.Common.{◌≡◌, ℕ, ◌≤◌, List, [], ◌∷◌, codes, pos, Option, Some, None, sym, subst, arith}
use Rattle.ferry_msgpack.specs.Tree.{Tree, number, raw, array, table, Pairs, no_pairs, put}
use Rattle.ferry_msgpack.specs.Writable.{items_depth, IsBelow, IsWritable}
use Rattle.ferry_fields.specs.Sizes.{ItemsOrdered}
use Rattle.ferry_fields.proofs.SizeLemmas.{AreOrdered, no_pairs_ordered, put_ordered, small_number, writable_ordered, writable_pairs_ordered}
use Rattle.ferry_manifest.specs.Manifest.Text.{ManifestText}
use Rattle.ferry_manifest.specs.Manifest.Writing.{IsBelowNames, AreIncreasing, IsPackable, archive_fields, archive_names, archive_pairs, untagged_pairs}
use Rattle.ferry_manifest.specs.Manifest.Writing.{with_timestamp}
use Rattle.ferry_manifest.specs.Tagged.{IsTaggable}
use Rattle.ferry_manifest.specs.Values.{pairs_of_table, raws}
use Rattle.ferry_manifest.specs.declared.manifest.ArchiveRef.{ArchiveRef}
use Rattle.ferry_manifest.proofs.TaggedLemmas.{ordered_taggable, table_deep, table_ordered}

fields_ordered : (archive : ArchiveRef) → AreOrdered 0 (archive_fields archive)
unfolding archive_fields
fields_ordered archive =
    put_ordered 0 (codes "id") (raw archive.id) (put (codes "time") (raw archive.time) no_pairs) (omega arith) tt
    (put_ordered 0 (codes "time") (raw archive.time) no_pairs (omega arith) tt (no_pairs_ordered 0))

archives_below : (name : List ℕ) (archives : List ArchiveRef) → IsBelowNames name (archive_names archives) → IsBelow name (archive_pairs archives)
unfolding archive_pairs
archives_below name [] below = tt
archives_below name (a ∷ archives) below = below

archives_ordered : (archives : List ArchiveRef) → AreIncreasing (archive_names archives) → AreOrdered 1 (archive_pairs archives)
unfolding archive_pairs
archives_ordered [] increase = no_pairs_ordered 1
archives_ordered (a ∷ archives) increase =
    let rest = archives_ordered archives increase.1 in
    let here = table_deep 0 (archive_fields a) (fields_ordered a) in
    let deep = rest.deep in
    record {
      deep = omega arith;
      increase = (archives_below a.name archives increase.0, rest.increase);
      ordered = (table_ordered 0 (archive_fields a) (fields_ordered a), rest.ordered);
    }

pub raws_deep : (names : List (List ℕ)) → items_depth (raws names) ≤ 0
unfolding raws
raws_deep [] = omega arith
raws_deep (name ∷ names) = let rest = raws_deep names in omega arith

pub raws_ordered : (names : List (List ℕ)) → ItemsOrdered (raws names)
unfolding raws
raws_ordered [] = tt
raws_ordered (name ∷ names) = (tt, raws_ordered names)

timestamp_ordered : (timestamp : Option (List ℕ)) (ps : Pairs) → AreOrdered 63 ps → AreOrdered 63 (with_timestamp timestamp ps)
timestamp_ordered None ps ordered = ordered
timestamp_ordered (Some t) ps ordered = put_ordered 63 (codes "timestamp") (raw t) ps (omega arith) tt ordered

pub manifest_ordered : (manifest : ManifestText) → IsPackable manifest → AreOrdered 63 (untagged_pairs manifest)
unfolding untagged_pairs
manifest_ordered manifest packable =
    let more : AreOrdered 63 (pairs_of_table manifest.more) =
    writable_pairs_ordered (pairs_of_table manifest.more) (subst IsWritable packable.more packable.more_writable) in
    let stamped = timestamp_ordered manifest.timestamp (pairs_of_table manifest.more) more in
    let configured =
    put_ordered 63 (codes "config") manifest.config _ packable.config_depth (writable_ordered manifest.config packable.config_writable) stamped in
    let keys_deep = raws_deep manifest.item_keys in
    let keyed = put_ordered 63 (codes "item_keys") (array (raws manifest.item_keys)) _ (omega arith) (raws_ordered manifest.item_keys) configured in
    let listed = archives_ordered manifest.archives packable.archives in
    let archives_deep = table_deep 1 (archive_pairs manifest.archives) listed in
    let archived =
    put_ordered 63 (codes "archives") (table (archive_pairs manifest.archives)) _ (omega arith)
    (table_ordered 1 (archive_pairs manifest.archives) listed) keyed in
    put_ordered 63 (codes "version") (number (pos 1)) _ (omega arith) (small_number 1 (omega arith)) archived

-- a table of the pairs can be packed with a tag
pub manifest_taggable : (manifest : ManifestText) (t : Tree) → IsPackable manifest → t ≡ table (untagged_pairs manifest) → IsTaggable t
manifest_taggable manifest t packable is = subst IsTaggable (sym is) (ordered_taggable (untagged_pairs manifest) (manifest_ordered manifest packable))
