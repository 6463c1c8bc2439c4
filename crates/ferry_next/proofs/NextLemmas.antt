-- A manifest that can be packed stays one.
use Rattle.std.proofs.Common.{◌≡◌, ℕ, List, ◌++◌, sym, subst}
use Rattle.ferry_manifest.specs.Manifest.Text.{ManifestText}
use Rattle.ferry_manifest.specs.Manifest.Writing.{AreIncreasing, IsPackable, archive_names}
use Rattle.ferry_manifest.specs.declared.manifest.ArchiveRef.{ArchiveRef}
use Rattle.ferry_manifest.proofs.Manifests.OrderLemmas.{in_order-increasing}
use Rattle.ferry_next.specs.Next.{union, next_manifest, with_archive, with_entry, with_item_keys, without_archive, without_entry}
use Rattle.ferry_next.proofs.PlaceLemmas.{with_increasing, without_increasing}

-- with other archives and names of items, which increase
others_packable : (manifest : ManifestText) (archives : List ArchiveRef) (item_keys : List (List ℕ)) → AreIncreasing (archive_names archives)
    → AreIncreasing item_keys → IsPackable manifest → IsPackable record manifest { archives = archives; item_keys = item_keys }
others_packable manifest archives item_keys named keyed is = record {
  archives = named;
  item_keys = keyed;
  config = is.config;
  config_writable = is.config_writable;
  config_depth = is.config_depth;
  more = is.more;
  more_writable = is.more_writable;
  apart = is.apart;
}

pub entry_packable : (manifest : ManifestText) (entry : ArchiveRef) → IsPackable manifest → IsPackable (with_entry manifest entry)
entry_packable manifest entry is =
    others_packable manifest (with_archive manifest.archives entry) manifest.item_keys (with_increasing manifest.archives entry is.archives) is.item_keys is

pub without_packable : (manifest : ManifestText) (name : List ℕ) → IsPackable manifest → IsPackable (without_entry manifest name)
without_packable manifest name is =
    others_packable manifest (without_archive manifest.archives name) manifest.item_keys (without_increasing manifest.archives name is.archives) is.item_keys is

pub item_keys_packable : (manifest : ManifestText) (item_keys : List (List ℕ)) → IsPackable manifest → IsPackable (with_item_keys manifest item_keys)
item_keys_packable manifest item_keys is =
    others_packable manifest manifest.archives (union manifest.item_keys item_keys) is.archives (in_order-increasing (manifest.item_keys ++ item_keys)) is

pub union_packable : (manifest : ManifestText) (names more all : List (List ℕ)) → all ≡ union names more → IsPackable manifest
    → IsPackable record manifest { item_keys = all }
union_packable manifest names more all e is =
    others_packable manifest manifest.archives all is.archives (subst AreIncreasing (sym e) (in_order-increasing (names ++ more))) is

pub next_packable : (manifest : ManifestText) (entry : ArchiveRef) (item_keys : List (List ℕ)) → IsPackable manifest
    → IsPackable (next_manifest manifest entry item_keys)
next_packable manifest entry item_keys is = item_keys_packable (with_entry manifest entry) item_keys (entry_packable manifest entry is)
