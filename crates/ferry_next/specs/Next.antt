-- The next manifest of a repository: one more archive in its place, and more names of items (BorgBackup 1.2, Internals, "Data
-- structures and file formats", The manifest). A packed map has its keys in byte order, so a manifest that is written has its archives so.
use Rattle.std.specs.Prelude.{◌≡◌, ℕ, Bool, ◌||◌, not, List, ◌∷◌, ◌++◌, Some}
use Rattle.std.specs.Cmp.Lexicographic.{slice_cmp}
use Rattle.std.specs.List.{filter, list_any}
use Rattle.std.specs.Ordering.{is_lt, nat_cmp}
use Rattle.std.specs.Str.{bytes_eq}
use Rattle.ferry_manifest.specs.Manifest.Text.{ManifestText, in_order}
use Rattle.ferry_manifest.specs.Manifest.Writing.{AreIncreasing}
use Rattle.ferry_manifest.specs.declared.manifest.ArchiveRef.{ArchiveRef}

-- ---- archives

-- whether a name is below another one by byte order: "ab" is below "b", and "a" below "ab"
abbrev pub is_below : List ℕ → List ℕ → Bool
is_below name other = is_lt (slice_cmp nat_cmp name other)

-- the archives with one more in its place: those of lesser names, it, those of greater names. To "a" and "c" it adds "b" as
-- "a", "b", "c"
unfoldable pub with_archive : List ArchiveRef → ArchiveRef → List ArchiveRef
with_archive archives entry =
    filter (λ archive. is_below archive.name entry.name) archives ++ (entry ∷ filter (λ archive. is_below entry.name archive.name) archives)

-- the archives without the one of a name: without "b", "a", "b" and "c" are "a" and "c"
unfoldable pub without_archive : List ArchiveRef → List ℕ → List ArchiveRef
without_archive archives name = filter (λ archive. not (bytes_eq archive.name name)) archives

-- ---- names of items

-- A list has the names of two lists, each once, in byte order: "a", "b" and "c" those of "a", "c" and of "b", "c".
pub record IsUnion (names more union : List (List ℕ)) : Type 0 where
  pub increasing : AreIncreasing union
  pub same : (name : List ℕ) → list_any (bytes_eq name) union ≡ list_any (bytes_eq name) names || list_any (bytes_eq name) more

-- the one list that has them so, which is what a reader makes of all of them
abbrev pub union : List (List ℕ) → List (List ℕ) → List (List ℕ)
union names more = in_order (names ++ more)

-- ---- manifests

-- the manifest with one more archive
abbrev pub with_entry : ManifestText → ArchiveRef → ManifestText
with_entry manifest entry = record manifest { archives = with_archive manifest.archives entry }

-- the manifest without the archive of a name
abbrev pub without_entry : ManifestText → List ℕ → ManifestText
without_entry manifest name = record manifest { archives = without_archive manifest.archives name }

-- the manifest with more names of items
abbrev pub with_item_keys : ManifestText → List (List ℕ) → ManifestText
with_item_keys manifest item_keys = record manifest { item_keys = union manifest.item_keys item_keys }

-- the manifest, written at another time
abbrev pub written_at : ManifestText → List ℕ → ManifestText
written_at manifest timestamp = record manifest { timestamp = Some timestamp }

-- the manifest with one more archive and the names of its items
abbrev pub next_manifest : ManifestText → ArchiveRef → List (List ℕ) → ManifestText
next_manifest manifest entry item_keys = with_item_keys (with_entry manifest entry) item_keys
