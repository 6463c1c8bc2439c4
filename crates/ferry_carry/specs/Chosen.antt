-- The chosen archives: which names are missing, and what is told.
use Rattle.std.specs.Prelude.{◌≡◌, ◌<◌, ℕ, true, List, Some, None, IsSome, slice_get}
use Rattle.ferry_disk.specs.Act.{History, TellOf, with_act}
use Rattle.ferry_manifest.specs.Manifest.Text.{ManifestText}
use Rattle.ferry_repo.specs.Archives.{archive_named}

-- No archive of the manifest has the name at this place, and each name before it is that of one.
pub record IsMissingName (manifest : ManifestText) (names : List (List ℕ)) (place : ℕ) : Type 0 where
  pub name : List ℕ
  pub name_is : slice_get names place ≡ Some name
  pub missing : archive_named name manifest.archives ≡ None
  pub before : (earlier : ℕ) (other : List ℕ) → earlier < place → slice_get names earlier ≡ Some other → IsSome (archive_named other manifest.archives)

-- A line was told.
abbrev pub TellsLine : List ℕ → History → History → Type 0
TellsLine line before now = now ≡ with_act (TellOf line) true before
