-- The type of each blob that a run puts: that of the mode of its settings (BorgBackup 1.2, Internals, "Data structures and file formats", Encryption).
use Rattle.std.specs.Prelude.{◌≡◌, ◌⊎◌, ℕ, List, [], slice_index, Option, Some, unwrap_or, Ok}
use Rattle.std.specs.List.{AllByRecursion}
use Rattle.ferry_blob.specs.Blob.{type_of}
use Rattle.ferry_blob.specs.declared.mode.Mode.{Mode}
use Rattle.ferry_config.specs.Config.{config_of}
use Rattle.ferry_config.specs.declared.config.Config.{Config}
use Rattle.ferry_disk.specs.Act.{Step, ReplaceBy, Act, History}
use Rattle.ferry_disk.specs.declared.name.Name.TheVariants.{Config as ConfigFile}
use Rattle.ferry_nonce.specs.Counter.{begin_of}
use Rattle.ferry_repo.specs.Opening.{mode_of}
use Rattle.ferry_stops.specs.Blobs.{BlobOf}

-- A file `config`, where absent is empty, reads to these settings.
abbrev pub ReadsSettings : Option (List ℕ) → Config → Type 0
ReadsSettings file config = config_of (unwrap_or file []) ≡ Ok config

-- An act, done or not, doesn't replace the settings by others.
abbrev pub KeepsSettings : Config → Step → Type 0
KeepsSettings config (ReplaceBy ConfigFile bytes) = ReadsSettings (Some bytes) config
KeepsSettings config step = Unit {0}

-- These are the settings of a run: the file `config` reads to them at the start, and no act replaces them by others.
pub record HasSettings (config : Config) (history : History) : Type 0 where
  pub begun : ReadsSettings history.start.config config
  pub kept : AllByRecursion (λ (act : Act). KeepsSettings config act.step) history.acts

-- A mode is that of the settings of a run, where it has settings.
abbrev pub FitsMode : History → Mode → Type 0
FitsMode history mode = (config : Config) → HasSettings config history → mode ≡ mode_of config

-- A blob has the type of a mode.
abbrev pub HasType : Mode → List ℕ → Type 0
HasType mode blob = slice_index blob 0 ≡ type_of mode

-- Each blob that a run put has the type of the mode of its settings.
abbrev pub KeepsTypes : History → Type 0
KeepsTypes history = (config : Config) → HasSettings config history → (blob : List ℕ) → BlobOf history blob
    → BlobOf (begin_of history) blob ⊎ HasType (mode_of config) blob
