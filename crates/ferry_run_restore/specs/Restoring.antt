-- What the command that restores an archive leaves of a tree and of the output, and what it says where it ends before.
use Rattle.std.specs.Prelude.{◌≡◌, ◌⊎◌, ◌++◌, ℕ, List, Option, IfSome, Result, Ok, Err, option_map}
use Rattle.ferry_disk.specs.Device.{Rose, Told, WritesSome, told_files}
use Rattle.ferry_disk.specs.Files.{Files}
use Rattle.ferry_repo.specs.Fault.{IsOfFiles}
use Rattle.ferry_repo.specs.Opening.{OpensFilesTo, RefusesRepo, RepoState}
use Rattle.ferry_repo.specs.Whole.{IsWhole, WholeArchive}
use Rattle.ferry_repo.specs.declared.secret.Secret.{Secret}
use Rattle.ferry_status.specs.Devices.{Written}
use Rattle.ferry_status.specs.Output.{IsSent}
use Rattle.ferry_tree.specs.Growth.{Grown, IsTreeOf, ReadItem}
use Rattle.ferry_tree.specs.Nodes.{Planted}
use Rattle.ferry_tree.specs.Restoring.{IsNamed, PartOfArchive, RefusesArchive, RestoresArchive}
use Rattle.ferry_tree.specs.Wholes.{AreOf}
use Rattle.ferry_tree.specs.declared.fault.RestoreFault.{RestoreFault}
use Rattle.ferry_tree.specs.declared.fault.RestoreFault.TheVariants as Faults
use Rattle.ferry_tree.specs.declared.placing.Counts.{Counts}
use Rattle.ferry_run_restore.specs.Restored.{counts_line, line_of, source_status}
use Rattle.ferry_run_restore.specs.declared.restored.Restored.{Restored}
use Rattle.ferry_run_restore.specs.declared.restored.Restored.TheVariants as Ends

-- The source opens under the secret, and this holds of it.
abbrev pub WhereOpen : Option Told → Secret → (RepoState → Type 0) → Type 0
WhereOpen told secret Holds = (repo : RepoState) × (IfSome told (λ t. OpensFilesTo (told_files t) secret repo) × Holds repo)

-- What a status says of an opened source, where the archive isn't restored to its end.
abbrev pub RefusesOpened : Files → RepoState → List ℕ → Option Planted → Restored → Type 0
RefusesOpened files repo name before Ends.Memory = Unit {0}
RefusesOpened files repo name before Ends.SourceDevice = Unit {0}
RefusesOpened files repo name before (Ends.Source fault) = IsOfFiles fault × RefusesArchive files repo name before (Faults.Source fault)
RefusesOpened files repo name before (Ends.Place path fault) = RefusesArchive files repo name before (Faults.Place path fault)
RefusesOpened files repo name before (Ends.NotFound what) = (what ≡ name) × RefusesArchive files repo name before Faults.NotFound
RefusesOpened files repo name before Ends.TreeDevice = Unit {0}
RefusesOpened files repo name before Ends.NotEmpty = RefusesArchive files repo name before Faults.NotEmpty
RefusesOpened files repo name before ended = ⊥

-- What a status says of a source that doesn't open.
abbrev pub RefusesOpening : Files → Secret → Restored → Type 0
RefusesOpening files secret Ends.Memory = Unit {0}
RefusesOpening files secret Ends.SourceDevice = Unit {0}
RefusesOpening files secret (Ends.Source fault) = IsOfFiles fault × RefusesRepo files secret fault
RefusesOpening files secret ended = ⊥

-- What a status says where the archive isn't restored to its end: the source doesn't open, or it does, and the archive is refused so.
abbrev pub RefusesRestoring : Option Told → Secret → List ℕ → Option Planted → Restored → Type 0
RefusesRestoring told secret name before ended = IfSome told (λ t. RefusesOpening (told_files t) secret ended)
    ⊎ WhereOpen told secret (λ repo. IfSome told (λ t. RefusesOpened (told_files t) repo name before ended))

-- A text was written, all of it, or so much as the output or memory allowed.
abbrev pub Sends : List ℕ → Written → Restored → Written → Type 0
Sends text before Ends.Done after = (after.bytes ≡ option_map (λ w. w ++ text) before.bytes) × (after.faults ≡ before.faults)
Sends text before Ends.OutputDevice after = WritesSome before.bytes text after.bytes × Rose before.faults after.faults
Sends text before Ends.Memory after =
    ((after.bytes ≡ before.bytes) ⊎ WritesSome before.bytes text after.bytes) × (after.faults ≡ before.faults)
Sends text before ended after = ⊥

-- The source opens, the tree, which was empty, is that of the archive of the name, which has so many items of each kind, and its line is written; or nothing
-- was written, the tree is as it was, or has a part of the archive of an opened source, and the status says why.
abbrev pub Answers : Option Told → Secret → List ℕ → Option Planted → Written → Restored → Option Planted → Written → Type 0
Answers told secret name before output ended after printed =
    ((counts : Counts) × (WhereOpen told secret (λ repo. RestoresArchive told repo name before after counts)
    × Sends (counts_line counts) output ended printed))
    ⊎ ((printed ≡ output) × (((after ≡ before) ⊎ WhereOpen told secret (λ repo. PartOfArchive told repo name before after))
    × RefusesRestoring told secret name before ended))

-- What the words say is done, but for the fault line: the archive of their name is restored so far; or they are wrong, and nothing is touched.
abbrev pub DoesWords : Result (List ℕ) ℕ → Option Told → Secret → Option Planted → Written → Restored → Option Planted → Written → Type 0
DoesWords (Ok name) told secret before output ended after printed = Answers told secret name before output ended after printed
DoesWords (Err word) told secret before output ended after printed =
    ((after ≡ before) × (printed ≡ output)) × ((ended ≡ Ends.Usage word) ⊎ (ended ≡ Ends.Memory))

-- What the fault line has written: nothing where a status has none.
abbrev pub Reports : Restored → Written → Written → Type 0
Reports Ends.Done before after = after ≡ before
Reports Ends.OutputDevice before after = after ≡ before
Reports ended before after = IsSent (line_of ended) before after

-- What the words say is done, and then the fault line is written.
pub record Runs (words : Result (List ℕ) ℕ) (told : Option Told) (secret : Secret) (before : Option Planted) (output : Written) (ended : Restored)
    (after : Option Planted) (printed : Written) : Type 0 where
  pub between : Written
  pub does : DoesWords words told secret before output ended after between
  pub report : Reports ended between printed

-- the status where the archive of a name is refused so; a name for which there is no memory isn't told
abbrev pub IsStatusOf : RestoreFault → List ℕ → Restored → Type 0
IsStatusOf (Faults.Source fault) name ended = ended ≡ source_status fault
IsStatusOf (Faults.Place path fault) name ended = ended ≡ Ends.Place path fault
IsStatusOf Faults.NotFound name ended = (ended ≡ Ends.NotFound name) ⊎ (ended ≡ Ends.Memory)
IsStatusOf Faults.NotEmpty name ended = ended ≡ Ends.NotEmpty
IsStatusOf Faults.Tree name ended = ended ≡ Ends.TreeDevice
IsStatusOf Faults.Memory name ended = ended ≡ Ends.Memory

-- ---- where nothing is in the way

-- The source opens under the secret, and has an archive of the name.
pub record HasArchive (files : Files) (secret : Secret) (name : List ℕ) : Type 0 where
  pub repo : RepoState
  pub opens : OpensFilesTo files secret repo
  pub named : IsNamed repo name

-- The source opens under the secret, its archive of the name is whole, and however the contents are cut into chunks, each item has a place when it comes.
pub record CanBeRestored (files : Files) (secret : Secret) (name : List ℕ) : Type 0 where
  pub repo : RepoState
  pub opens : OpensFilesTo files secret repo
  pub whole : WholeArchive
  pub is_whole : IsWhole files repo.log repo.keys repo.manifest.archives name whole
  pub placed : (reads : List ReadItem) → AreOf whole.items reads → (grown : Grown) × IsTreeOf reads grown

-- The archive is restored to its end, unless memory was refused or a device failed.
abbrev pub IsRestoredUnless : Restored → Type 0
IsRestoredUnless Ends.Done = Unit {0}
IsRestoredUnless Ends.Memory = Unit {0}
IsRestoredUnless Ends.SourceDevice = Unit {0}
IsRestoredUnless Ends.OutputDevice = Unit {0}
IsRestoredUnless Ends.TreeDevice = Unit {0}
IsRestoredUnless ended = ⊥

-- The tree isn't empty, unless memory was refused or a device failed before that was seen.
abbrev pub IsRefusedFull : Restored → Type 0
IsRefusedFull Ends.NotEmpty = Unit {0}
IsRefusedFull Ends.Memory = Unit {0}
IsRefusedFull Ends.SourceDevice = Unit {0}
IsRefusedFull Ends.TreeDevice = Unit {0}
IsRefusedFull ended = ⊥
