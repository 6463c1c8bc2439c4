-- What the command that deletes an archive leaves in its target, whatever a stop of the machine does, and what it says where it deletes none.
use Rattle.std.specs.Prelude.{◌≡◌, ◌++◌, ℕ, Bool, true, List, [], ◌∷◌, codes, decimal, length, Option, IfSome}
use Rattle.ferry_piece.specs.declared.fault.CarryFault.{CarryFault}
use Rattle.ferry_check.specs.Report.{ArchiveRead, AreRead}
use Rattle.ferry_check.specs.Verify.{IsNamed}
use Rattle.ferry_disk.specs.Act.{History, files_now}
use Rattle.ferry_disk.specs.Device.{Told, told_files}
use Rattle.ferry_disk.specs.Files.{Files}
use Rattle.ferry_disk.specs.Moments.{Between}
use Rattle.ferry_refs.specs.Deleting.{AreGoing, HasLargeManifest, KeepsOthers, LacksManifestBlocks, RefusesDelete, time_of}
use Rattle.ferry_repo.specs.Opening.{OpensFilesTo, RepoState}
use Rattle.ferry_repo.specs.declared.secret.Secret.{Secret}
use Rattle.ferry_stops.specs.Tells.{lines_of}
use Rattle.ferry_store.specs.Causes.{HasLastSegment}
use Rattle.ferry_text.specs.Text.{escaped}
use Rattle.ferry_status.specs.Devices.{Devices}
use Rattle.ferry_status.specs.Status.{is_unread}
use Rattle.ferry_status.specs.declared.status.Limit.{Limit}
use Rattle.ferry_status.specs.declared.status.Limit.TheVariants as Limits
use Rattle.ferry_status.specs.declared.status.Status.{Status}
use Rattle.ferry_status.specs.Opened.{ChangesArchives, IsDoneUnless, OpensNumbered}
use Rattle.ferry_write.specs.Front.{OnlyRemoves}

-- the line that is told of an archive that was deleted, with the number of chunks that went with it
abbrev pub deleted_line : List ℕ → ℕ → List ℕ
deleted_line name count = codes "deleted " ++ (escaped name ++ (codes " chunks " ++ (decimal count ++ (10 ∷ []))))

-- Files have each archive that a repository had which opened from these, but for that of the name where it is gone; the time of the manifest is given, or not.
abbrev pub LeavesOthers : Secret → List ℕ → Option (List ℕ) → Files → RepoState → Bool → Files → Type 0
LeavesOthers secret name timestamp start before gone image = KeepsOthers secret start before name (time_of timestamp before.manifest) gone image

-- ---- the end

-- The target's files opened, with an archive of the name, and each archive read; now they open without it, and without the chunks that no other used: so
-- many, which is told.
pub record HasDeleted (secret : Secret) (name : List ℕ) (timestamp : Option (List ℕ)) (before now : History) : Type 0 where
  pub repo : RepoState
  pub opens : OpensFilesTo (files_now before) secret repo
  pub there : IsNamed repo name
  pub left : LeavesOthers secret name timestamp (files_now before) repo true (files_now now)
  pub ids : List (List ℕ)
  pub going : AreGoing (files_now before) repo name ids
  pub told : lines_of now.acts ≡ lines_of before.acts ++ deleted_line name (length ids) ∷ []

-- ---- where it is refused, and where it is done

-- Why an archive isn't deleted of what these files open to, where the target tells this in the end.
abbrev pub RefusesDeletion : List ℕ → Option (List ℕ) → Option Told → Files → RepoState → CarryFault → Type 0
RefusesDeletion name timestamp now files repo fault = RefusesDelete files repo name (time_of timestamp repo.manifest) now fault

-- a limit that is met, in a run that began with the files at its start
abbrev pub LimitsDeletion : List ℕ → Option (List ℕ) → RepoState → Files → Files → Limit → Type 0
LimitsDeletion name timestamp repo start image Limits.Nonce = LacksManifestBlocks repo name (time_of timestamp repo.manifest) start image
LimitsDeletion name timestamp repo start image Limits.Manifest = HasLargeManifest repo name (time_of timestamp repo.manifest)
LimitsDeletion name timestamp repo start image Limits.Segment = HasLastSegment image
LimitsDeletion name timestamp repo start image limit = ⊥

-- Where the target opens, with a number in the file `nonce` and an archive of the name, and the record and the stream of each archive read, a deletion is
-- done, unless memory was refused, a device failed, or a limit was met.
abbrev pub DeletesDone : Secret → List ℕ → Option (List ℕ) → Option Told → Option Told → Status → Type 0
DeletesDone secret name timestamp before now status = IfSome before (λ b. IfSome now (λ t. b.history.acts ≡ [] → (ready : OpensNumbered secret (told_files b))
    → IsNamed ready.repo name → (reads : List ArchiveRead) → AreRead (told_files b) ready.repo ready.repo.manifest.archives reads
    → IsDoneUnless (LimitsDeletion name timestamp ready.repo t.history.start (told_files t)) (λ _. ⊥) status))

-- ---- the whole of what is claimed

-- An archive of the target is deleted with the chunks that no other uses, and how many these were is told. Where it is there, and the record and the stream
-- of each archive read, that is done, unless memory is refused, a device fails or a limit is met. The archives are unchanged but for this one, which is there
-- or gone. Where the target is refused, or no archive has the name, no segment came or changed.
pub record DeletesArchive (secret : Secret) (name : List ℕ) (timestamp : Option (List ℕ)) (before : Devices) (status : Status) (after : Devices)
    : Type 0 where
  pub changes : ChangesArchives secret (LeavesOthers secret name timestamp) (HasDeleted secret name timestamp) (RefusesDeletion name timestamp)
      before status after
  pub unwritten : is_unread status ≡ true → Between before.target.told after.target.told OnlyRemoves
  pub completes : DeletesDone secret name timestamp before.target.told after.target.told status
