-- What the command that tags the archives of a repository leaves in its target, whatever a stop of the machine does, and what it says where it tags none.
use Rattle.std.specs.Prelude.{◌≡◌, ◌⊎◌, ◌++◌, ℕ, Bool, true, List, [], ◌∷◌, codes, decimal, length, Option, IfSome}
use Rattle.ferry_blob.specs.declared.fault.BlobFault.{BlobFault}
use Rattle.ferry_check.specs.Report.{ArchiveRead, AreRead, untagged}
use Rattle.ferry_disk.specs.Act.{History, files_now}
use Rattle.ferry_disk.specs.Device.{Told, told_files}
use Rattle.ferry_disk.specs.Files.{Files}
use Rattle.ferry_disk.specs.Moments.{Between}
use Rattle.ferry_piece.specs.declared.fault.CarryFault.{CarryFault}
use Rattle.ferry_refs.specs.Deleting.{time_of}
use Rattle.ferry_refs.specs.Tagging.{DrawsTags, HasLargeRecord, HasLargeTagged, IsNewId, IsOfNewRecord, KeepsArchives, RefusesTagging}
use Rattle.ferry_repo.specs.Opening.{OpensFilesTo, RepoState}
use Rattle.ferry_repo.specs.declared.fault.RepoFault.TheVariants as Repos
use Rattle.ferry_repo.specs.declared.secret.Secret.{Secret}
use Rattle.ferry_status.specs.Devices.{Devices, IsRefusedBy}
use Rattle.ferry_status.specs.Status.{carry_status, is_unread}
use Rattle.ferry_status.specs.declared.status.Limit.{Limit}
use Rattle.ferry_status.specs.declared.status.Limit.TheVariants as Limits
use Rattle.ferry_status.specs.declared.status.Refusal.TheVariants as Refusals
use Rattle.ferry_status.specs.declared.status.Status.{Status}
use Rattle.ferry_status.specs.declared.status.Status.TheVariants as Statuses
use Rattle.ferry_status.specs.Opened.{ChangesArchives, IsDoneUnless, OpensNumbered, OpensWith}
use Rattle.ferry_stops.specs.Tells.{lines_of}
use Rattle.ferry_store.specs.Causes.{BreaksLive, HasFewBlocks, HasLastSegment}
use Rattle.ferry_write.specs.Front.{LeavesSegments, OnlyRemoves}

-- the line that is told of so many records that got a tag
abbrev pub tagged_line : ℕ → List ℕ
tagged_line count = codes "tagged " ++ (decimal count ++ (10 ∷ []))

-- Files have each archive that a repository had which opened from these, with the tags that they had, or with all; the time of the manifest is given, or not.
abbrev pub LeavesArchives : Secret → Option (List ℕ) → Files → RepoState → Bool → Files → Type 0
LeavesArchives secret timestamp start before tagged image = KeepsArchives secret start before (time_of timestamp before.manifest) tagged image

-- ---- the end

-- The target's files opened, and now they open with each archive that was there, and each record has a tag, whose salt was drawn; how many had none is
-- told. Where none had none, no segment came.
pub record HasTagged (secret : Secret) (timestamp drawn drawn_now : Option (List ℕ)) (before now : History) : Type 0 where
  pub repo : RepoState
  pub opens : OpensFilesTo (files_now before) secret repo
  pub left : LeavesArchives secret timestamp (files_now before) repo true (files_now now)
  pub reads : List ArchiveRead
  pub are_read : AreRead (files_now before) repo repo.manifest.archives reads
  pub drew : DrawsTags repo.keys left.olds left.texts left.renewals drawn drawn_now
  pub idle : untagged reads ≡ [] → LeavesSegments (files_now before) (files_now now)
  pub told : lines_of now.acts ≡ lines_of before.acts ++ tagged_line (length (untagged reads)) ∷ []

-- ---- where it is refused, and where it is done

-- Why archives aren't tagged of what these files open to, where the target tells this in the end.
abbrev pub RefusesTags : Option (List ℕ) → Option (List ℕ) → Option (List ℕ) → Option Told → Files → RepoState → CarryFault → Type 0
RefusesTags timestamp drawn drawn_now now files repo fault = RefusesTagging files repo (time_of timestamp repo.manifest) drawn drawn_now now fault

-- a limit that is met: the counter blocks of a blob aren't left in a run that began with the files at its start, or a segment has the greatest number, or a
-- record or the manifest is too large
abbrev pub LimitsTagging : Option (List ℕ) → RepoState → Files → Files → Files → Limit → Type 0
LimitsTagging timestamp repo files start image Limits.Nonce = HasFewBlocks start image
LimitsTagging timestamp repo files start image Limits.Manifest = HasLargeTagged files repo (time_of timestamp repo.manifest)
LimitsTagging timestamp repo files start image Limits.Archive = HasLargeRecord files repo
LimitsTagging timestamp repo files start image Limits.Segment = HasLastSegment image
LimitsTagging timestamp repo files start image limit = ⊥

-- No chunk is live in files under the id of a new record whose blob breaks a rule.
abbrev pub OpensNew : Files → RepoState → Option (List ℕ) → Option (List ℕ) → Files → Type 0
OpensNew files repo drawn drawn_now image = (id : List ℕ) (fault : BlobFault) → IsNewId files repo drawn drawn_now id → BreaksLive image repo.keys id fault → ⊥

-- The target is refused for a chunk that is live under the id of a new record, and whose blob breaks a rule.
abbrev pub BreaksNew : Files → RepoState → Option (List ℕ) → Option (List ℕ) → Files → Status → Type 0
BreaksNew files repo drawn drawn_now image (Statuses.TargetRefused (Refusals.Repo (Repos.Blob id fault))) =
    IsNewId files repo drawn drawn_now id × BreaksLive image repo.keys id fault
BreaksNew files repo drawn drawn_now image status = ⊥

-- Where the target opens, with a number in the file `nonce`, and the record and the stream of each archive read, the archives are tagged, unless memory was
-- refused, a device failed, a limit was met, or a chunk is live under the id of a new record and doesn't open.
abbrev pub TagsDone : Secret → Option (List ℕ) → Option (List ℕ) → Option (List ℕ) → Option Told → Option Told → Status → Type 0
TagsDone secret timestamp drawn drawn_now before now status = IfSome before (λ b. IfSome now
    (λ t. b.history.acts ≡ [] → (ready : OpensNumbered secret (told_files b))
    → (reads : List ArchiveRead) → AreRead (told_files b) ready.repo ready.repo.manifest.archives reads
    → IsDoneUnless (LimitsTagging timestamp ready.repo (told_files b) t.history.start (told_files t))
    (BreaksNew (told_files b) ready.repo drawn drawn_now (told_files t)) status))

-- The target opened, and a fault is one of a chunk that is live under the id of a new record, and breaks a rule.
abbrev pub BreaksRecord : Secret → Option (List ℕ) → Option (List ℕ) → Option Told → Option Told → CarryFault → Type 0
BreaksRecord secret drawn drawn_now before now fault =
    IfSome before (λ t. OpensWith secret (λ files repo. IsOfNewRecord files repo drawn drawn_now now fault) (told_files t))

-- ---- the whole of what is claimed

-- Each record of an archive gets an authentication tag that has none; how many these were is told. Where the target opens, and the record and the stream of
-- each archive read, that is done, unless memory is refused, a device fails, a limit is met, or a chunk is live under the id of a new record and doesn't
-- open. Each archive that was whole is whole and says the same, where no contents collide among the new records and what was live, under the same names with
-- the same times; all have the tags that they had, or all have one. Where the target is refused, but for such a chunk, no segment came or changed.
pub record TagsArchives (secret : Secret) (timestamp : Option (List ℕ)) (before : Devices) (status : Status) (after : Devices) : Type 0 where
  pub changes : ChangesArchives secret (LeavesArchives secret timestamp) (HasTagged secret timestamp before.entropy.bytes after.entropy.bytes)
      (RefusesTags timestamp before.entropy.bytes after.entropy.bytes) before status after
  pub unwritten : is_unread status ≡ true → Between before.target.told after.target.told OnlyRemoves
      ⊎ IsRefusedBy carry_status (BreaksRecord secret before.entropy.bytes after.entropy.bytes before.target.told after.target.told) status
  pub completes : TagsDone secret timestamp before.entropy.bytes after.entropy.bytes before.target.told after.target.told status
