-- A step of the command: archives of the target are tagged, and nothing is told yet.
use Rattle.std.specs.Prelude.{◌≡◌, ℕ, true, List, [], length, Option}
use Rattle.ferry_check.specs.Report.{ArchiveRead, AreRead, untagged}
use Rattle.ferry_disk.specs.Act.{History, files_now}
use Rattle.ferry_disk.specs.Image.{settled}
use Rattle.ferry_refs.specs.Tagging.{DrawsTags}
use Rattle.ferry_repo.specs.Opening.{OpensFilesTo, RepoState}
use Rattle.ferry_repo.specs.declared.secret.Secret.{Secret}
use Rattle.ferry_run_tag.specs.Tag.{LeavesArchives}
use Rattle.ferry_stops.specs.Tells.{lines_of}
use Rattle.ferry_write.specs.Front.{LeavesSegments}

-- The target's files opened, and now they open with each archive that was there, and each record has a tag; so many had none, and
-- where none had none, no segment came. No line was told.
pub record HasTags (secret : Secret) (timestamp drawn drawn_now : Option (List ℕ)) (count : ℕ) (before now : History) : Type 0 where
  pub repo : RepoState
  pub opens : OpensFilesTo (files_now before) secret repo
  pub left : LeavesArchives secret timestamp (files_now before) repo true (files_now now)
  pub reads : List ArchiveRead
  pub are_read : AreRead (files_now before) repo repo.manifest.archives reads
  pub count_is : count ≡ length (untagged reads)
  pub drew : DrawsTags repo.keys left.olds left.texts left.renewals drawn drawn_now
  pub idle : untagged reads ≡ [] → LeavesSegments (files_now before) (files_now now)
  pub untold : lines_of now.acts ≡ lines_of before.acts
  pub settled_is : settled now.acts ≡ true

-- The same of a run that had made no act.
abbrev pub GetsTags : Secret → Option (List ℕ) → Option (List ℕ) → Option (List ℕ) → ℕ → History → History → Type 0
GetsTags secret timestamp drawn drawn_now count before now = before.acts ≡ [] → HasTags secret timestamp drawn drawn_now count before now
