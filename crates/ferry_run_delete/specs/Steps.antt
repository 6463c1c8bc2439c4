-- A step of the command: an archive went from the target, and nothing is told yet.
use Rattle.std.specs.Prelude.{◌≡◌, ℕ, true, List, [], length, Option}
use Rattle.ferry_check.specs.Verify.{IsNamed}
use Rattle.ferry_disk.specs.Act.{History, files_now}
use Rattle.ferry_disk.specs.Image.{settled}
use Rattle.ferry_refs.specs.Deleting.{AreGoing}
use Rattle.ferry_repo.specs.Opening.{OpensFilesTo, RepoState}
use Rattle.ferry_repo.specs.declared.secret.Secret.{Secret}
use Rattle.ferry_run_delete.specs.Delete.{LeavesOthers}
use Rattle.ferry_stops.specs.Tells.{lines_of}

-- The target's files opened, with an archive of the name, and now they open without it, and without the chunks that no other used: so many. No line was told.
pub record HasGone (secret : Secret) (name : List ℕ) (timestamp : Option (List ℕ)) (count : ℕ) (before now : History) : Type 0 where
  pub repo : RepoState
  pub opens : OpensFilesTo (files_now before) secret repo
  pub there : IsNamed repo name
  pub left : LeavesOthers secret name timestamp (files_now before) repo true (files_now now)
  pub ids : List (List ℕ)
  pub going : AreGoing (files_now before) repo name ids
  pub count_is : count ≡ length ids
  pub untold : lines_of now.acts ≡ lines_of before.acts
  pub settled_is : settled now.acts ≡ true

-- The same of a run that had made no act.
abbrev pub GoesAway : Secret → List ℕ → Option (List ℕ) → ℕ → History → History → Type 0
GoesAway secret name timestamp count before now = before.acts ≡ [] → HasGone secret name timestamp count before now
