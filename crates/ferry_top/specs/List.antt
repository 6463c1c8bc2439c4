-- What the command that lists the archives writes, and what it says where it doesn't.
use Rattle.std.specs.Prelude.{◌≡◌, ℕ, List}
use Rattle.ferry_disk.specs.Files.{Files}
use Rattle.ferry_repo.specs.Fault.{IsOfFiles}
use Rattle.ferry_repo.specs.Opening.{RepoState, OpensFilesTo}
use Rattle.ferry_repo.specs.declared.fault.RepoFault.{RepoFault}
use Rattle.ferry_repo.specs.declared.secret.Secret.{Secret}
use Rattle.ferry_status.specs.declared.status.Refusal.{Refusal}
use Rattle.ferry_status.specs.declared.status.Refusal.TheVariants.{Repo}
use Rattle.ferry_view.specs.Lines.{archive_lines}

-- The files open under the secret, and the text has the line of each archive of their manifest, in byte order of names.
pub record IsArchiveListing (secret : Secret) (files : Files) (text : List ℕ) : Type 0 where
  pub repo : RepoState
  pub opens : OpensFilesTo files secret repo
  pub lines : text ≡ archive_lines repo.manifest.archives

-- What a refusal of a source says, where each fault of its files says this.
abbrev pub RefusesBy : (RepoFault → Type 0) → Refusal → Type 0
RefusesBy Refuses (Repo fault) = IsOfFiles fault × Refuses fault
RefusesBy Refuses refusal = ⊥
