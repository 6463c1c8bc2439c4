-- What the commands that show an archive write, and what they say where they don't.
use Rattle.std.specs.Prelude.{◌≡◌, ◌⊎◌, ℕ, List, [], None}
use Rattle.ferry_disk.specs.Files.{Files}
use Rattle.ferry_repo.specs.Archives.{archive_named}
use Rattle.ferry_repo.specs.Fault.{IsOfFiles}
use Rattle.ferry_repo.specs.Opening.{RepoState, RefusesRepo}
use Rattle.ferry_repo.specs.declared.fault.RepoFault.{RepoFault}
use Rattle.ferry_repo.specs.declared.secret.Secret.{Secret}
use Rattle.ferry_status.specs.declared.status.Refusal.{Refusal}
use Rattle.ferry_status.specs.Opened.{OpensWith}
use Rattle.ferry_view.specs.Items.{LacksFile}
use Rattle.ferry_view.specs.declared.fault.ViewFault.{ViewFault}
use Rattle.ferry_view.specs.declared.fault.ViewFault.TheVariants as View
use Rattle.ferry_top.specs.List.{RefusesBy}

-- The files open under the secret, and show this text of the repository that they open to.
abbrev pub ShowsWhole : Secret → (Files → RepoState → List ℕ → Type 0) → Files → List ℕ → Type 0
ShowsWhole secret IsShown files text = OpensWith secret (λ f repo. IsShown f repo text) files

-- What the files show under the secret as far as they read: nothing where they don't open, else what is shown of the repository that they open to.
abbrev pub ShowsAsRead : Secret → (Files → RepoState → List ℕ → Type 0) → Files → List ℕ → Type 0
ShowsAsRead secret IsShown files text =
    ((text ≡ []) × ((fault : RepoFault) × IsOfFiles fault × RefusesRepo files secret fault)) ⊎ ShowsWhole secret IsShown files text

-- what a refusal says of the files of a source: they don't open, or the archive is refused so
abbrev pub RefusesShowing : Secret → (Files → RepoState → ViewFault → Type 0) → Files → Refusal → Type 0
RefusesShowing secret RefusesView files refusal =
    RefusesBy (λ fault. RefusesRepo files secret fault ⊎ OpensWith secret (λ f repo. RefusesView f repo (View.Repo fault)) files) refusal

-- The files open, and no archive has the name, which is told.
abbrev pub LacksArchive : Secret → List ℕ → Files → List ℕ → Type 0
LacksArchive secret name files told =
    (told ≡ name) × OpensWith secret (λ f repo. archive_named name repo.manifest.archives ≡ None) files

-- The files open, and no archive has the name, which is told; or that archive has no such file, and the path is told.
abbrev pub LacksPath : Secret → List ℕ → List ℕ → Files → List ℕ → Type 0
LacksPath secret name path files told = LacksArchive secret name files told
    ⊎ ((told ≡ path) × OpensWith secret (λ f repo. LacksFile f repo name path) files)
