-- A transfer that is run again: what it asks of the archives of its target, and what the stops of earlier runs left.
use Rattle.std.specs.Prelude.{◌≡◌, ◌⊎◌, ℕ, List, [], ◌∷◌, Option, Some, None, IfSome, IsSome}
use Rattle.ferry_piece.specs.Gather.{IsAmong}
use Rattle.ferry_disk.specs.Files.{Files}
use Rattle.ferry_manifest.specs.Manifest.Text.{ManifestText}
use Rattle.ferry_manifest.specs.declared.manifest.ArchiveRef.{ArchiveRef}
use Rattle.ferry_repo.specs.Archives.{archive_named}
use Rattle.ferry_repo.specs.Opening.{RepoState, OpensFilesTo}
use Rattle.ferry_repo.specs.Whole.{HasWhole, WholeArchive}
use Rattle.ferry_nonce.specs.Counter.{HasAtLeast}
use Rattle.ferry_stops.specs.Counters.{IsNonce}
use Rattle.ferry_store.specs.State.{HasNumber}
use Rattle.ferry_run_transfer.specs.Transfer.{KeepsArchives, NoneCollide, Request, chosen_of}

-- ---- what is asked of a target

-- The archive of a name is whole in the source, and whole in a target, where it says the same.
abbrev pub IsEqualThere : Request → Files → Files → List ℕ → Type 0
IsEqualThere request source image name =
    (whole : WholeArchive) × (HasWhole source request.secrets.source name whole × HasWhole image request.secrets.target name whole)

-- No archive of this manifest has the name.
abbrev pub LacksName : ManifestText → List ℕ → Type 0
LacksName manifest name = archive_named name manifest.archives ≡ None

-- A name that is absent in a target, or whose archive is whole there and says what it says in the source.
abbrev pub IsAbsentOrEqual : Request → Files → Files → RepoState → List ℕ → Type 0
IsAbsentOrEqual request source image repo name = LacksName repo.manifest name ⊎ IsEqualThere request source image name

-- Where the source tells its files and they open, this holds of each chosen name, over these files.
abbrev pub EachChosen : Request → Option Files → (Files → List ℕ → Type 0) → Type 0
EachChosen request told Holds = IfSome told (λ source. (from : RepoState) → OpensFilesTo source request.secrets.source from → (name : List ℕ)
    → IsAmong (chosen_of request.names from.manifest) name → Holds source name)

-- Where the file `nonce` of the first had a number, that of the second has one that isn't lower, and is there where it was.
abbrev pub KeepsNonce : Files → Files → Type 0
KeepsNonce start image = (number : ℕ) → IsNonce start.nonce number → HasAtLeast number image.nonce × (IsSome start.nonce → IsSome image.nonce)

-- What a transfer asks of a target so that it can end: the target opens, with a number in the file `nonce`, and each chosen name is absent there or equal.
pub record MeetsConditions (request : Request) (image : Files) : Type 0 where
  pub repo : RepoState
  pub opens : OpensFilesTo image request.secrets.target repo
  pub nonce : HasNumber image
  pub chosen : EachChosen request request.source (λ source name. IsAbsentOrEqual request source image repo name)

-- ---- names

-- An archive of a manifest has the name, or the name is one of those that are chosen of a source with this manifest.
abbrev pub IsNamedOrChosen : Request → ManifestText → ManifestText → List ℕ → Type 0
IsNamedOrChosen request from manifest name =
    ((entry : ArchiveRef) × (archive_named name manifest.archives ≡ Some entry)) ⊎ IsAmong (chosen_of request.names from) name

-- ---- stops and reruns

-- A transfer over files that open left these files, and none of the contents collide.
pub record IsLeftBy (request : Request) (start image : Files) : Type 0 where
  pub before : RepoState
  pub opens : OpensFilesTo start request.secrets.target before
  pub lines : List (List ℕ)
  pub keeps : KeepsArchives request start before.manifest lines image
  pub nonce : KeepsNonce start image
  pub apart : NoneCollide request start keeps.begun

-- Each of these files was left by a transfer that began with the files before it, the first by one that began with the start.
abbrev pub AreLeftInTurn : Request → Files → List Files → Type 0
AreLeftInTurn request start [] = Unit {0}
AreLeftInTurn request start (image ∷ images) = IsLeftBy request start image × AreLeftInTurn request image images
