-- What the command that lists the live keys writes.
use Rattle.std.specs.Prelude.{◌≡◌, ℕ, List, ◌∷◌, [], ◌++◌, decimal}
use Rattle.std.specs.List.{flat_map}
use Rattle.std.specs.FinMap.{entries}
use Rattle.hex.specs.Hex.{encode_lower}
use Rattle.ferry_disk.specs.Files.{Files}
use Rattle.ferry_log.specs.State.{LogState, IsStateOf}
use Rattle.ferry_log.specs.declared.place.Place.{Place}
use Rattle.ferry_disk.specs.Files.{Files}
use Rattle.ferry_log.specs.Log.{IsUncommitted, IsDamaged}
use Rattle.ferry_repo.specs.declared.fault.RepoFault.TheVariants.{NoCommit, Damaged}
use Rattle.ferry_status.specs.declared.status.Refusal.{Refusal}
use Rattle.ferry_status.specs.declared.status.Refusal.TheVariants.{Repo}

-- a key in hex digits, a space, the size of its blob, and a line feed
abbrev pub key_line : List ℕ → ℕ → List ℕ
key_line key size = encode_lower key ++ (32 ∷ decimal size ++ (10 ∷ []))

-- the lines of keys with the places of their blobs
abbrev pub key_lines : List (List ℕ × Place) → List ℕ
key_lines keys = flat_map (λ e. key_line e.0 e.1.size) keys

-- The text has the line of each live key of the files, in byte order, and no other.
pub record IsListing (files : Files) (text : List ℕ) : Type 0 where
  pub state : LogState
  pub is : IsStateOf files state
  pub lines : text ≡ key_lines (entries state.opened)

-- what a refusal says of the files of a source whose keys are to be listed
abbrev pub RefusesKeys : Files → Refusal → Type 0
RefusesKeys files (Repo NoCommit) = IsUncommitted files
RefusesKeys files (Repo (Damaged segment at)) = IsDamaged files segment at
RefusesKeys files refusal = ⊥
