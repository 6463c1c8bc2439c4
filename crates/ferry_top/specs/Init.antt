-- What the command that makes a repository leaves, and what it says where it makes none.
use Rattle.std.specs.Prelude.{◌≡◌, ◌⊎◌, ℕ, true, List, [], ◌∷◌, ◌++◌, codes, Option, unwrap_or, IfSome, option_map}
use Rattle.hex.specs.Hex.{encode_lower}
use Rattle.ferry_disk.specs.Act.{History, TellOf, files_now, with_act}
use Rattle.ferry_disk.specs.Files.{Files, file_at}
use Rattle.ferry_disk.specs.Moments.{Between, Moments}
use Rattle.ferry_disk.specs.declared.name.Name.TheVariants.{Nonce as NonceFile}
use Rattle.ferry_log.specs.Log.{IsUncommitted}
use Rattle.ferry_nonce.specs.Counter.{HasNoNumber}
use Rattle.ferry_repo.specs.declared.secret.Secret.{Secret}
use Rattle.ferry_stops.specs.Chance.{EachStop}
use Rattle.ferry_stops.specs.Tells.{lines_of}
use Rattle.ferry_store.specs.Init.{HasNoBlocks, IsTooLarge}
use Rattle.ferry_store.specs.Key.{FitsGiven}
use Rattle.ferry_store.specs.New.{IsNothingOrNew, OpensNew}
use Rattle.ferry_store.specs.Store.{InitLeaves, MakesFiles, RefusesInit, WritesEach}
use Rattle.ferry_status.specs.Devices.{Devices, IsRefusedBy}
use Rattle.ferry_status.specs.Status.{store_status, target_failed, entropy_failed}
use Rattle.ferry_status.specs.declared.status.Status.{Status}
use Rattle.ferry_status.specs.declared.status.Status.TheVariants.{Done, Memory as NoMemory}

-- the timestamp that the words give, or the begin of 1970
abbrev pub time_or : Option (List ℕ) → List ℕ
time_or timestamp = unwrap_or timestamp (codes "1970-01-01T00:00:00.000000")

-- the line that is told of a new repository: its id in hex digits
abbrev pub initialized_line : List ℕ → List ℕ
initialized_line id = codes "initialized " ++ (encode_lower id ++ (10 ∷ []))

-- A new repository is made of these random bytes, and no line is told, and then the id in its `config` is.
pub record MakesAndTells (secret : Secret) (iterations : ℕ) (timestamp bytes : List ℕ) (before now : History) : Type 0 where
  pub makes : MakesFiles secret iterations timestamp bytes before now
  pub made : History
  pub untold : lines_of made.acts ≡ []
  pub tells : now ≡ with_act (TellOf (initialized_line makes.opens.repo.config.id)) true made

-- What a stop leaves, where these lines were told: none was, and nothing is committed, or the files open as a new repository; or the line of the new repository
-- to which they open was, and no other.
abbrev pub IsToldOf : Secret → List (List ℕ) → Files → Type 0
IsToldOf secret lines image = ((lines ≡ []) × IsNothingOrNew secret image)
    ⊎ ((new : OpensNew secret image) × (lines ≡ initialized_line new.repo.config.id ∷ []))

-- Where nothing is committed, each stop at each moment leaves that, by the lines that were told until then.
abbrev pub CommandShows : Secret → History → History → Type 0
CommandShows secret before now = before.acts ≡ [] → IsUncommitted (files_now before)
    → Moments (λ h. EachStop (IsToldOf secret (lines_of h.acts)) h) before now

-- At each moment of the command, and at its end.
abbrev pub CommandEach : Secret → History → History → Type 0
CommandEach secret before now = WritesEach (λ h g. CommandShows secret h g × (h.acts ≡ [] → InitLeaves h g)) before now

-- A repository is made in the target, or that is refused. Whatever a stop leaves at any moment has no commit, or is the new repository, and that one where its
-- line was told; the
-- counter blocks of the runs before stay apart, and none of this run's, and no number of the file `nonce`, is below the one that it began with. Source and
-- output are not used.
pub record MakesRepository (secret : Secret) (iterations : ℕ) (timestamp : List ℕ) (before : Devices) (status : Status) (after : Devices) : Type 0 where
  pub source : after.source ≡ before.source
  pub output : after.output ≡ before.output
  pub made : status ≡ Done → (bytes : List ℕ) × (after.entropy.bytes ≡ option_map (λ d. d ++ bytes) before.entropy.bytes)
      × Between before.target.told after.target.told (λ h g. h.acts ≡ [] → MakesAndTells secret iterations timestamp bytes h g)
  pub each : Between before.target.told after.target.told (CommandEach secret)
  pub refused : (status ≡ Done)
      ⊎ IsRefusedBy store_status (λ refusal. IfSome before.target.told (λ t. RefusesInit secret timestamp t.history refusal)) status

-- ---- where nothing refuses

-- A new repository may be made of these files: nothing is committed, the key file reads and opens where there is one, and the file `nonce` has
-- a number behind which the blocks of the manifest are left, which isn't too large.
pub record IsReady (secret : Secret) (timestamp : List ℕ) (files : Files) : Type 0 where
  pub uncommitted : IsUncommitted files
  pub key : FitsGiven secret
  pub nonce : HasNoNumber (file_at files NonceFile) → ⊥
  pub blocks : HasNoBlocks timestamp files → ⊥
  pub fits : IsTooLarge timestamp → ⊥

-- Memory was refused, or the target or the source of random bytes failed.
abbrev pub IsFault : Status → Type 0
IsFault status = (status ≡ NoMemory) ⊎ ((target_failed status ≡ true) ⊎ (entropy_failed status ≡ true))
