-- Runs of the commands that write a target, one behind the other: each begins with what the one before left, where it ended and where it was stopped.
use Rattle.std.specs.Prelude.{◌≡◌, ℕ, List, [], ◌∷◌, Some, Ok}
use Rattle.ferry_disk.specs.Act.{History, after_run, after_stop, files_now}
use Rattle.ferry_disk.specs.Device.{Told}
use Rattle.ferry_disk.specs.Files.{Files}
use Rattle.ferry_disk.specs.Moments.{IsMoment}
use Rattle.ferry_log.specs.Log.{IsUncommitted}
use Rattle.ferry_repo.specs.Opening.{OpensFilesTo, RepoState}
use Rattle.ferry_repo.specs.declared.secret.Secret.{Secret}
use Rattle.ferry_store.specs.State.{HasNumber}
use Rattle.ferry_status.specs.Devices.{Devices}
use Rattle.ferry_status.specs.declared.status.Secrets.{Secrets}
use Rattle.ferry_status.specs.declared.status.Status.{Status}
use Rattle.ferry_stops.specs.Chance.{IsLeft}
use Rattle.ferry_stops.specs.Counters.{IsKept, IsNonce}
use Rattle.ferry_store.specs.Store.{OpensSome}
use Rattle.ferry_top.specs.Run.{Runs}
use Rattle.ferry_words.specs.declared.command.Command.{Command}
use Rattle.ferry_words.specs.declared.command.Command.TheVariants.{Init, Transfer, Delete, Compact, TagArchives}

-- ---- a target

-- Nothing is committed in these files, whose file `nonce` is absent or has a number; or they open under the secret, with a number in the file `nonce`.
pub data CanGoOn (secret : Secret) (files : Files) : Type 0 where
  unmade : (number : ℕ) → IsUncommitted files → IsNonce files.nonce number → CanGoOn secret files
  made : (repo : RepoState) → OpensFilesTo files secret repo → HasNumber files → CanGoOn secret files

-- A run may begin so: it has made no act, counter blocks are kept, and its target is one that a command can go on with.
pub record MayBegin (secret : Secret) (history : History) : Type 0 where
  pub begun : history.acts ≡ []
  pub kept : IsKept history
  pub target : CanGoOn secret (files_now history)

-- ---- a run

-- The commands that write: `init` over any target, and the others over one that opens.
abbrev pub Writes : Command → Secret → Files → Type 0
Writes (Init iterations timestamp) secret files = Unit {0}
Writes (Transfer block checkpoint timestamp names) secret files = OpensSome files secret
Writes (Delete timestamp name) secret files = OpensSome files secret
Writes (Compact threshold) secret files = OpensSome files secret
Writes (TagArchives timestamp) secret files = OpensSome files secret
Writes command secret files = ⊥

-- A command that writes was run over a target which told the one before it and the other behind it, with whatever source, random bytes and output, and ended
-- with whatever status.
pub record IsRunOf (secret : Secret) (before now : History) : Type 0 where
  pub command : Command
  pub writes : Writes command secret (files_now before)
  pub secrets : Secrets
  pub secret_is : secrets.target ≡ secret
  pub devices : Devices
  pub after : Devices
  pub status : Status
  pub runs : Runs (Ok command) secrets devices status after
  pub first : Told
  pub told : devices.target.told ≡ Some first
  pub first_is : first.history ≡ before
  pub last : Told
  pub told_after : after.target.told ≡ Some last
  pub last_is : last.history ≡ now

-- ---- what it leaves

-- What a run leaves the next one to begin with: what is read at its end; or what a stop of the machine left at one of its moments.
pub data Leaves (secret : Secret) (before : History) : History → Type 0 where
  ended : (now : History) → IsRunOf secret before now → Leaves secret before (after_run now)
  stopped : (now moment : History) (image : Files) → IsRunOf secret before now → IsMoment before now moment → IsLeft moment image
      → Leaves secret before (after_stop image moment.acts moment)

-- Each of these was left by a run that began with the one before it, the first by one that began so.
abbrev pub AreLeft : Secret → History → List History → Type 0
AreLeft secret before [] = Unit {0}
AreLeft secret before (next ∷ more) = Leaves secret before next × AreLeft secret next more
