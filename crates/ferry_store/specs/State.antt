-- What is known of a repository while a run writes it: its session, its counter and its plain files, and the blobs of all runs.
use Rattle.std.specs.Prelude.{◌≡◌, ◌⊎◌, ℕ, Bool, true, false, List, [], ◌∷◌, ◌++◌, Option, Some, None, Result, IfOk, IsTrue, codes, unwrap_or, ◌<◌}
use Rattle.ferry_base.specs.Limits.{content_limit}
use Rattle.ferry_config.specs.Text.{config_text}
use Rattle.ferry_config.specs.declared.config.Config.{Config}
use Rattle.ferry_disk.specs.Act.{Step, History, files_now, with_act}
use Rattle.ferry_disk.specs.Files.{Files, file_at, segment_bytes}
use Rattle.ferry_disk.specs.Image.{plain_in}
use Rattle.ferry_disk.specs.Device.{Told, HasCause}
use Rattle.ferry_disk.specs.Faults.{EndsAtFault}
use Rattle.ferry_disk.specs.Moments.{Between, Moments}
use Rattle.ferry_disk.specs.declared.name.Name.TheVariants.{Config as ConfigFile, Nonce as NonceFile, Readme}
use Rattle.ferry_log.specs.Log.{IsUncommitted}
use Rattle.ferry_log.specs.State.{IsBlobAt}
use Rattle.ferry_log.specs.declared.place.Place.{Place}
use Rattle.ferry_nonce.specs.Counter.{CounterFits, HasNoNumber, IsDrawnSince, KeepsNumbers}
use Rattle.ferry_nonce.specs.declared.counter.Counter.{Counter}
use Rattle.ferry_nonce.specs.declared.fault.NonceFault.TheVariants as Nonces
use Rattle.ferry_repo.specs.declared.fault.RepoFault.TheVariants as Repos
use Rattle.ferry_segment.specs.Entry.{LogEntry}
use Rattle.ferry_stops.specs.Blobs.{BlobOf, AllTraced}
use Rattle.ferry_stops.specs.Chance.{EachStop}
use Rattle.ferry_stops.specs.Counters.{AreApart, SpellsNumber, TakenBelow, IsFresh, IsKept}
use Rattle.ferry_stops.specs.Entries.{Shows}
use Rattle.ferry_store.specs.Counting.{IsNext}
use Rattle.ferry_store.specs.Fault.{depot_failed}
use Rattle.ferry_store.specs.Types.{KeepsTypes}
use Rattle.ferry_store.specs.declared.fault.StoreRefusal.{StoreRefusal}
use Rattle.ferry_store.specs.declared.fault.StoreRefusal.TheVariants.{Repo, Write, Nonce, Committed, TooLarge, Entropy, Memory}
use Rattle.ferry_write.specs.Room.{must_begin, AreUsedUp}
use Rattle.ferry_write.specs.Rows.{SessionRows}
use Rattle.ferry_write.specs.Script.{AllDone}
use Rattle.ferry_write.specs.Session.{CommittedUpTo, SessionFits, Stays, rests_at, with_commit}
use Rattle.ferry_write.specs.declared.fault.WriteFault.TheVariants as Writes
use Rattle.ferry_write.specs.declared.session.Session.{Session}

-- Nothing was done, or one act, done or not.
abbrev pub IsStep : Step → History → History → Type 0
IsStep step before now = (now ≡ before) ⊎ ((done : Bool) × (now ≡ with_act step done before))

-- What a step of several calls did: this at each moment, and that at its end where it is `Ok`. No call of the depot follows one that
-- failed, and a failed depot is one that counted a fault.
pub record Did {T : Type 0} (Each : History → History → Type 0) (End : T → History → History → Type 0) (before now : Option Told) (count after : ℕ)
    (result : Result T StoreRefusal) : Type 0 where
  pub each : Between before now Each
  pub end : IfOk result (λ x. Between before now (λ h g. AllDone h g × End x h g))
  pub ends : EndsAtFault depot_failed before now result
  pub cause : HasCause depot_failed count after result

-- ---- what stands

-- what was committed, what was put since, and the files `config` and `README`
pub record Written : Type 0 where
  pub committed : Option (List LogEntry)
  pub pending : List LogEntry
  pub config : Option (List ℕ)
  pub readme : Option (List ℕ)

-- the same with one more entry put
abbrev pub with_entry : Written → LogEntry → Written
with_entry written entry = record written { pending = written.pending ++ entry ∷ [] }

-- Blobs share no counter block, and each block that was taken is below a number.
pub record AreTaken (free : ℕ) (history : History) : Type 0 where
  pub apart : AreApart (BlobOf history)
  pub below : TakenBelow free history

-- Where a session writes no segment, its last one is that of the commit.
abbrev pub EndsAtCommit : Session → Type 0
EndsAtCommit session = session.size ≡ None → session.last ≡ session.after

-- A repository is written: the session and the counter fit, a session that writes no segment ends at its commit, nothing of the plain
-- files is in doubt, the counter is behind the number that the run began with by the blocks of the blobs that it put, none of which has a lower
-- number or another type than that of the settings, and, where the blocks of the runs before count, each block that was taken is below the counter.
pub record IsUnderWay (counts : Bool) (session : Session) (counter : Counter) (written : Written) (history : History) : Type 0 where
  pub fits : SessionFits session written.committed written.pending history
  pub rows : SessionRows session history
  pub ends : EndsAtCommit session
  pub counter_fits : CounterFits counter history
  pub config : plain_in history ConfigFile ≡ rests_at written.config
  pub readme : plain_in history Readme ≡ rests_at written.readme
  pub next : IsNext counter.free (unwrap_or written.committed [] ++ written.pending) history.start
  pub numbers : IsDrawnSince counter.free history
  pub types : KeepsTypes history
  pub taken : counts ≡ true → AreTaken counter.free history

-- A moment is sound: each stop shows this, each blob is traced, no block of a blob that the run put and no number that a stop leaves in the file
-- `nonce` is below the number that it began with, each blob that it put has the type of the settings, and, where the blocks of the runs before count,
-- no counter block serves two blobs and the file is above all that were taken.
pub record IsSound (Show : Files → Type 0) (counts : Bool) (history : History) : Type 0 where
  pub shows : EachStop Show history
  pub traced : AllTraced history
  pub numbers : KeepsNumbers history
  pub types : KeepsTypes history
  pub fresh : counts ≡ true → IsFresh history

-- what is committed is shown, with the settings as they are
abbrev pub ShowsStanding : Written → Files → Type 0
ShowsStanding written image = Shows image written.committed × (image.config ≡ written.config)

-- At each moment each stop shows what is committed, whatever was put since, with the settings as they are.
abbrev pub KeepsSound : Session → Counter → History → History → Type 0
KeepsSound session counter before now = (counts : Bool) (written : Written) → IsUnderWay counts session counter written before
    → Moments (IsSound (ShowsStanding written) counts) before now

-- An entry was put.
abbrev pub TakesEntry : Session → Counter → LogEntry → Session → Counter → History → History → Type 0
TakesEntry session counter entry session_now counter_now before now = (counts : Bool) (written : Written)
    → IsUnderWay counts session counter written before → IsUnderWay counts session_now counter_now (with_entry written entry) now

-- A blob was put: it lies at a place, each segment has what it had and perhaps more behind it, and those up to the last commit are as they were.
pub record HasPlaced (session : Session) (blob : List ℕ) (place : Place) (before now : History) : Type 0 where
  pub lies : IsBlobAt (segment_bytes (files_now now) place.segment) place.at place.size blob
  pub stays : Stays session.after before now

abbrev pub IsPlaced : Session → Counter → List ℕ → Place → History → History → Type 0
IsPlaced session counter blob place before now = (counts : Bool) (written : Written) → IsUnderWay counts session counter written before
    → HasPlaced session blob place before now

-- ---- the begin of a run

-- what stands at the begin of a run, where these entries are committed
abbrev pub found : Option (List LogEntry) → Files → Written
found committed files = record { committed = committed; pending = []; config = files.config; readme = files.readme }

-- The run has made no act, these entries are committed up to a segment, and, where the blocks of the runs before count, they are kept.
pub record IsBegun (counts : Bool) (after : Option ℕ) (committed : Option (List LogEntry)) (history : History) : Type 0 where
  pub no_acts : history.acts ≡ []
  pub shown : CommittedUpTo after committed (files_now history)
  pub kept : counts ≡ true → IsKept history

-- At each moment each stop shows what is committed, with the settings as they are.
abbrev pub BeginsSound : Option ℕ → History → History → Type 0
BeginsSound after before now = (counts : Bool) (committed : Option (List LogEntry)) → IsBegun counts after committed before
    → Moments (IsSound (ShowsStanding (found committed (files_now before))) counts) before now

abbrev pub Begins : Option ℕ → Counter → Session → History → History → Type 0
Begins after counter session before now = (counts : Bool) (committed : Option (List LogEntry)) → IsBegun counts after committed before
    → IsUnderWay counts session counter (found committed (files_now before)) now

-- A session behind a commit and a counter, with which nothing was done.
pub record IsFirst (after : Option ℕ) (limit : ℕ) (counter : Counter) (session : Session) : Type 0 where
  pub session_is : session ≡ record { limit = limit; after = after; last = after; size = None; spent = false }
  pub reserved : counter.reserved ≡ counter.free
  pub unspent : counter.spent ≡ false

-- ---- a commit

-- the same with all committed that was put
abbrev pub all_committed : Written → Written
all_committed written = record written { committed = with_commit written.committed written.pending; pending = [] }

-- what is shown by each stop while all is committed that was put: what was committed before, or that and what was put, with the settings
-- as they are
abbrev pub ShowsEither : Written → Files → Type 0
ShowsEither written image = ShowsStanding written image ⊎ ShowsStanding (all_committed written) image

abbrev pub CommitsSound : Session → Counter → History → History → Type 0
CommitsSound session counter before now = (counts : Bool) (written : Written) → IsUnderWay counts session counter written before
    → Moments (IsSound (ShowsEither written) counts) before now

abbrev pub TakesCommit : Session → Counter → Session → History → History → Type 0
TakesCommit session counter session_now before now = (counts : Bool) (written : Written) → IsUnderWay counts session counter written before
    → IsUnderWay counts session_now counter (all_committed written) now

-- ---- the settings

-- the text of `README`: "This is a Borg Backup repository." and its end
abbrev pub readme_text : List ℕ
readme_text = codes "This is a Borg Backup repository." ++ 10 ∷ []

-- the same with these settings
abbrev pub with_settings : Written → List ℕ → Written
with_settings written config = record written { config = Some config; readme = Some readme_text }

-- At each moment each stop shows what is committed, while the settings are replaced.
abbrev pub SettingsSound : History → History → Type 0
SettingsSound before now = (session : Session) (counter : Counter) (counts : Bool) (written : Written)
    → IsUnderWay counts session counter written before → Moments (IsSound (λ image. Shows image written.committed) counts) before now

abbrev pub TakesSettings : Config → History → History → Type 0
TakesSettings config before now = (session : Session) (counter : Counter) (counts : Bool) (written : Written)
    → IsUnderWay counts session counter written before → IsUnderWay counts session counter (with_settings written (config_text config)) now

-- ---- refusals

-- A segment is committed, or the device failed or memory was refused.
abbrev pub RefusesLog : Files → StoreRefusal → Type 0
RefusesLog files Committed = IsUncommitted files → ⊥
RefusesLog files (Repo Repos.Device) = Unit {0}
RefusesLog files Memory = Unit {0}
RefusesLog files refusal = ⊥

-- The file `nonce` has no number, or isn't there beside a commit; or the device failed or memory was refused.
abbrev pub RefusesBegin : Bool → Files → StoreRefusal → Type 0
RefusesBegin committed files (Nonce Nonces.Text) = HasNoNumber (file_at files NonceFile)
RefusesBegin committed files (Nonce Nonces.Missing) = (file_at files NonceFile ≡ None) × (committed ≡ true)
RefusesBegin committed files (Nonce Nonces.Device) = Unit {0}
RefusesBegin committed files (Write Writes.Device) = Unit {0}
RefusesBegin committed files Memory = Unit {0}
RefusesBegin committed files refusal = ⊥

-- The target failed or memory was refused.
abbrev pub IsTarget : StoreRefusal → Type 0
IsTarget (Write Writes.Device) = Unit {0}
IsTarget Memory = Unit {0}
IsTarget refusal = ⊥

-- The file `nonce` is there, and has a number.
pub record HasNumber (files : Files) : Type 0 where
  pub text : List ℕ
  pub nonce : file_at files NonceFile ≡ Some text
  pub number : ℕ
  pub spelled : SpellsNumber text number

-- Where something is committed, and the file `nonce` is absent or has no number, nothing is done.
abbrev pub BeginLeaves : Bool → History → History → Type 0
BeginLeaves committed before now = committed ≡ true → (HasNumber (files_now before) → ⊥) → now ≡ before

-- Why what was put isn't committed: the numbers of segments are used up, or the device failed or memory was refused.
abbrev pub RefusesCommit : Session → StoreRefusal → Type 0
RefusesCommit session (Write Writes.Device) = Unit {0}
RefusesCommit session (Write Writes.Numbers) = AreUsedUp session.last
RefusesCommit session Memory = Unit {0}
RefusesCommit session refusal = ⊥

-- Why an object isn't put that takes an entry of this size: no blocks are left, the numbers of segments are used up, or the device failed or
-- memory was refused.
abbrev pub RefusesPut : Session → ℕ → StoreRefusal → Type 0
RefusesPut session more (Nonce Nonces.Exhausted) = Unit {0}
RefusesPut session more (Nonce Nonces.Device) = Unit {0}
RefusesPut session more (Write Writes.Device) = Unit {0}
RefusesPut session more (Write Writes.Numbers) = IsTrue (must_begin session.last session.size session.limit more) × AreUsedUp session.last
RefusesPut session more Memory = Unit {0}
RefusesPut session more refusal = ⊥

-- Why there is no manifest of this size.
abbrev pub RefusesManifest : ℕ → StoreRefusal → Type 0
RefusesManifest size TooLarge = content_limit < size
RefusesManifest size Entropy = Unit {0}
RefusesManifest size Memory = Unit {0}
RefusesManifest size refusal = ⊥
