-- What a session stands on, and what its calls leave of it.
use Rattle.std.specs.Prelude.{◌≡◌, ℕ, suc, ◌+◌, ◌<◌, ◌≤◌, false, ◌⊎◌, List, [], ◌∷◌, ◌++◌, length, Option, Some, None, unwrap_or}
use Rattle.std.specs.Prelude.{Result, MatchResult}
use Rattle.std.specs.FinMap.{get}
use Rattle.std.specs.List.{AllByRecursion}
use Rattle.ferry_disk.specs.Act.{Step, ReplaceBy, SettleAll, TellOf, Act, History, IsPlain, files_now}
use Rattle.ferry_disk.specs.Device.{Told}
use Rattle.ferry_disk.specs.Files.{Files, segment_bytes}
use Rattle.ferry_disk.specs.Image.{PlainFate, plain_in, fate_in, at_rest}
use Rattle.ferry_disk.specs.Moments.{Between, Moments}
use Rattle.ferry_disk.specs.declared.name.Name.{Name}
use Rattle.ferry_log.specs.State.{IsBlobAt}
use Rattle.ferry_log.specs.declared.place.Place.{Place}
use Rattle.ferry_segment.specs.Entry.{LogEntry, CommitEntry, Fits}
use Rattle.ferry_segment.specs.Segment.{magic, spellings, IsData}
use Rattle.ferry_stops.specs.Chance.{EachStop, stable_bytes}
use Rattle.ferry_stops.specs.Entries.{HaveBelow, ShowsAt, Shows}
use Rattle.ferry_stops.specs.Ground.{IsOwn}
use Rattle.ferry_write.specs.Room.{behind}
use Rattle.ferry_write.specs.Script.{DoesAll, StopsIn, clear_steps}
use Rattle.ferry_write.specs.declared.fault.WriteFault.{WriteFault}
use Rattle.ferry_write.specs.declared.session.Session.{Session}

-- A segment that is written: it has these bytes, the stable ones are a front of them, and no removal of it is in doubt.
pub record IsWritten (history : History) (number : ℕ) (bytes : List ℕ) : Type 0 where
  pub read : (fate_in history number).read ≡ Some bytes
  pub all : (fate_in history number).all ≡ Some bytes
  pub kept : (fate_in history number).lost ≡ false
  pub rest : List ℕ
  pub begins : bytes ≡ stable_bytes (fate_in history number) ++ rest

-- The segment that is written, not below an end, has so many bytes: the magic and entries of which none is a COMMIT.
pub record IsCurrent (history : History) (end number size : ℕ) : Type 0 where
  pub above : end ≤ number
  pub entries : List LogEntry
  pub fit : AllByRecursion Fits entries
  pub data_only : AllByRecursion IsData entries
  pub written : IsWritten history number (magic ++ spellings entries)
  pub size_is : size ≡ 8 + length (spellings entries)

-- the last segment is at rest, or is written
abbrev pub LastIs : History → ℕ → Option ℕ → Option ℕ → Type 0
LastIs history end None size = size ≡ None
LastIs history end (Some number) None = fate_in history number ≡ at_rest (get (files_now history).segments number)
LastIs history end (Some number) (Some size) = IsCurrent history end number size

-- Behind the segment of the last commit stand those of what was put since, up to the last one, of which a size is known where it is
-- written. What is committed, and what was put, are the entries of the segments up to the last. Nothing else is in doubt.
pub record Stands (after last size : Option ℕ) (committed : Option (List LogEntry)) (pending : List LogEntry) (history : History) : Type 0 where
  pub own : IsOwn (behind after) committed history
  pub order : behind after ≤ behind last
  pub none : (n : ℕ) → behind last ≤ n → fate_in history n ≡ at_rest None
  pub at_rest_below : (n : ℕ) → suc n < behind last → fate_in history n ≡ at_rest (get (files_now history).segments n)
  pub last_is : LastIs history (behind after) last size
  pub entries : HaveBelow (files_now history) (behind last) (unwrap_or committed [] ++ pending)

-- A session fits what its device told: these entries are committed, and these were put since.
abbrev pub SessionFits : Session → Option (List LogEntry) → List LogEntry → History → Type 0
SessionFits session committed pending history = Stands session.after session.last session.size committed pending history

-- ---- beside a session

-- nothing of such a file is in doubt
abbrev pub rests_at : Option (List ℕ) → PlainFate
rests_at file = record { read = file; perhaps = None }

-- A file that is no segment, and of which nothing is in doubt, is so at each moment, with the same contents.
abbrev pub KeepsPlain : History → History → Type 0
KeepsPlain before now = (name : Name) (file : Option (List ℕ)) → plain_in before name ≡ rests_at file
    → Moments (λ h. plain_in h name ≡ rests_at file) before now

-- Each segment has what it had, and perhaps more behind it; those up to a commit are as they were.
pub record Stays (after : Option ℕ) (before now : History) : Type 0 where
  pub below : (n : ℕ) → n < behind after → get (files_now now).segments n ≡ get (files_now before).segments n
  pub longer : (n : ℕ) → (rest : List ℕ) × (segment_bytes (files_now now) n ≡ segment_bytes (files_now before) n ++ rest)

-- That holds of what a read gives before and after a call of a session that fits.
abbrev pub OnlyAppends : Session → History → History → Type 0
OnlyAppends session before now = (committed : Option (List LogEntry)) (pending : List LogEntry) → SessionFits session committed pending before
    → Stays session.after before now

-- A step of a layer above beside a session: it replaces a file that is no segment, or tells a line.
abbrev pub IsBeside : Step → Type 0
IsBeside (ReplaceBy name bytes) = IsPlain name
IsBeside (TellOf line) = Unit {0}
IsBeside step = ⊥

-- ---- `begin`

-- These entries are committed up to a segment, and no segment above it is.
abbrev pub CommittedUpTo : Option ℕ → Option (List LogEntry) → Files → Type 0
CommittedUpTo after committed files = ShowsAt files (behind after) committed

-- The new session fits.
abbrev pub Begins : Option ℕ → Session → History → History → Type 0
Begins after session before now = (committed : Option (List LogEntry)) → CommittedUpTo after committed (files_now before)
    → SessionFits session committed [] now

-- Where each stop showed what is committed, so does each stop at each moment.
abbrev pub BeginKeeps : Option ℕ → History → History → Type 0
BeginKeeps after before now = (committed : Option (List LogEntry)) → CommittedUpTo after committed (files_now before)
    → EachStop (λ image. Shows image committed) before → Moments (EachStop (λ image. Shows image committed)) before now

-- A Settle is done, and each segment behind the number is removed, by increasing number; or a fault stopped in these steps.
abbrev pub ClearsAll : Option ℕ → History → History → Type 0
ClearsAll after before now = DoesAll (clear_steps (behind after) (files_now before)) before now

abbrev pub ClearsSome : Option ℕ → History → History → Type 0
ClearsSome after before now = StopsIn (clear_steps (behind after) (files_now before)) before now

abbrev pub ClearsAbove : {T : Type 0} → Option ℕ → Option Told → Option Told → Result T WriteFault → Type 0
ClearsAbove after before now result = MatchResult result (λ _. Between before now (ClearsAll after)) (λ _. Between before now (ClearsSome after))

-- The first of these acts, where there is one, is a Settle.
abbrev pub BeginBySettle : List Act → Type 0
BeginBySettle [] = Unit {0}
BeginBySettle (act ∷ acts) = act.step ≡ SettleAll

-- The first act of a run that had made none is a Settle.
abbrev pub SettlesFirst : History → History → Type 0
SettlesFirst before now = before.acts ≡ [] → BeginBySettle now.acts

-- ---- `put` and `delete`

-- Each stop at each moment shows what is committed.
abbrev pub Keeps : Session → History → History → Type 0
Keeps session before now = (committed : Option (List LogEntry)) (pending : List LogEntry) → SessionFits session committed pending before
    → Moments (EachStop (λ image. Shows image committed)) before now

-- The session fits with one more entry put.
abbrev pub Puts : Session → Session → LogEntry → History → History → Type 0
Puts old new entry before now = (committed : Option (List LogEntry)) (pending : List LogEntry) → SessionFits old committed pending before
    → SessionFits new committed (pending ++ entry ∷ []) now

-- The blob lies at a place.
abbrev pub Lies : Session → Place → List ℕ → History → History → Type 0
Lies session place blob before now = (committed : Option (List LogEntry)) (pending : List LogEntry) → SessionFits session committed pending before
    → IsBlobAt (segment_bytes (files_now now) place.segment) place.at place.size blob

-- ---- `commit`

-- what is committed once a session is
abbrev pub with_commit : Option (List LogEntry) → List LogEntry → Option (List LogEntry)
with_commit committed pending = Some ((unwrap_or committed [] ++ pending) ++ CommitEntry ∷ [])

-- Each stop at each moment shows what was committed before, or that and what was put.
abbrev pub KeepsOrCommits : Session → History → History → Type 0
KeepsOrCommits session before now = (committed : Option (List LogEntry)) (pending : List LogEntry) → SessionFits session committed pending before
    → Moments (EachStop (λ image. Shows image committed ⊎ Shows image (with_commit committed pending))) before now

-- All that was put is committed.
abbrev pub Commits : Session → Session → History → History → Type 0
Commits old new before now = (committed : Option (List LogEntry)) (pending : List LogEntry) → SessionFits old committed pending before
    → SessionFits new (with_commit committed pending) [] now
