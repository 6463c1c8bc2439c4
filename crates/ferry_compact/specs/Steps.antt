-- What the bodies that put entries again leave, for their contracts.
use Rattle.std.specs.Prelude.{◌≡◌, ℕ, ◌+◌, ◌≤◌, Bool, false, List, [], ◌∷◌, ◌++◌, map, Option, Some, None, Result, IfOk, IfErr}
use Rattle.std.specs.List.{AllByRecursion, filter}
use Rattle.std.specs.List.Sorted.{IsStrictlyIncreasing}
use Rattle.ferry_compact.specs.Compact.{StayUpTo}
use Rattle.ferry_compact.specs.Fault.{RefusesCompact, compact_failed}
use Rattle.ferry_compact.specs.Filling.{Fills}
use Rattle.ferry_compact.specs.Moving.{is_among, lies_at}
use Rattle.ferry_compact.specs.Reading.{Covers, HasEntry, HasSegment}
use Rattle.ferry_compact.specs.Stays.{Notes, is_below, noted_at}
use Rattle.ferry_compact.specs.declared.fault.CompactFault.{CompactFault}
use Rattle.ferry_disk.specs.Act.{History, files_now}
use Rattle.ferry_disk.specs.Device.{Told, HasCause}
use Rattle.ferry_disk.specs.Faults.{EndsAtFault}
use Rattle.ferry_disk.specs.Moments.{Between, Moments}
use Rattle.ferry_log.specs.Log.{Located, located}
use Rattle.ferry_log.specs.State.{LogState, place_in}
use Rattle.ferry_log.specs.declared.place.Extent.{Extent}
use Rattle.ferry_segment.specs.Entry.{LogEntry, PutEntry, DeleteEntry, CommitEntry}
use Rattle.ferry_segment.specs.declared.head.Head.{Head}
use Rattle.ferry_stops.specs.Blobs.{Gains}
use Rattle.ferry_stops.specs.Chance.{EachStop}
use Rattle.ferry_stops.specs.Entries.{Shows}
use Rattle.ferry_stops.specs.Tells.{TellsNothing}
use Rattle.ferry_write.specs.Rows.{SessionRows}
use Rattle.ferry_write.specs.Script.{AllDone}
use Rattle.ferry_write.specs.Session.{KeepsPlain, SessionFits}
use Rattle.ferry_write.specs.declared.session.Session.{Session}

-- ---- a body of several calls

-- This holds of what it did, wherever it ended; and that at its end where it is `Ok`, or else of its fault. No call of the device follows one that
-- failed, and a failed device is one that counted a fault.
pub record Did (Each End : History → History → Type 0) (Refuses : CompactFault → History → History → Type 0) (before now : Option Told)
    (count after : ℕ) (result : Result (Unit {0}) CompactFault) : Type 0 where
  pub each : Between before now Each
  pub end : IfOk result (λ _. Between before now (λ h g. AllDone h g × End h g))
  pub refuses : IfErr result (λ fault. Between before now (Refuses fault))
  pub ends : EndsAtFault compact_failed before now result
  pub cause : HasCause compact_failed count after result

-- ---- what stands while entries are put again

-- A session behind the last commit of a log of these entries fits, with these put since. Where it writes no segment, its last one is that of the commit.
pub record IsWriting (transaction : ℕ) (entries pending : List LogEntry) (session : Session) (history : History) : Type 0 where
  pub fits : SessionFits session (Some entries) pending history
  pub after_is : session.after ≡ Some transaction
  pub ends : session.size ≡ None → session.last ≡ session.after

-- the blob of a PUT among these entries
abbrev pub IsPutAmong : List LogEntry → List ℕ → Type 0
IsPutAmong entries blob = (key : List ℕ) × (front : List LogEntry) × (rest : List LogEntry) × (entries ≡ front ++ PutEntry key blob ∷ rest)

-- Wherever it ended: each stop shows what is committed, the history has the blobs from before and those of these entries, the segments up to the last
-- commit and the files that are no segments are as they were, and no line was told.
pub record Went (transaction : ℕ) (session : Session) (entries : List LogEntry) (before now : History) : Type 0 where
  pub shows : (committed pending : List LogEntry) → IsWriting transaction committed pending session before
      → Moments (EachStop (λ image. Shows image (Some committed))) before now
  pub gains : (committed pending : List LogEntry) → IsWriting transaction committed pending session before → SessionRows session before
      → Moments (Gains before (IsPutAmong entries)) before now
  pub stays : (committed pending : List LogEntry) → IsWriting transaction committed pending session before → StayUpTo transaction before now
  pub plain : KeepsPlain before now
  pub untold : TellsNothing before now

-- These entries were put.
pub record Moved (transaction : ℕ) (old new : Session) (entries : List LogEntry) (before now : History) : Type 0 where
  pub writing : (committed pending : List LogEntry) → IsWriting transaction committed pending old before
      → IsWriting transaction committed (pending ++ entries) new now
  pub rows : (committed pending : List LogEntry) → IsWriting transaction committed pending old before → SessionRows old before → SessionRows new now
  pub fills : (limit : ℕ) (committed pending : List LogEntry) → IsWriting transaction committed pending old before → Fills limit transaction old before
      → Fills limit transaction new now

-- what a fault says of the files as they are read behind it
abbrev pub RefusesMove : ℕ → Session → CompactFault → History → History → Type 0
RefusesMove transaction session fault before now = (committed pending : List LogEntry) → IsWriting transaction committed pending session before
    → RefusesCompact (files_now now) fault

-- ---- which entries are put again

abbrev pub takes_entry : LogState → Notes → ℕ → ℕ → LogEntry → Bool
takes_entry state notes segment at (PutEntry key blob) = lies_at (place_in state key) segment (at + 41)
takes_entry state notes segment at (DeleteEntry key) = is_below (noted_at key notes) segment
takes_entry state notes segment at CommitEntry = false

abbrev pub taken_from : LogState → Notes → List Located → List LogEntry
taken_from state notes log = map (λ e. e.entry) (filter (λ e. takes_entry state notes e.segment e.at e.entry) log)

-- ---- an entry that is put

abbrev pub EachPut : LogEntry → Session → History → History → Type 0
EachPut entry session before now = (transaction : ℕ) → Went transaction session (entry ∷ []) before now

abbrev pub PutsOne : LogEntry → Session → Session → History → History → Type 0
PutsOne entry session session_now before now = (transaction : ℕ) → Moved transaction session session_now (entry ∷ []) before now

abbrev pub RefusesPut : Session → CompactFault → History → History → Type 0
RefusesPut session fault before now = (transaction : ℕ) → RefusesMove transaction session fault before now

-- ---- one entry

abbrev pub EachOfEntry : ℕ → ℕ → Head → Session → History → History → Type 0
EachOfEntry segment at head session before now = (transaction : ℕ) (entry : LogEntry) → HasEntry (files_now before) segment at head entry
    → Went transaction session (entry ∷ []) before now

abbrev pub PutsEntry : ℕ → ℕ → Head → Session → Session → History → History → Type 0
PutsEntry segment at head session session_now before now = (transaction : ℕ) (entry : LogEntry) → HasEntry (files_now before) segment at head entry
    → Moved transaction session session_now (entry ∷ []) before now

abbrev pub MovesEntry : LogState → Notes → ℕ → ℕ → Head → Session → Session → History → History → Type 0
MovesEntry state notes segment at head session session_now before now = (transaction : ℕ) (entry : LogEntry)
    → HasEntry (files_now before) segment at head entry
    → Moved transaction session session_now (taken_from state notes (record { segment = segment; at = at; entry = entry } ∷ [])) before now

abbrev pub RefusesEntry : ℕ → ℕ → Head → Session → CompactFault → History → History → Type 0
RefusesEntry segment at head session fault before now = (transaction : ℕ) (entry : LogEntry) → HasEntry (files_now before) segment at head entry
    → RefusesMove transaction session fault before now

-- ---- the entries of a segment

-- A session behind the last commit of a log fits, and a segment up to that commit splits into these entries.
pub record OverSegment (transaction : ℕ) (extent : Extent) (session : Session) (entries : List LogEntry) (history : History) : Type 0 where
  pub committed : List LogEntry
  pub pending : List LogEntry
  pub writing : IsWriting transaction committed pending session history
  pub low : extent.segment ≤ transaction
  pub has : HasSegment (files_now history) extent entries

abbrev pub EachOfSegment : Extent → Session → History → History → Type 0
EachOfSegment extent session before now = (transaction : ℕ) (entries : List LogEntry) → OverSegment transaction extent session entries before
    → Went transaction session entries before now

abbrev pub MovesSegment : LogState → Notes → Extent → Session → Session → History → History → Type 0
MovesSegment state notes extent session session_now before now = (transaction : ℕ) (entries : List LogEntry)
    → OverSegment transaction extent session entries before
    → Moved transaction session session_now (taken_from state notes (located extent.segment 8 entries)) before now

abbrev pub MovesWhere : LogState → Notes → Extent → List ℕ → Session → Session → History → History → Type 0
MovesWhere state notes extent chosen session session_now before now = (transaction : ℕ) (entries : List LogEntry)
    → OverSegment transaction extent session entries before → IsStrictlyIncreasing chosen
    → Moved transaction session session_now
    (taken_from state notes (filter (λ e. is_among chosen e.segment) (located extent.segment 8 entries))) before now

abbrev pub RefusesSegment : Extent → Session → CompactFault → History → History → Type 0
RefusesSegment extent session fault before now = (transaction : ℕ) (entries : List LogEntry) → OverSegment transaction extent session entries before
    → RefusesMove transaction session fault before now

-- ---- the entries of a log

-- A session behind the last commit of a log fits. These are the segments of the log, none of them is above that commit, and the numbers of the chosen
-- ones increase.
pub record OverLog (transaction : ℕ) (extents : List Extent) (chosen : List ℕ) (session : Session) (log : List Located) (history : History) : Type 0 where
  pub committed : List LogEntry
  pub pending : List LogEntry
  pub writing : IsWriting transaction committed pending session history
  pub covers : Covers (files_now history) extents log
  pub low : AllByRecursion (λ e. e.segment ≤ transaction) extents
  pub increasing : IsStrictlyIncreasing chosen

abbrev pub EachOfLog : List Extent → List ℕ → Session → History → History → Type 0
EachOfLog extents chosen session before now = (transaction : ℕ) (log : List Located) → OverLog transaction extents chosen session log before
    → Went transaction session (map (λ e. e.entry) log) before now

abbrev pub MovesLog : LogState → Notes → List Extent → List ℕ → Session → Session → History → History → Type 0
MovesLog state notes extents chosen session session_now before now = (transaction : ℕ) (log : List Located)
    → OverLog transaction extents chosen session log before
    → Moved transaction session session_now (taken_from state notes (filter (λ e. is_among chosen e.segment) log)) before now

abbrev pub RefusesLog : List Extent → List ℕ → Session → CompactFault → History → History → Type 0
RefusesLog extents chosen session fault before now = (transaction : ℕ) (log : List Located)
    → OverLog transaction extents chosen session log before → RefusesMove transaction session fault before now
