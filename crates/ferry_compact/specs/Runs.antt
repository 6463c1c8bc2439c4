-- What is known of a run that compacts, from its begin on, for the contracts of the bodies that it is made of.
use Rattle.std.specs.Prelude.{◌≡◌, ℕ, suc, List, [], ◌∷◌, map, Option, Result, Ok, IfOk, IfErr, IfSome}
use Rattle.std.specs.FinMap.{empty}
use Rattle.ferry_compact.specs.Choice.{chosen_in}
use Rattle.ferry_compact.specs.Compact.{Compacts, KeepsBlocks, KeepsLive, MovesAll, NumbersStay, RemovesFront, ShowsLive, StayUpTo}
use Rattle.ferry_compact.specs.Fault.{RefusesCompact, compact_failed}
use Rattle.ferry_compact.specs.Filling.{Fills}
use Rattle.ferry_compact.specs.Moving.{moved_in}
use Rattle.ferry_compact.specs.Steps.{Did, IsWriting}
use Rattle.ferry_compact.specs.declared.fault.CompactFault.{CompactFault}
use Rattle.ferry_disk.specs.Act.{Act, History, SettleAll, did, files_now}
use Rattle.ferry_disk.specs.Device.{HasCause, Told, told_files}
use Rattle.ferry_disk.specs.Faults.{EndsAtFault}
use Rattle.ferry_disk.specs.Moments.{Between, Moments}
use Rattle.ferry_log.specs.Log.{IsLog, Located}
use Rattle.ferry_log.specs.State.{HasPlacesOf, IsStateOf, LogState}
use Rattle.ferry_segment.specs.Entry.{LogEntry}
use Rattle.ferry_stops.specs.Blobs.{Gains}
use Rattle.ferry_stops.specs.Chance.{EachStop}
use Rattle.ferry_stops.specs.Tells.{TellsNothing}
use Rattle.ferry_write.specs.Rows.{SessionRows}
use Rattle.ferry_write.specs.Script.{DoesAll, clear_steps}
use Rattle.ferry_write.specs.Session.{KeepsPlain, SettlesFirst}
use Rattle.ferry_write.specs.declared.session.Session.{Session}

-- ---- the log

-- The state is that of this log of the files that are read.
pub record OpensAs (state : LogState) (log : List Located) (history : History) : Type 0 where
  pub is : IsLog (files_now history) state.transaction log
  pub places : HasPlacesOf (files_now history) state.transaction state.opened state.extents log
  pub learnt : state.learnt ≡ empty

-- the state is that of the files that are told
abbrev pub IsOpened : LogState → Option Told → Type 0
IsOpened state before = IfSome before (λ t. IsStateOf (told_files t) state)

-- ---- a run so far

-- Wherever a run ended that compacts, over a log that it found.
pub record Run (transaction : ℕ) (chosen : List ℕ) (log : List Located) (before now : History) : Type 0 where
  pub live : before.acts ≡ [] → Moments (EachStop (ShowsLive log)) before now
  pub gains : before.acts ≡ [] → Moments (Gains before (λ _. ⊥)) before now
  pub first : SettlesFirst before now
  pub removes : RemovesFront transaction chosen before now
  pub plain : KeepsPlain before now
  pub untold : TellsNothing before now

-- Where it is done so far: the segments up to the last commit are as they were, and the first act was a Settle.
pub record SoFar (transaction : ℕ) (before now : History) : Type 0 where
  pub stays : StayUpTo transaction before now
  pub settles : before.acts ≡ [] → (rest : List Act) × (now.acts ≡ did SettleAll ∷ rest)

-- A session of this limit stands behind the log, with these entries put since.
pub record Stands (limit : ℕ) (state : LogState) (log : List Located) (pending : List LogEntry) (session : Session) (before now : History) : Type 0 where
  pub so : SoFar state.transaction before now
  pub writing : IsWriting state.transaction (map (λ e. e.entry) log) pending session now
  pub rows : before.acts ≡ [] → SessionRows session now
  pub fills : Fills limit state.transaction session now

-- ---- what is known where a run ended, and where a fault ended it

abbrev pub EachRun : LogState → List ℕ → History → History → Type 0
EachRun state chosen before now = (log : List Located) → OpensAs state log before → Run state.transaction chosen log before now

abbrev pub RefusesRun : LogState → CompactFault → History → History → Type 0
RefusesRun state fault before now = (log : List Located) → OpensAs state log before → RefusesCompact (files_now now) fault

-- What is known of a run from its begin on.
abbrev pub Goes : LogState → List ℕ → (History → History → Type 0) → Option Told → Option Told → ℕ → ℕ → Result (Unit {0}) CompactFault → Type 0
Goes state chosen End begin now first after result = Did (EachRun state chosen) End (RefusesRun state) begin now first after result

-- ---- where a run stands

-- A session was begun.
abbrev pub Begun : ℕ → LogState → Session → History → History → Type 0
Begun limit state session before now = (log : List Located) → OpensAs state log before
    → Stands limit state log [] session before now × DoesAll (clear_steps (suc state.transaction) (files_now before)) before now

-- All that is to be moved was put again.
abbrev pub Written : ℕ → LogState → List ℕ → Session → History → History → Type 0
Written limit state chosen session before now = (log : List Located) → OpensAs state log before
    → Stands limit state log (moved_in log chosen) session before now

-- All was moved, and the chosen segments are removed.
abbrev pub MovedAll : ℕ → LogState → List ℕ → History → History → Type 0
MovedAll limit state chosen before now = (log : List Located) → OpensAs state log before → MovesAll limit log state.transaction chosen before now

-- A body takes a run that stood so on to where it stands so.
abbrev pub GoesOn : LogState → List ℕ → (History → History → Type 0) → (History → History → Type 0) → Option Told → Option Told → ℕ → ℕ
    → Result (Unit {0}) CompactFault → Type 0
GoesOn state chosen From To before now count after result = (begin : Option Told) (first : ℕ)
    → Goes state chosen From begin before first count (Ok tt) → Goes state chosen To begin now first after result

-- The chosen segments of a log whose session was begun are moved and removed; those of a log of which all was put again are committed and removed.
abbrev pub MovesChosen : LogState → List ℕ → Session → Option Told → Option Told → ℕ → ℕ → Result (Unit {0}) CompactFault → Type 0
MovesChosen state chosen session before now count after result = (limit threshold : ℕ) → chosen ≡ chosen_in threshold state.extents
    → GoesOn state (chosen_in threshold state.extents) (Begun limit state session) (MovedAll limit state (chosen_in threshold state.extents)) before now
    count after result

abbrev pub CommitsChosen : List ℕ → Session → Option Told → Option Told → ℕ → ℕ → Result (Unit {0}) CompactFault → Type 0
CommitsChosen chosen session before now count after result = (limit : ℕ) (state : LogState) (threshold : ℕ) → chosen ≡ chosen_in threshold state.extents
    → GoesOn state (chosen_in threshold state.extents) (Written limit state (chosen_in threshold state.extents) session)
    (MovedAll limit state (chosen_in threshold state.extents)) before now count after result

-- ---- its end

-- what `compact` promises
abbrev pub Clauses : ℕ → LogState → ℕ → Option Told → Option Told → ℕ → ℕ → Result ℕ CompactFault → Type 0
Clauses limit state threshold before now count after result = record {
  compacted : IfOk result (λ removed. Between before now (Compacts limit state threshold removed));
  live : Between before now (KeepsLive state.transaction);
  kept : Between before now KeepsBlocks;
  numbers : Between before now NumbersStay;
  first : Between before now SettlesFirst;
  removes : Between before now (RemovesFront state.transaction (chosen_in threshold state.extents));
  plain : Between before now KeepsPlain;
  untold : Between before now TellsNothing;
  refused : IfErr result (λ fault. IfSome now (λ t. RefusesCompact (told_files t) fault));
  cause : HasCause compact_failed count after result;
  ends : EndsAtFault compact_failed before now result;
}

-- A body ends a run that began with a session so that it keeps what `compact` promises.
abbrev pub EndsRun : LogState → ℕ → Session → Option Told → Option Told → ℕ → ℕ → Result ℕ CompactFault → Type 0
EndsRun state threshold session before now count after result = (limit : ℕ) (begin : Option Told) (first : ℕ) → IsOpened state begin
    → Goes state (chosen_in threshold state.extents) (Begun limit state session) begin before first count (Ok tt)
    → Clauses limit state threshold begin now first after result
