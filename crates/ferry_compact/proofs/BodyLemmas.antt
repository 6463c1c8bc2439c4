-- Lemmas on the bodies that a run is made of, over the numbers and segments that they are handed.
use Rattle.std.proofs.Common.{◌≡◌, ℕ, Bool, false, List, map, Option, Some, None, Result, Ok, Err, sym, ◌∙◌, ap, subst}
use Rattle.std.specs.List.Sorted.{IsStrictlyIncreasing}
use Rattle.ferry_compact.proofs.CommitLemmas.{IsClosed, removal_did, removal_refused}
use Rattle.ferry_compact.proofs.CompactLemmas.{NotesAll, Noted, begin_did, begin_refused, move_did, notes_did, notes_refused}
use Rattle.ferry_compact.proofs.StepLemmas.{Reads, read_err, read_ok}
use Rattle.ferry_compact.specs.Choice.{chosen_in, is_idle}
use Rattle.ferry_compact.specs.Fault.{compact_failed, write_fault}
use Rattle.ferry_compact.specs.Reading.{Covers, IsOutside}
use Rattle.ferry_compact.specs.Runs.{Begun, Goes, MovedAll, Written}
use Rattle.ferry_compact.specs.Stays.{Notes}
use Rattle.ferry_compact.specs.Steps.{Did, EachOfLog, MovesLog, RefusesLog}
use Rattle.ferry_compact.specs.declared.fault.CompactFault.{CompactFault}
use Rattle.ferry_disk.specs.Act.{History, RemoveOf}
use Rattle.ferry_disk.specs.Device.{KeepsTold, KeptWhere, RoseWhere, Told, heard}
use Rattle.ferry_disk.specs.Faults.{FailedWhere, failed_told}
use Rattle.ferry_disk.specs.Files.{Files}
use Rattle.ferry_disk.specs.Moments.{Between}
use Rattle.ferry_log.specs.Log.{Located}
use Rattle.ferry_log.specs.State.{LogState}
use Rattle.ferry_log.specs.Window.{Tells}
use Rattle.ferry_log.specs.declared.place.Extent.{Extent}
use Rattle.ferry_stops.specs.Tells.{TellsNothing}
use Rattle.ferry_write.specs.Fault.{write_failed}
use Rattle.ferry_write.specs.Rows.{BeginBrings, BeginsRows}
use Rattle.ferry_write.specs.Script.{Ran}
use Rattle.ferry_write.specs.Session.{BeginKeeps, Begins, ClearsAll, ClearsSome, KeepsPlain, SettlesFirst}
use Rattle.ferry_write.specs.declared.fault.WriteFault.{WriteFault}
use Rattle.ferry_write.specs.declared.fault.WriteFault.TheVariants as Writes
use Rattle.ferry_write.specs.declared.session.Session.{Session}

-- ---- the begin

-- the session as it is begun behind a commit
abbrev pub new_session : ℕ → ℕ → Session
new_session limit number = record { limit = limit; after = Some number; last = Some number; size = None; spent = false }

pub run_begun : (state : LogState) (chosen : List ℕ) (limit number : ℕ) (session : Session) (a b : Option Told) (n m : ℕ) → number ≡ state.transaction
    → session ≡ new_session limit number → Between a b (BeginKeeps (Some number)) → Between a b (ClearsAll (Some number)) → Between a b SettlesFirst
    → Between a b BeginBrings → Between a b KeepsPlain → Between a b TellsNothing → Between a b (Begins (Some number) session)
    → Between a b (BeginsRows session) → m ≡ n → failed_told b ≡ failed_told a → Goes state chosen (Begun limit state session) a b n m (Ok tt)
run_begun state chosen limit number session a b n m same =
    subst (λ (k : ℕ). session ≡ new_session limit k → Between a b (BeginKeeps (Some k)) → Between a b (ClearsAll (Some k)) → Between a b SettlesFirst
    → Between a b BeginBrings → Between a b KeepsPlain → Between a b TellsNothing → Between a b (Begins (Some k) session)
    → Between a b (BeginsRows session) → m ≡ n → failed_told b ≡ failed_told a → Goes state chosen (Begun limit state session) a b n m (Ok tt)) (sym same)
    (begin_did state chosen limit session a b n m)

pub run_unbegun : (state : LogState) (chosen : List ℕ) (number : ℕ) (Q : History → History → Type 0) (fault : WriteFault) (a b : Option Told) (n m : ℕ)
    → number ≡ state.transaction → Between a b (BeginKeeps (Some number)) → Between a b (ClearsSome (Some number)) → Between a b SettlesFirst
    → Between a b BeginBrings → Between a b KeepsPlain → Between a b TellsNothing → (fault ≡ Writes.Numbers → ⊥)
    → RoseWhere (write_failed fault) n m → FailedWhere (write_failed fault) a b → Goes state chosen Q a b n m (Err (write_fault fault))
run_unbegun state chosen number Q fault a b n m same =
    subst (λ (k : ℕ). Between a b (BeginKeeps (Some k)) → Between a b (ClearsSome (Some k)) → Between a b SettlesFirst
    → Between a b BeginBrings → Between a b KeepsPlain → Between a b TellsNothing → (fault ≡ Writes.Numbers → ⊥)
    → RoseWhere (write_failed fault) n m → FailedWhere (write_failed fault) a b → Goes state chosen Q a b n m (Err (write_fault fault))) (sym same)
    (begin_refused state chosen Q fault a b n m)

-- ---- the choice

pub idle_as : (transaction number : ℕ) (chosen these : List ℕ) (result answer : Bool) → number ≡ transaction → chosen ≡ these
    → result ≡ is_idle number chosen → result ≡ answer → is_idle transaction these ≡ answer
idle_as transaction number chosen these result answer e f is same =
    ap (λ (k : ℕ). is_idle k these) (sym e) ∙ (ap (is_idle number) (sym f) ∙ (sym is ∙ same))

-- ---- the removals

pub passes_removed : (limit : ℕ) (state : LogState) (threshold : ℕ) (chosen : List ℕ) → chosen ≡ chosen_in threshold state.extents
    → (begin b c : Option Told) (first m k : ℕ) → Ran {T = Unit {0}} (map RemoveOf chosen) b c m k (Ok tt)
    → Goes state (chosen_in threshold state.extents) (IsClosed limit state (chosen_in threshold state.extents)) begin b first m (Ok tt)
    → Goes state (chosen_in threshold state.extents) (MovedAll limit state (chosen_in threshold state.extents)) begin c first k (Ok tt)
passes_removed limit state threshold chosen is begin b c first m k ran goes =
    removal_did limit state threshold begin b c first m k
    (subst (λ (numbers : List ℕ). Ran {T = Unit {0}} (map RemoveOf numbers) b c m k (Ok tt)) is ran) goes

pub passes_left : (limit : ℕ) (state : LogState) (threshold : ℕ) (chosen : List ℕ) → chosen ≡ chosen_in threshold state.extents
    → (Q : History → History → Type 0)
    → (fault : WriteFault) (begin b c : Option Told) (first m k : ℕ) → (fault ≡ Writes.Numbers → ⊥)
    → Ran {T = Unit {0}} (map RemoveOf chosen) b c m k (Err fault)
    → Goes state (chosen_in threshold state.extents) (IsClosed limit state (chosen_in threshold state.extents)) begin b first m (Ok tt)
    → Goes state (chosen_in threshold state.extents) Q begin c first k (Err (write_fault fault))
passes_left limit state threshold chosen is Q fault begin b c first m k off ran goes =
    removal_refused limit state threshold Q fault begin b c first m k off
    (subst (λ (numbers : List ℕ). Ran {T = Unit {0}} (map RemoveOf numbers) b c m k (Err fault)) is ran) goes

-- ---- the passes over the segments

module _ (limit : ℕ) (state : LogState) (threshold : ℕ) (extents : List Extent) (chosen : List ℕ) (of : extents ≡ state.extents)
    (is : chosen ≡ chosen_in threshold state.extents) where
  -- what was chosen
  abbrev these : List ℕ
  these = chosen_in threshold state.extents

  under : (P : List Extent → List ℕ → Type 0) → P extents chosen → P state.extents these
  under P p = subst (λ (numbers : List ℕ). P state.extents numbers) is (subst (λ (es : List Extent). P es chosen) of p)

  pub passes_noted : {T : Type 0} (notes : Notes) (session : Session) (x : T) (begin b c : Option Told) (first m k : ℕ)
      → ((files : Files) → Tells b files → NotesAll state extents chosen notes files) → KeepsTold compact_failed b c (Ok x) → k ≡ m
      → Goes state these (Begun limit state session) begin b first m (Ok tt) → Goes state these (Noted limit state these notes session) begin c first k (Ok tt)
  passes_noted {T} notes session x begin b c first m k known same caused goes =
      notes_did limit state threshold notes session begin b c first m k goes
      (read_ok {T = T} (NotesAll state state.extents these notes) (λ f h g. ⊥) b c m k x same caused
      (λ files tells. under (λ es numbers. NotesAll state es numbers notes files) (known files tells)))

  pub passes_refused : (session : Session) (Q : History → History → Type 0) (fault : CompactFault) (begin b c : Option Told) (first m k : ℕ)
      → ((files : Files) → Tells b files → (entries : List Located) → Covers files extents entries
      → IsStrictlyIncreasing chosen → IsOutside fault) → KeptWhere (compact_failed fault) (heard b) c
      → RoseWhere (compact_failed fault) m k → Goes state these (Begun limit state session) begin b first m (Ok tt)
      → Goes state these Q begin c first k (Err fault)
  passes_refused session Q fault begin b c first m k known same caused goes =
      notes_refused limit state threshold session Q fault begin b c first m k goes
      (read_err (Unit {0}) Reads
      (λ f files. (entries : List Located) → Covers files state.extents entries → IsStrictlyIncreasing these → IsOutside f)
      b c m k fault same caused
      (λ files tells. under (λ es numbers. (entries : List Located) → Covers files es entries → IsStrictlyIncreasing numbers → IsOutside fault)
      (known files tells)))

  pub passes_moved : (notes : Notes) (session now : Session) (result : Result (Unit {0}) CompactFault) (begin b c : Option Told) (first m k : ℕ)
      → Did (EachOfLog extents chosen session) (MovesLog state notes extents chosen session now) (RefusesLog extents chosen session) b c m k result
      → Goes state these (Noted limit state these notes session) begin b first m (Ok tt)
      → Goes state these (Written limit state these now) begin c first k result
  passes_moved notes session now result begin b c first m k did goes =
      move_did limit state threshold notes session now begin b c first m k result goes
      (under (λ es numbers. Did (EachOfLog es numbers session) (MovesLog state notes es numbers session now) (RefusesLog es numbers session) b c m k result)
      did)
