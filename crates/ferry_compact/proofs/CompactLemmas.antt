-- Lemmas on specs/Compact.antt: the calls of a run that compacts, one after another.
use Rattle.std.proofs.Common.{◌≡◌, inl, ℕ, suc, true, false, List, [], ◌∷◌, ◌++◌, map, filter}
use Rattle.std.proofs.Common.{Option, Some, None, Result, Ok, Err, refl, sym, ◌∙◌, ap, subst}
use Rattle.std.proofs.lemmas.List.{append-nil}
use Rattle.std.specs.List.Sorted.{IsStrictlyIncreasing}
use Rattle.ferry_compact.proofs.KeptLemmas.{shows_begun}
use Rattle.ferry_compact.proofs.FillingLemmas.{fills_begun}
use Rattle.ferry_compact.proofs.LiesLemmas.{entries_in}
use Rattle.ferry_compact.proofs.LastLemmas.{blob_after}
use Rattle.ferry_compact.proofs.MovingLemmas.{outside_refuses}
use Rattle.ferry_compact.proofs.NoteLemmas.{taken_moved}
use Rattle.ferry_compact.proofs.OpensLemmas.{chosen_increase, covers_stay, opens_covers, opens_low}
use Rattle.ferry_compact.proofs.OpensLemmas.{opens_ordered, opens_places, opens_shows}
use Rattle.ferry_compact.proofs.RemovingLemmas.{shows_live}
use Rattle.ferry_compact.proofs.RunLemmas.{clear_stays, log_blob, none_removed, run_then, settled_more}
use Rattle.ferry_compact.proofs.StepLemmas.{Reads, acts_steps, did_nothing, did_stopped, did_then, did_with, fail_where, moments_acts, moments_map, rose_where}
use Rattle.ferry_compact.proofs.WentLemmas.{stay_then, write_is}
use Rattle.ferry_compact.specs.Choice.{chosen_in}
use Rattle.ferry_compact.specs.Compact.{ShowsLive, StayUpTo}
use Rattle.ferry_compact.specs.Fault.{RefusesCompact, compact_failed, write_fault}
use Rattle.ferry_compact.specs.Moving.{is_among, moved_in}
use Rattle.ferry_compact.specs.Reading.{Covers, IsOutside}
use Rattle.ferry_compact.specs.Runs.{Begun, EachRun, OpensAs, RefusesRun, SoFar, Stands, Written}
use Rattle.ferry_compact.specs.Stays.{HasNotes, Notes}
use Rattle.ferry_compact.specs.Steps.{Did, EachOfLog, IsPutAmong, IsWriting, MovesLog, OverLog, RefusesLog, taken_from}
use Rattle.ferry_compact.specs.declared.fault.CompactFault.{CompactFault}
use Rattle.ferry_disk.proofs.MomentLemmas.{between_both, between_map}
use Rattle.ferry_disk.specs.Act.{Act, History, RemoveOf, SettleAll, Step, did, files_now, with_act}
use Rattle.ferry_disk.specs.Device.{RoseWhere, Told}
use Rattle.ferry_disk.specs.Faults.{FailedWhere, failed_told}
use Rattle.ferry_disk.specs.Files.{Files}
use Rattle.ferry_disk.specs.Moments.{Between}
use Rattle.ferry_log.specs.Log.{Located, numbers_up_to}
use Rattle.ferry_log.specs.State.{LogState}
use Rattle.ferry_log.specs.declared.place.Extent.{Extent}
use Rattle.ferry_segment.specs.Entry.{LogEntry}
use Rattle.ferry_stops.specs.Chance.{EachStop}
use Rattle.ferry_stops.specs.Entries.{Shows}
use Rattle.ferry_stops.specs.Tells.{TellsNothing}
use Rattle.ferry_write.specs.Fault.{write_failed}
use Rattle.ferry_write.specs.Rows.{BeginBrings, BeginsRows}
use Rattle.ferry_write.specs.Script.{AllDone, DoesAll, StopsIn, clear_steps}
use Rattle.ferry_write.specs.Session.{BeginKeeps, Begins, ClearsAll, ClearsSome, KeepsPlain, SessionFits}
use Rattle.ferry_write.specs.Session.{SettlesFirst}
use Rattle.ferry_write.specs.declared.fault.WriteFault.{WriteFault}
use Rattle.ferry_write.specs.declared.fault.WriteFault.TheVariants as Writes
use Rattle.ferry_write.specs.declared.session.Session.{Session}

-- ---- what is known of a run, wherever it ended

stands_as : (limit : ℕ) (state : LogState) (log : List Located) (pending : List LogEntry) (session : Session) (h g i : History) → i ≡ g
    → Stands limit state log pending session h g → Stands limit state log pending session h i
stands_as limit state log pending session h g i e s = subst (Stands limit state log pending session h) (sym e) s

each_as : (state : LogState) (chosen : List ℕ) (h g i : History) → i ≡ g → EachRun state chosen h g → EachRun state chosen h i
each_as state chosen h g i e each = subst (EachRun state chosen h) (sym e) each

-- the blobs of the log were there
pub known_blobs : (state : LogState) (log : List Located) (h : History) → OpensAs state log h → h.acts ≡ [] → (blob : List ℕ)
    → IsPutAmong (entries_in log) blob → Rattle.ferry_stops.specs.Blobs.BlobOf h blob
known_blobs state log h opens e blob put = log_blob h (numbers_up_to (files_now h) state.transaction) log blob e opens.is.joined put

-- ---- the session begins

-- what the call leaves, wherever it ended
pub record BeginWent (transaction : ℕ) (before now : History) : Type 0 where
  pub keeps : BeginKeeps (Some transaction) before now
  pub clears : ClearsSome (Some transaction) before now
  pub first : SettlesFirst before now
  pub brings : BeginBrings before now
  pub plain : KeepsPlain before now
  pub untold : TellsNothing before now

begin_went : (t : ℕ) (a b : Option Told) → Between a b (BeginKeeps (Some t)) → Between a b (ClearsSome (Some t)) → Between a b SettlesFirst
    → Between a b BeginBrings → Between a b KeepsPlain → Between a b TellsNothing → Between a b (BeginWent t)
begin_went t a b keeps clears first brings plain untold =
    between_map a b
    (λ h g. (BeginKeeps (Some t) h g × (ClearsSome (Some t) h g × SettlesFirst h g)) × (BeginBrings h g × (KeepsPlain h g × TellsNothing h g))) (BeginWent t)
    (λ h g all. record { keeps = all.0.0; clears = all.0.1.0; first = all.0.1.1; brings = all.1.0; plain = all.1.1.0; untold = all.1.1.1 })
    (between_both a b (λ h g. BeginKeeps (Some t) h g × (ClearsSome (Some t) h g × SettlesFirst h g))
    (λ h g. BeginBrings h g × (KeepsPlain h g × TellsNothing h g))
    (between_both a b (BeginKeeps (Some t)) (λ h g. ClearsSome (Some t) h g × SettlesFirst h g) keeps
    (between_both a b (ClearsSome (Some t)) SettlesFirst clears first))
    (between_both a b BeginBrings (λ h g. KeepsPlain h g × TellsNothing h g) brings (between_both a b KeepsPlain TellsNothing plain untold)))

-- files that show the log's entries show what is live
pub entries_live : (log : List Located) (image : Files) → Shows image (Some (entries_in log)) → ShowsLive log image
entries_live log image shown = shows_live log image shown.0 (entries_in log) shown.1 (λ key. sym (blob_after key log))

begin_run : (state : LogState) (chosen : List ℕ) (h g : History) → BeginWent state.transaction h g → EachRun state chosen h g
begin_run state chosen h g went log opens =
    let t = state.transaction in
    let shown = opens_shows state log h opens in
    record {
      live = λ e.
          moments_map (EachStop (λ image. Shows image (Some (entries_in log)))) (EachStop (ShowsLive log)) h g
          (λ k shows image left. entries_live log image (shows image left))
          (went.keeps (Some (entries_in log)) shown (shows_begun (suc t) (Some (entries_in log)) h e shown));
      gains = went.brings;
      first = went.first;
      removes = none_removed t chosen h g (clear_stays t (files_now h) h g went.clears);
      plain = went.plain;
      untold = went.untold;
    }

pub clears_stop : (s : List Step) (h g : History) → DoesAll s h g → StopsIn s h g
clears_stop s h g e = record { front = s; rest = []; parts = sym (append-nil s); now_is = inl e }

-- the first act of a begin is a Settle
clears_settle : (s : List Step) (h g : History) → DoesAll (SettleAll ∷ s) h g → h.acts ≡ [] → (rest : List Act) × (g.acts ≡ did SettleAll ∷ rest)
clears_settle s h g does e =
    let more = acts_steps (with_act SettleAll true h) s in (
      more.0,
      ap (λ (k : History). k.acts) does ∙ (more.1 ∙ ap (λ (acts : List Act). (acts ++ did SettleAll ∷ []) ++ more.0) e),
    )

fresh_writing : (t limit : ℕ) (entries : List LogEntry) (session : Session) (g : History)
    → session ≡ record { limit = limit; after = Some t; last = Some t; size = None; spent = false } → SessionFits session (Some entries) [] g
    → IsWriting t entries [] session g
fresh_writing t limit entries session g is fits = record {
  fits = fits;
  after_is = ap (λ (s : Session). s.after) is;
  ends = λ none. ap (λ (s : Session). s.last) is ∙ sym (ap (λ (s : Session). s.after) is);
}

begin_stands : (state : LogState) (limit : ℕ) (session : Session) (h g : History)
    → session ≡ record { limit = limit; after = Some state.transaction; last = Some state.transaction; size = None; spent = false }
    → Begins (Some state.transaction) session h g → ClearsAll (Some state.transaction) h g → BeginsRows session h g → Begun limit state session h g
begin_stands state limit session h g is begins clears rows log opens =
    let t = state.transaction in (
      record {
        so = record {
          stays = clear_stays t (files_now h) h g (clears_stop (clear_steps (suc t) (files_now h)) h g clears);
          settles = clears_settle (map RemoveOf (Rattle.ferry_write.specs.Script.numbers_from (suc t) (files_now h))) h g clears;
        };
        writing = fresh_writing t limit (entries_in log) session g is (begins (Some (entries_in log)) (opens_shows state log h opens));
        rows = rows;
        fills = fills_begun limit t session g is;
      },
      clears,
    )

pub begin_did : (state : LogState) (chosen : List ℕ) (limit : ℕ) (session : Session) (a b : Option Told) (n m : ℕ)
    → session ≡ record { limit = limit; after = Some state.transaction; last = Some state.transaction; size = None; spent = false }
    → Between a b (BeginKeeps (Some state.transaction)) → Between a b (ClearsAll (Some state.transaction)) → Between a b SettlesFirst
    → Between a b BeginBrings → Between a b KeepsPlain → Between a b TellsNothing → Between a b (Begins (Some state.transaction) session)
    → Between a b (BeginsRows session) → m ≡ n → failed_told b ≡ failed_told a
    → Did (EachRun state chosen) (Begun limit state session) (RefusesRun state) a b n m (Ok tt)
begin_did state chosen limit session a b n m is keeps clears first brings plain untold begins rows caused ends =
    let t = state.transaction in
    record {
      each = between_map a b (BeginWent t) (EachRun state chosen) (begin_run state chosen)
          (begin_went t a b keeps (between_map a b (ClearsAll (Some t)) (ClearsSome (Some t))
          (λ h g. clears_stop (clear_steps (suc t) (files_now h)) h g) clears) first brings plain untold);
      end = between_map a b (λ h g. ClearsAll (Some t) h g × (Begins (Some t) session h g × BeginsRows session h g))
          (λ h g. AllDone h g × Begun limit state session h g)
          (λ h g all. ((clear_steps (suc t) (files_now h), all.0), begin_stands state limit session h g is all.1.0 all.0 all.1.1))
          (between_both a b (ClearsAll (Some t)) (λ h g. Begins (Some t) session h g × BeginsRows session h g) clears
          (between_both a b (Begins (Some t) session) (BeginsRows session) begins rows));
      refuses = tt;
      ends = ends;
      cause = caused;
    }

begin_refuses : (fault : WriteFault) (files : Files) → (fault ≡ Writes.Numbers → ⊥) → RefusesCompact files (write_fault fault)
begin_refuses Writes.Device files off = tt
begin_refuses Writes.Memory files off = tt
begin_refuses Writes.Numbers files off = absurd (off refl)

pub begin_refused : (state : LogState) (chosen : List ℕ) (Q : History → History → Type 0) (fault : WriteFault) (a b : Option Told) (n m : ℕ)
    → Between a b (BeginKeeps (Some state.transaction)) → Between a b (ClearsSome (Some state.transaction)) → Between a b SettlesFirst
    → Between a b BeginBrings → Between a b KeepsPlain → Between a b TellsNothing → (fault ≡ Writes.Numbers → ⊥)
    → RoseWhere (write_failed fault) n m → FailedWhere (write_failed fault) a b
    → Did (EachRun state chosen) Q (RefusesRun state) a b n m (Err (write_fault fault))
begin_refused state chosen Q fault a b n m keeps clears first brings plain untold off caused ends =
    let t = state.transaction in
    let went = begin_went t a b keeps clears first brings plain untold in
    record {
      each = between_map a b (BeginWent t) (EachRun state chosen) (begin_run state chosen) went;
      end = tt;
      refuses = between_map a b (BeginWent t) (RefusesRun state (write_fault fault)) (λ h g w log opens. begin_refuses fault (files_now g) off) went;
      ends = fail_where (compact_failed (write_fault fault)) (write_failed fault) a b (write_is fault) ends;
      cause = rose_where (compact_failed (write_fault fault)) (write_failed fault) n m (write_is fault) caused;
    }

-- ---- calls that read

-- a fault for which no call was made
pub run_stopped : (state : LogState) (chosen : List ℕ) (P Q : History → History → Type 0) (fault : CompactFault) (a b : Option Told) (n m : ℕ)
    → compact_failed fault ≡ false → IsOutside fault → Did (EachRun state chosen) P (RefusesRun state) a b n m (Ok tt)
    → Did (EachRun state chosen) Q (RefusesRun state) a b n m (Err fault)
run_stopped state chosen P Q fault a b n m still out p =
    did_stopped (EachRun state chosen) P (RefusesRun state) Reads Reads (λ f. Reads) (EachRun state chosen) Q (RefusesRun state) a b b n m m fault
    (λ h g i each done known e. each_as state chosen h g i e each)
    (λ h g i each known e log opens. outside_refuses fault (files_now i) out)
    p (did_nothing Reads Reads (λ f. Reads) b m fault still (λ h. refl) (λ h. refl))

-- what both passes note
abbrev pub NotesAll : LogState → List Extent → List ℕ → Notes → Files → Type 0
NotesAll state extents chosen notes files = (entries : List Located) → Covers files extents entries → IsStrictlyIncreasing chosen
    → HasNotes state chosen entries notes

abbrev pub Noted : ℕ → LogState → List ℕ → Notes → Session → History → History → Type 0
Noted limit state chosen notes session before now = (log : List Located) → OpensAs state log before
    → Stands limit state log [] session before now × HasNotes state chosen log notes

-- the segments of the log, as they are read later
covers_later : (state : LogState) (log : List Located) (h g : History) → OpensAs state log h → StayUpTo state.transaction h g
    → Covers (files_now g) state.extents log
covers_later state log h g opens stays =
    covers_stay h g state.transaction state.extents log stays (opens_low state log h opens) (opens_covers state log h opens)

pub notes_did : (limit : ℕ) (state : LogState) (threshold : ℕ) (notes : Notes) (session : Session) (a b c : Option Told) (n m k : ℕ)
    → Did (EachRun state (chosen_in threshold state.extents)) (Begun limit state session) (RefusesRun state) a b n m (Ok tt)
    → Did Reads (λ h g. (g ≡ h) × NotesAll state state.extents (chosen_in threshold state.extents) notes (files_now h))
    (λ f h g. ⊥) b c m k (Ok tt)
    → Did (EachRun state (chosen_in threshold state.extents)) (Noted limit state (chosen_in threshold state.extents) notes session) (RefusesRun state) a c n k
    (Ok tt)
notes_did limit state threshold notes session a b c n m k p r =
    let chosen = chosen_in threshold state.extents in
    did_then (EachRun state chosen) (Begun limit state session) (RefusesRun state) Reads
    (λ h g. (g ≡ h) × NotesAll state state.extents chosen notes (files_now h)) (λ f h g. ⊥)
    (EachRun state chosen) (Noted limit state chosen notes session) (RefusesRun state) a b c n m k (Ok tt)
    (λ h g i each done begun e. each_as state chosen h g i e each)
    (λ h g i each done begun known log opens.
    let stands = (begun log opens).0 in (
      stands_as limit state log [] session h g i known.0 stands,
      known.1 log (covers_later state log h g opens stands.so.stays) (chosen_increase threshold state log h opens),
    ))
    (λ fault h g i each begun refuses log opens. absurd refuses)
    p r

-- the notes can't be read
pub notes_refused : (limit : ℕ) (state : LogState) (threshold : ℕ) (session : Session) (Q : History → History → Type 0) (fault : CompactFault)
    (a b c : Option Told)
    (n m k : ℕ) → Did (EachRun state (chosen_in threshold state.extents)) (Begun limit state session) (RefusesRun state) a b n m (Ok tt)
    → Did Reads Reads
    (λ f h g. (g ≡ h) × ((entries : List Located) → Covers (files_now h) state.extents entries → IsStrictlyIncreasing (chosen_in threshold state.extents)
    → IsOutside f)) b c m k (Err fault)
    → Did (EachRun state (chosen_in threshold state.extents)) Q (RefusesRun state) a c n k (Err fault)
notes_refused limit state threshold session Q fault a b c n m k p r =
    let chosen = chosen_in threshold state.extents in
    did_stopped (EachRun state chosen) (Begun limit state session) (RefusesRun state) Reads Reads
    (λ f h g. (g ≡ h) × ((entries : List Located) → Covers (files_now h) state.extents entries → IsStrictlyIncreasing chosen → IsOutside f))
    (EachRun state chosen) Q (RefusesRun state) a b c n m k fault
    (λ h g i each done begun e. each_as state chosen h g i e each)
    (λ h g i each begun known log opens.
    let stands = (begun log opens).0 in
    outside_refuses fault (files_now i)
    (known.1 log (covers_later state log h g opens stands.so.stays) (chosen_increase threshold state log h opens)))
    p r

-- ---- entries are put again

over_log : (limit : ℕ) (state : LogState) (threshold : ℕ) (log : List Located) (session : Session) (h g : History) → OpensAs state log h
    → Stands limit state log [] session h g → OverLog state.transaction state.extents (chosen_in threshold state.extents) session log g
over_log limit state threshold log session h g opens stands = record {
  committed = entries_in log;
  pending = [];
  writing = stands.writing;
  covers = covers_later state log h g opens stands.so.stays;
  low = opens_low state log h opens;
  increasing = chosen_increase threshold state log h opens;
}

pub so_later : (t : ℕ) (h g i : History) (more : List Act) → SoFar t h g → StayUpTo t g i → i.acts ≡ g.acts ++ more → SoFar t h i
so_later t h g i more so stays acts = record {
  stays = stay_then t h g i so.stays stays;
  settles = λ e. settled_more g.acts i.acts more acts (so.settles e);
}

pub move_did : (limit : ℕ) (state : LogState) (threshold : ℕ) (notes : Notes) (session now : Session) (a b c : Option Told) (n m k : ℕ)
    (result : Result (Unit {0}) CompactFault)
    → Did (EachRun state (chosen_in threshold state.extents)) (Noted limit state (chosen_in threshold state.extents) notes session) (RefusesRun state) a b n
    m (Ok tt)
    → Did (EachOfLog state.extents (chosen_in threshold state.extents) session)
    (MovesLog state notes state.extents (chosen_in threshold state.extents) session now)
    (RefusesLog state.extents (chosen_in threshold state.extents) session) b c m k result
    → Did (EachRun state (chosen_in threshold state.extents)) (Written limit state (chosen_in threshold state.extents) now) (RefusesRun state) a c n k result
move_did limit state threshold notes session now a b c n m k result p q =
    did_then (EachRun state chosen) (Noted limit state chosen notes session) (RefusesRun state) (EachOfLog state.extents chosen session) MovesWith
    (RefusesLog state.extents chosen session) (EachRun state chosen) (Written limit state chosen now) (RefusesRun state) a b c n m k result each last refuses p
    (did_with (EachOfLog state.extents chosen session) (MovesLog state notes state.extents chosen session now) (RefusesLog state.extents chosen session)
    b c m k result q) where
      t : ℕ
      t = state.transaction

      chosen : List ℕ
      chosen = chosen_in threshold state.extents

      MovesWith : History → History → Type 0
      MovesWith g i = EachOfLog state.extents chosen session g i × MovesLog state notes state.extents chosen session now g i

      each : (h g i : History) → EachRun state chosen h g → AllDone h g → Noted limit state chosen notes session h g
          → EachOfLog state.extents chosen session g i
          → EachRun state chosen h i
      each h g i run done noted step log opens =
          let stands = (noted log opens).0 in
          let went = step t log (over_log limit state threshold log session h g opens stands) in
          run_then t chosen log h g i (known_blobs state log h opens) (run log opens) done stands.so (record {
            live = moments_map (EachStop (λ image. Shows image (Some (entries_in log)))) (EachStop (ShowsLive log)) g i
                (λ x shows image left. entries_live log image (shows image left)) (went.shows (entries_in log) [] stands.writing);
            gains = λ e. went.gains (entries_in log) [] stands.writing (stands.rows e);
            removes = none_removed t chosen g i (went.stays (entries_in log) [] stands.writing);
            plain = went.plain;
            untold = went.untold;
          })

      last : (h g i : History) → EachRun state chosen h g → AllDone h g → Noted limit state chosen notes session h g → MovesWith g i
          → Written limit state chosen now h i
      last h g i run done noted step log opens =
          let known = noted log opens in
          let stands = known.0 in
          let over = over_log limit state threshold log session h g opens stands in
          let went = step.0 t log over in
          let moved = step.1 t log over in
          let more = moments_acts (EachStop (λ image. Shows image (Some (entries_in log)))) g i (went.shows (entries_in log) [] stands.writing) in
          let same : taken_from state notes (filter (λ e. is_among chosen e.segment) log) ≡ moved_in log chosen =
          taken_moved state chosen log notes (opens_ordered state log h opens) known.1 (opens_places state log h opens) in
          record {
            so = so_later t h g i more.0 stands.so (went.stays (entries_in log) [] stands.writing) more.1;
            writing = subst (λ (es : List LogEntry). IsWriting t (entries_in log) es now i) same (moved.writing (entries_in log) [] stands.writing);
            rows = λ e. moved.rows (entries_in log) [] stands.writing (stands.rows e);
            fills = moved.fills limit (entries_in log) [] stands.writing stands.fills;
          }

      refuses : (fault : CompactFault) (h g i : History) → EachRun state chosen h g → Noted limit state chosen notes session h g
          → RefusesLog state.extents chosen session fault g i → RefusesRun state fault h i
      refuses fault h g i run noted no_more log opens =
          let stands = (noted log opens).0 in
          no_more t log (over_log limit state threshold log session h g opens stands) (entries_in log) [] stands.writing
