-- Lemmas on specs/Rows.antt and specs/Session.antt: the acts of a session that begins, and that they bring no blob.
use Rattle.std.proofs.Common.{◌≡◌, ◌⊎◌, inl, inr, ℕ, nat_lt, not, cond, Bool, true, false, if◌then◌else◌, List, [], ◌∷◌, ◌++◌, map}
use Rattle.std.proofs.Common.{Option, Some, None, unwrap_or, Result, Ok, Err, refl, sym, ◌∙◌, ap, subst}
use Rattle.std.specs.List.{filter}
use Rattle.std.proofs.lemmas.Bool.{cases_lt}
use Rattle.ferry_disk.specs.Act.{Step, RemoveOf, SettleAll, Act, undone, History, files_now, with_act}
use Rattle.ferry_disk.specs.Device.{Told}
use Rattle.ferry_disk.specs.Files.{Files, segment_numbers}
use Rattle.ferry_disk.specs.Image.{fate_of}
use Rattle.ferry_disk.specs.Moments.{Between, with_steps, EachMoment}
use Rattle.ferry_disk.proofs.MomentLemmas.{between_map, did_all, steps_acts}
use Rattle.ferry_stops.specs.Blobs.{HasBlob, IsBlob, row_in, AllTraced, Gains}
use Rattle.ferry_stops.proofs.BlobLemmas.{begin_traced}
use Rattle.ferry_write.specs.Room.{behind}
use Rattle.ferry_write.specs.Rows.{RowIs, BeginBrings, BeginsRows}
use Rattle.ferry_write.specs.Script.{DoesAll, StopsIn, Clears, removals, clear_steps}
use Rattle.ferry_write.specs.Session.{ClearsAbove, BeginBySettle, SettlesFirst}
use Rattle.ferry_write.specs.declared.fault.WriteFault.{WriteFault}
use Rattle.ferry_write.specs.declared.session.Session.{Session}
use Rattle.ferry_write.proofs.ScriptLemmas.{stop_moments, ran_stops}
use Rattle.ferry_write.proofs.BeginLemmas.{kept_first, removed_first, each_last, kept_by_all}
use Rattle.ferry_write.proofs.RowLemmas.{remove_gains, settle_gains, row_removed, row_settled}
use Rattle.ferry_write.proofs.GainLemmas.{own_gains, rows_as}

-- ---- the acts

removed_by : (b : Bool) (n : ℕ) (steps : List Step) (numbers : List ℕ) → steps ≡ map RemoveOf numbers
    → (if b then steps else RemoveOf n ∷ steps) ≡ map RemoveOf (cond (not b) (n ∷ numbers) numbers)
removed_by true n steps numbers e = e
removed_by false n steps numbers e = ap (λ (s : List Step). RemoveOf n ∷ s) e

removals_are : (end : ℕ) (ns : List ℕ) → removals end ns ≡ map RemoveOf (filter (λ n. not (nat_lt n end)) ns)
removals_are end [] = refl
removals_are end (n ∷ ns) =
    removed_by (nat_lt n end) n (removals end ns) (filter (λ n. not (nat_lt n end)) ns) (removals_are end ns)

steps_are : (end : ℕ) (files : Files) (numbers : List ℕ) → numbers ≡ segment_numbers files
    → (SettleAll ∷ []) ++ removals end numbers ≡ clear_steps end files
steps_are end files numbers e =
    ap (λ (ns : List ℕ). SettleAll ∷ removals end ns) e ∙ ap (λ (s : List Step). SettleAll ∷ s) (removals_are end (segment_numbers files))

pub begin_acts : {T : Type 0} (after : Option ℕ) (a b : Option Told) (n m : ℕ) (result : Result T WriteFault) → Clears (behind after) a b n m result
    → ClearsAbove after a b result
begin_acts after None b n m (Ok x) clears = tt
begin_acts after None b n m (Err fault) clears = tt
begin_acts after (Some t) b n m (Ok x) clears =
    let r = clears.ran.runs in (
      r.0,
      r.1,
      subst (λ (s : List Step). DoesAll s t.history r.0.history) (steps_are (behind after) (files_now t.history) clears.numbers clears.listed) r.2,
    )
begin_acts after (Some t) b n m (Err fault) clears =
    let r = clears.ran.runs in (
      r.0,
      r.1,
      subst (λ (s : List Step). StopsIn s t.history r.0.history) (steps_are (behind after) (files_now t.history) clears.numbers clears.listed) r.2,
    )

-- ---- the first act

by_settle : (acts others : List Act) → acts ≡ others → BeginBySettle others → BeginBySettle acts
by_settle acts others e first = subst BeginBySettle (sym e) first

first_by : (steps front rest : List Step) (before now : History) → SettleAll ∷ steps ≡ front ++ rest
    → (now ≡ with_steps front before)
    ⊎ ((step : Step) × (more : List Step) × (rest ≡ step ∷ more) × (now ≡ with_act step false (with_steps front before)))
    → before.acts ≡ [] → BeginBySettle now.acts
first_by steps [] rest before now parts (inl e) none = by_settle now.acts [] (ap (λ (h : History). h.acts) e ∙ none) tt
first_by steps [] rest before now parts (inr q) none =
    let more : rest ≡ q.0 ∷ q.1 = q.2 in
    let first : SettleAll ≡ q.0 = cc in
    by_settle now.acts (undone q.0 ∷ [])
    (ap (λ (h : History). h.acts) q.3 ∙ ap (λ (acts : List Act). acts ++ undone q.0 ∷ []) none) (sym first)
first_by steps (x ∷ xs) rest before now parts (inl e) none =
    let first : SettleAll ≡ x = cc in
    by_settle now.acts (did_all (x ∷ xs))
    (ap (λ (h : History). h.acts) (e ∙ steps_acts (x ∷ xs) before) ∙ ap (λ (acts : List Act). acts ++ did_all (x ∷ xs)) none) (sym first)
first_by steps (x ∷ xs) rest before now parts (inr q) none =
    let first : SettleAll ≡ x = cc in
    by_settle now.acts (did_all (x ∷ xs) ++ undone q.0 ∷ [])
    (ap (λ (h : History). h.acts) (q.3 ∙ ap (with_act q.0 false) (steps_acts (x ∷ xs) before))
    ∙ ap (λ (acts : List Act). (acts ++ did_all (x ∷ xs)) ++ undone q.0 ∷ []) none) (sym first)

pub begin_first : {T : Type 0} (after : Option ℕ) (a b : Option Told) (n m : ℕ) (result : Result T WriteFault) → Clears (behind after) a b n m result
    → Between a b SettlesFirst
begin_first after a b n m result clears =
    let steps = removals (behind after) clears.numbers in
    between_map a b (StopsIn ((SettleAll ∷ []) ++ steps)) SettlesFirst
    (λ before now stop none. first_by steps stop.front stop.rest before now stop.parts stop.now_is none)
    (ran_stops ((SettleAll ∷ []) ++ steps) a b n m result clears.ran)

-- ---- the blobs

known_none : (start : Files) (past : List Act) (m : ℕ) (blob : List ℕ) → HasBlob (unwrap_or (fate_of start [] m).read []) blob
    → IsBlob start (past ++ []) blob
unfolding fate_of
known_none start past m blob has = (begin_traced start past m).known blob has

-- what a read gives at the start of a run has no other blobs
known_at : (start : Files) (past acts : List Act) → acts ≡ [] → (m : ℕ) (blob : List ℕ) → HasBlob (unwrap_or (fate_of start acts m).read []) blob
    → IsBlob start (past ++ acts) blob
known_at start past acts e m blob has =
    subst (λ (a : List Act). IsBlob start (past ++ a) blob) (sym e)
    (known_none start past m blob (subst (λ (a : List Act). HasBlob (unwrap_or (fate_of start a m).read []) blob) e has))

traced_at : (h : History) → h.acts ≡ [] → AllTraced h
traced_at h e = subst (λ (a : List Act). AllTraced (record { start = h.start; past = h.past; acts = a })) (sym e) (begin_traced h.start h.past)

removals_gains : (base : History) (IsNew : List ℕ → Type 0) (end : ℕ) (h : History) (ns : List ℕ) → Gains base IsNew h
    → EachMoment (Gains base IsNew) h (removals end ns)
removals_gains base IsNew end h [] gains = gains
removals_gains base IsNew end h (n ∷ ns) gains = elim (cases_lt n end) [
  | inl lt ↦ subst (EachMoment (Gains base IsNew) h) (sym (kept_first end n ns lt)) (removals_gains base IsNew end h ns gains)
  | inr le ↦
      subst (EachMoment (Gains base IsNew) h) (sym (removed_first end n ns le)) (
        gains,
        remove_gains base h IsNew n false gains,
        removals_gains base IsNew end (with_act (RemoveOf n) true h) ns (remove_gains base h IsNew n true gains),
      )
]

begin_gains : (end : ℕ) (h : History) (ns : List ℕ) → h.acts ≡ [] → EachMoment (Gains h (λ _. ⊥)) h ((SettleAll ∷ []) ++ removals end ns)
begin_gains end h ns none =
    let start = own_gains h (λ _. ⊥) (traced_at h none) in
    let next : (done : Bool) → Gains h (λ _. ⊥) (with_act SettleAll done h) =
    (λ done. settle_gains h h (λ _. ⊥) done start (known_at h.start h.past h.acts none)) in
    (start, next false, removals_gains h (λ _. ⊥) end (with_act SettleAll true h) ns (next true))

pub begin_brings : {T : Type 0} (after : Option ℕ) (a b : Option Told) (n m : ℕ) (result : Result T WriteFault) → Clears (behind after) a b n m result
    → Between a b BeginBrings
begin_brings after a b n m result clears =
    let steps = (SettleAll ∷ []) ++ removals (behind after) clears.numbers in
    between_map a b (StopsIn steps) BeginBrings
    (λ before now stop none. stop_moments (Gains before (λ _. ⊥)) steps before now (begin_gains (behind after) before clears.numbers none) stop)
    (ran_stops steps a b n m result clears.ran)

-- ---- the rows

pub unwritten_row : (last : Option ℕ) (h : History) → RowIs h last None
unwritten_row None h = tt
unwritten_row (Some n) h = tt

no_rows : (end : ℕ) (h : History) (ns : List ℕ) (m : ℕ) → row_in (with_steps ((SettleAll ∷ []) ++ removals end ns) h) m ≡ []
no_rows end h ns m =
    kept_by_all (λ g. row_in g m ≡ []) end (λ g n le e. row_removed g n m e) ns (with_act SettleAll true h) (row_settled h true m)

pub begin_rows : {T : Type 0} (after : Option ℕ) (s : Session) (a b : Option Told) (n m : ℕ) (x : T) → s.last ≡ after → s.size ≡ None
    → Clears (behind after) a b n m (Ok x) → Between a b (BeginsRows s)
begin_rows after s a b n m x d f clears =
    let end = behind after in
    let steps = (SettleAll ∷ []) ++ removals end clears.numbers in
    between_map a b (DoesAll steps) (BeginsRows s)
    (λ before now i none. rows_as after None after None (with_steps steps before) now refl refl i
    (each_last (Gains before (λ _. ⊥)) before steps (begin_gains end before clears.numbers none)).traced
    (record { above = λ k le. no_rows end before clears.numbers k; current = unwritten_row after (with_steps steps before) }) s d f) clears.ran.runs
