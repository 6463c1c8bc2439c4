-- Lemmas on specs/DeleteSteps.antt: chunks that are dropped, one after another.
use Rattle.std.proofs.Common.{◌≡◌, ◌+◌, ◌<◌, ℕ, zero, suc, true, false, List, [], ◌∷◌, ◌++◌, length, take, get_or, map}
use Rattle.std.proofs.Common.{Option, Result, Ok, Err, IfSome, IsSome, refl, sym, ◌∙◌, ap, subst, arith, append_assoc, append-nil}
use Rattle.std.specs.List.{AllByRecursion}
use Rattle.std.proofs.lemmas.List.{take_more}
use Rattle.ferry_check.specs.Verify.{IsChunk}
use Rattle.ferry_disk.specs.Act.{History}
use Rattle.ferry_disk.specs.Device.{Told}
use Rattle.ferry_disk.specs.Moments.{Between}
use Rattle.ferry_disk.proofs.MomentLemmas.{between_then}
use Rattle.ferry_log.specs.State.{LogState}
use Rattle.ferry_log.specs.declared.place.Place.{Place}
use Rattle.ferry_refs.specs.DeleteSteps.{DropsAll, with_drops}
use Rattle.ferry_refs.specs.Deleting.{LeavesCommitted}
use Rattle.ferry_repo.specs.Objects.{IsMissing}
use Rattle.ferry_segment.specs.Entry.{DeleteEntry, LogEntry}
use Rattle.ferry_stops.specs.Tells.{TellsNothing}
use Rattle.ferry_store.specs.Dropping.{Drops, IsWriting}
use Rattle.ferry_store.specs.State.{Did, IsSound, IsUnderWay, KeepsSound, ShowsStanding, Written, with_entry}
use Rattle.ferry_store.specs.Store.{StoreFits}
use Rattle.ferry_store.specs.declared.fault.StoreRefusal.{StoreRefusal}
use Rattle.ferry_store.specs.declared.store.Store.{Store}
use Rattle.ferry_store.proofs.SoundLemmas.{stands_now}
use Rattle.ferry_store.proofs.StepLemmas.{did_front, did_then, here_each, known_end, known_then, moments_here, moments_then}
use Rattle.ferry_store.proofs.WritingLemmas.{without_writing}
use Rattle.ferry_write.specs.Script.{AllDone}

-- ---- one id of several

-- what holds of each holds of the one at a place
pub all_get : {X : Type 0} (P : X → Type 0) (xs : List X) (place : ℕ) (d : X) → AllByRecursion P xs → place < length xs → P (get_or xs place d)
all_get P [] place d all lt = absurd (omega arith)
all_get P (x ∷ xs) zero d all lt = all.0
all_get P (x ∷ xs) (suc place) d all lt = all_get P xs place d all.1 (omega arith)

-- the id of a chunk is live
pub chunk_live : (log : LogState) (id : List ℕ) → IsChunk log id → IsMissing log id → ⊥
chunk_live log id chunk missing = let no : false ≡ true = subst (λ (o : Option Place). IsSome o) missing chunk.live in let l : ⊥ = cc in l

-- ---- no line is told

pub untold_then : (a b c : Option Told) → Between a b TellsNothing → Between b c TellsNothing → Between a c TellsNothing
untold_then a b c p q = between_then a b c TellsNothing TellsNothing TellsNothing (λ h g i e f. f ∙ e) p q

-- ---- chunks that are dropped

drops_none : (store : Store) (h : History) → DropsAll store [] store h h
drops_none store h counts fits = (
  record {
    written = fits.written;
    under_way = fits.under_way;
    settings = fits.settings;
    repo = fits.repo;
    below = fits.below;
    holds = λ id blob apart. (λ live. ((fits.holds id blob apart).1 live, refl), λ has. (fits.holds id blob apart).0 has.0);
    manifest = λ held. fits.manifest;
    chunks = fits.chunks;
  },
  ap (λ (pending : List LogEntry). record fits.written { pending = pending }) (sym (append-nil fits.written.pending)),
)

pub leaves_here : (store : Store) (h : History) → LeavesCommitted store h h
leaves_here store h counts fits =
    moments_here (IsSound (ShowsStanding fits.written) counts) h
    (stands_now counts store.session store.counter fits.written h fits.under_way)

map_push : (ids : List (List ℕ)) (id : List ℕ) → map DeleteEntry (ids ++ id ∷ []) ≡ map DeleteEntry ids ++ DeleteEntry id ∷ []
map_push [] id = refl
map_push (x ∷ ids) id = ap (λ (es : List LogEntry). DeleteEntry x ∷ es) (map_push ids id)

-- one more
drops_push : (store middle now : Store) (ids : List (List ℕ)) (id : List ℕ) (h g i : History) → DropsAll store ids middle h g → Drops middle id now g i
    → DropsAll store (ids ++ id ∷ []) now h i
drops_push store middle now ids id h g i some more counts fits =
    let first = some counts fits in
    let second = more true counts ids first.0 in (
      second.0,
      second.1
          ∙ (ap (λ (w : Written). with_entry w (DeleteEntry id)) first.1
          ∙ ap (λ (pending : List LogEntry). record fits.written { pending = pending })
          (append_assoc fits.written.pending (map DeleteEntry ids) (DeleteEntry id ∷ [])
          ∙ ap (λ (es : List LogEntry). fits.written.pending ++ es) (sym (map_push ids id)))),
    )

pub leaves_then : (store middle : Store) (ids : List (List ℕ)) (h g i : History) → LeavesCommitted store h g → AllDone h g → DropsAll store ids middle h g
    → KeepsSound middle.session middle.counter g i → LeavesCommitted store h i
leaves_then store middle ids h g i each done some keeps counts fits =
    let first = some counts fits in
    moments_then (IsSound (ShowsStanding fits.written) counts) h g i (each counts fits) done
    (keeps counts (with_drops fits.written ids)
    (subst (λ (w : Written). IsUnderWay counts middle.session middle.counter w g) first.1 first.0.under_way))

-- What was done for chunks that were dropped.
abbrev pub DidDrop : {T : Type 0} → Store → List (List ℕ) → Store → Option Told → Option Told → ℕ → ℕ → Result T StoreRefusal → Type 0
DidDrop store ids now a b n m result = Did (LeavesCommitted store) (λ _. DropsAll store ids now) a b n m result

pub dropped_none : (store : Store) (a : Option Told) (n : ℕ) → DidDrop {T = Unit {0}} store [] store a a n n (Ok tt)
dropped_none store a n = record {
  each = here_each (LeavesCommitted store) a (leaves_here store);
  end = here_each (λ h g. AllDone h g × DropsAll store [] store h g) a (λ h. (([], refl), drops_none store h));
  ends = refl;
  cause = refl;
}

-- one more chunk, or a refusal
pub dropped_more : {T : Type 0} (store middle now : Store) (ids : List (List ℕ)) (place : ℕ) (d : List ℕ) (a b c : Option Told) (n m k : ℕ)
    (result : Result T StoreRefusal) → place < length ids → DidDrop {T = Unit {0}} store (take place ids) middle a b n m (Ok tt)
    → Did (KeepsSound middle.session middle.counter) (λ _. Drops middle (get_or ids place d) now) b c m k result
    → DidDrop store (take (place + 1) ids) now a c n k result
dropped_more {T} store middle now ids place d a b c n m k result lt some more =
    let front = take place ids in
    let id = get_or ids place d in
    subst (λ (l : List (List ℕ)). DidDrop store l now a c n k result) (sym (take_more ids place d lt))
    (did_then (LeavesCommitted store) (λ (_ : Unit {0}). DropsAll store front middle) (KeepsSound middle.session middle.counter)
    (λ (_ : T). Drops middle id now) (LeavesCommitted store) (λ (_ : T). DropsAll store (front ++ id ∷ []) now) a b c n m k tt result
    (λ h g i e done q f. leaves_then store middle front h g i e done q f)
    (λ y h g i q f. drops_push store middle now front id h g i q f) some more)

-- a store from which chunks were dropped writes
pub dropped_writing : (store middle : Store) (ids : List (List ℕ)) (a b : Option Told) (n m : ℕ) → IfSome a (λ t. StoreFits false store t.history)
    → DidDrop {T = Unit {0}} store ids middle a b n m (Ok tt) → IfSome b (λ t. IsWriting middle t.history)
dropped_writing store middle ids a b n m fits p =
    known_end (IsWriting middle) (λ h g. StoreFits false store h × (AllDone h g × DropsAll store ids middle h g)) a b p.ends
    (λ h g e. without_writing true false ids middle g (e.1.1 false e.0).0)
    (known_then (StoreFits false store) (λ h g. AllDone h g × DropsAll store ids middle h g) a b fits p.end)

-- where one wasn't dropped
pub dropped_front : {T U : Type 0} (store now other : Store) (ids more : List (List ℕ)) (a b : Option Told) (n m : ℕ) (refusal : StoreRefusal)
    → DidDrop {T = T} store ids now a b n m (Err refusal) → DidDrop {T = U} store more other a b n m (Err refusal)
dropped_front {T} {U} store now other ids more a b n m refusal p =
    did_front (LeavesCommitted store) (λ (_ : T). DropsAll store ids now) (LeavesCommitted store) (λ (_ : U). DropsAll store more other) a b n m refusal
    (λ h g e. e) p
