-- Lemmas on specs/Compact.antt: what holds wherever a run ends that compacts, from its begin on.
use Rattle.std.proofs.Common.{◌≡◌, ◌⊎◌, inl, inr, ℕ, suc, ◌+◌, ◌<◌, Bool, true, false, cond, not, List, [], ◌∷◌, ◌++◌, map, filter, nat_lt, drop}
use Rattle.std.proofs.Common.{Option, Some, None, unwrap_or, refl, sym, ◌∙◌, ap, subst, arith}
use Rattle.std.proofs.lemmas.Bool.{ltb-false}
use Rattle.std.specs.FinMap.{get}
use Rattle.std.specs.List.{AllByRecursion}
use Rattle.ferry_compact.proofs.LiesLemmas.{entries_in}
use Rattle.ferry_compact.proofs.ListLemmas.{all_front, all_back, map-append}
use Rattle.ferry_compact.proofs.RemovingLemmas.{removed_other}
use Rattle.ferry_compact.proofs.WentLemmas.{gains_then, plain_then, stay_then}
use Rattle.ferry_compact.proofs.StepLemmas.{moments_acts, moments_map, moments_then}
use Rattle.ferry_compact.specs.Compact.{RemovesFront, ShowsLive, StayUpTo}
use Rattle.ferry_compact.specs.Runs.{Run, SoFar}
use Rattle.ferry_compact.specs.Steps.{IsPutAmong}
use Rattle.ferry_disk.proofs.ImageLemmas.{applied-push}
use Rattle.ferry_disk.specs.Act.{Act, AppendTo, History, RemoveOf, ReplaceBy, SettleAll, Step, SyncOf, TellOf, applied, did, files_now, with_act}
use Rattle.ferry_disk.specs.Files.{Files, segment_bytes}
use Rattle.ferry_disk.specs.Moments.{EachMoment, Moments}
use Rattle.ferry_log.specs.Log.{Joins, Located, located}
use Rattle.ferry_segment.specs.Entry.{Fits, LogEntry, PutEntry, size_of}
use Rattle.ferry_segment.specs.Segment.{Splits, spellings}
use Rattle.ferry_stops.proofs.BlobLemmas.{none_has}
use Rattle.ferry_stops.proofs.DraftLemmas.{spellings-append}
use Rattle.ferry_stops.specs.Blobs.{BlobOf, FileHasBlob, Gains, HasBlob}
use Rattle.ferry_stops.specs.Chance.{EachStop}
use Rattle.ferry_stops.specs.Tells.{TellsNothing}
use Rattle.ferry_write.proofs.ScriptLemmas.{stop_moments}
use Rattle.ferry_write.specs.Script.{AllDone, StopsIn, clear_steps}
use Rattle.ferry_write.specs.Session.{BeginBySettle, KeepsPlain}

-- ---- segments that stay

-- A step that changes no segment up to a number.
abbrev IsAboveAll : ℕ → Step → Type 0
IsAboveAll t (AppendTo n bytes) = ⊥
IsAboveAll t (SyncOf n) = ⊥
IsAboveAll t (RemoveOf n) = t < n
IsAboveAll t (ReplaceBy name bytes) = ⊥
IsAboveAll t SettleAll = Unit {0}
IsAboveAll t (TellOf line) = ⊥

undone_same : (h : History) (step : Step) → files_now (with_act step false h) ≡ files_now h
undone_same h step = applied-push h.start h.acts (record { step = step; done = false })

settle_same : (h : History) → files_now (with_act SettleAll true h) ≡ files_now h
settle_same h = applied-push h.start h.acts (record { step = SettleAll; done = true })

stays_as : (t : ℕ) (h g : History) → files_now g ≡ files_now h → StayUpTo t h g
stays_as t h g e n le = ap (λ (files : Files). get files.segments n) e

stays_next : (t : ℕ) (h : History) (step : Step) (done : Bool) → IsAboveAll t step → StayUpTo t h (with_act step done h)
stays_next t h (AppendTo n bytes) done is = absurd is
stays_next t h (SyncOf n) done is = absurd is
stays_next t h (RemoveOf n) false is = stays_as t h (with_act (RemoveOf n) false h) (undone_same h (RemoveOf n))
stays_next t h (RemoveOf n) true is = λ m le. removed_other h n m (λ same. let no : ⊥ = omega (arith, same, le, is) in no)
stays_next t h (ReplaceBy name bytes) done is = absurd is
stays_next t h SettleAll false is = stays_as t h (with_act SettleAll false h) (undone_same h SettleAll)
stays_next t h SettleAll true is = stays_as t h (with_act SettleAll true h) (settle_same h)
stays_next t h (TellOf line) done is = absurd is

stays_each : (t : ℕ) (base h : History) (steps : List Step) → AllByRecursion (IsAboveAll t) steps → StayUpTo t base h
    → EachMoment (StayUpTo t base) h steps
stays_each t base h [] all stay = stay
stays_each t base h (x ∷ steps) all stay = (
  stay,
  stay_then t base h (with_act x false h) stay (stays_next t h x false all.0),
  stays_each t base (with_act x true h) steps all.1 (stay_then t base h (with_act x true h) stay (stays_next t h x true all.0)),
)

above_by : (t n : ℕ) (ns : List ℕ) (b : Bool) → nat_lt n (suc t) ≡ b → AllByRecursion (IsAboveAll t) (map RemoveOf ns)
    → AllByRecursion (IsAboveAll t) (map RemoveOf (cond (not b) (n ∷ ns) ns))
above_by t n ns true is rest = rest
above_by t n ns false is rest = (let le = ltb-false n (suc t) is in omega (arith, le), rest)

above_numbers : (t : ℕ) (ns : List ℕ) → AllByRecursion (IsAboveAll t) (map RemoveOf (filter (λ n. not (nat_lt n (suc t))) ns))
above_numbers t [] = tt
above_numbers t (n ∷ ns) = above_by t n (filter (λ k. not (nat_lt k (suc t))) ns) (nat_lt n (suc t)) refl (above_numbers t ns)

-- what a session's begin removes
pub clear_stays : (t : ℕ) (files : Files) (h g : History) → StopsIn (clear_steps (suc t) files) h g → StayUpTo t h g
clear_stays t files h g stop =
    (stop_moments (StayUpTo t h) (clear_steps (suc t) files) h g
    (stays_each t h h (clear_steps (suc t) files) (tt, above_numbers t (Rattle.ferry_disk.specs.Files.segment_numbers files)) (λ n le. refl)) stop).last

-- nothing of the chosen segments was removed yet
pub none_removed : (t : ℕ) (chosen : List ℕ) (h g : History) → StayUpTo t h g → RemovesFront t chosen h g
none_removed t chosen h g stay = record {
  written = g;
  stay = stay;
  removes = record { front = []; rest = map RemoveOf chosen; parts = refl; now_is = inl refl };
}

-- ---- the blobs of a log

split_by : {X : Type 0} (x : X) (front rest xs ys : List X) → front ++ x ∷ rest ≡ xs ++ ys
    → ((r : List X) × (xs ≡ front ++ x ∷ r)) ⊎ ((f : List X) × (ys ≡ f ++ x ∷ rest))
split_by x front rest [] ys e = inr (front, sym e)
split_by x [] rest (y ∷ xs) ys e = let same : x ≡ y = cc in inl (xs, ap (λ (z : _). z ∷ xs) (sym same))
split_by x (z ∷ front) rest (y ∷ xs) ys e =
    let same : z ≡ y = cc in
    let more : front ++ x ∷ rest ≡ xs ++ ys = cc in
    elim (split_by x front rest xs ys more) [
      | inl own ↦ inl (own.0, ap (λ (w : _). w ∷ xs) (sym same) ∙ ap (λ (l : List _). z ∷ l) own.1)
      | inr behind ↦ inr behind
    ]

entries_located : (segment at : ℕ) (es : List LogEntry) → entries_in (located segment at es) ≡ es
entries_located segment at [] = refl
entries_located segment at (e ∷ es) = ap (λ (l : List LogEntry). e ∷ l) (entries_located segment (at + size_of e) es)

-- a blob of a segment's entries
split_blob : (bytes : List ℕ) (es before after : List LogEntry) (key blob : List ℕ) → Splits bytes es → es ≡ before ++ PutEntry key blob ∷ after
    → HasBlob bytes blob
split_blob bytes es before after key blob split is =
    let entry = PutEntry key blob in
    let fit = subst (AllByRecursion Fits) is split.fit in
    record {
      before = before;
      key = key;
      reads = record {
        rest = spellings after;
        before_fit = all_front Fits before (entry ∷ after) fit;
        fits = (all_back Fits before (entry ∷ after) fit).0;
        spelled = ap (drop 8) split.whole ∙ (ap spellings is ∙ spellings-append before (entry ∷ after));
      };
    }

file_blob : (file : Option (List ℕ)) (blob : List ℕ) → HasBlob (unwrap_or file []) blob → FileHasBlob file blob
file_blob None blob has = none_has blob has
file_blob (Some bytes) blob has = has

joins_blob : (files : Files) (ns : List ℕ) (log : List Located) (blob : List ℕ) → Joins files ns log → IsPutAmong (entries_in log) blob
    → (n : ℕ) × FileHasBlob (get files.segments n) blob
joins_blob files [] log blob j put =
    let none : put.1 ++ PutEntry put.0 blob ∷ put.2 ≡ [] = sym put.3 ∙ ap entries_in j in absurd (nothing put.1 put.2 put.0 none) where
      nothing : (xs ys : List LogEntry) (key : List ℕ) → xs ++ PutEntry key blob ∷ ys ≡ [] → ⊥
      nothing [] ys key e = let no : ⊥ = cc in no
      nothing (x ∷ xs) ys key e = let no : ⊥ = cc in no
joins_blob files (n ∷ ns) log blob j put =
    let parts : put.1 ++ PutEntry put.0 blob ∷ put.2 ≡ j.0 ++ entries_in j.1 =
    sym put.3 ∙ (ap entries_in j.4 ∙ (map-append (λ (e : Located). e.entry) (located n 8 j.0) j.1
    ∙ ap (λ (l : List LogEntry). l ++ entries_in j.1) (entries_located n 8 j.0))) in
    elim (split_by (PutEntry put.0 blob) put.1 put.2 j.0 (entries_in j.1) parts) [
      | inl own ↦ (n, file_blob (get files.segments n) blob (split_blob (segment_bytes files n) j.0 put.1 own.0 put.0 blob j.2 own.1))
      | inr behind ↦ joins_blob files ns j.1 blob j.3 (put.0, behind.0, put.2, behind.1)
    ]

-- what a read gives at the begin of a run is its start
pub files_begun : (h : History) → h.acts ≡ [] → files_now h ≡ h.start
files_begun h e = ap (λ (acts : List Act). applied h.start acts) e

pub log_blob : (h : History) (ns : List ℕ) (log : List Located) (blob : List ℕ) → h.acts ≡ [] → Joins (files_now h) ns log
    → IsPutAmong (entries_in log) blob → BlobOf h blob
log_blob h ns log blob e j put =
    let found = joins_blob (files_now h) ns log blob j put in
    (found.0, inl (subst (λ (files : Files). FileHasBlob (get files.segments found.0) blob) (files_begun h e) found.1))

-- ---- a run so far

-- What was done next.
pub record Next (transaction : ℕ) (chosen : List ℕ) (log : List Located) (begin before now : History) : Type 0 where
  pub live : Moments (EachStop (ShowsLive log)) before now
  pub gains : begin.acts ≡ [] → Moments (Gains before (IsPutAmong (entries_in log))) before now
  pub removes : RemovesFront transaction chosen before now
  pub plain : KeepsPlain before now
  pub untold : TellsNothing before now

gains_none : (h : History) (IsNew : List ℕ → Type 0) (k : History) → ((blob : List ℕ) → IsNew blob → BlobOf h blob) → Gains h IsNew k → Gains h (λ _. ⊥) k
gains_none h IsNew k known gains = record {
  traced = gains.traced;
  gained = λ blob is. elim (gains.gained blob is) [
    | inl old ↦ inl old
    | inr new ↦ inl (known blob new)
  ];
}

settles_more : (acts more : List Act) → (rest : List Act) × (acts ≡ did SettleAll ∷ rest) → BeginBySettle (acts ++ more)
settles_more acts more begun = subst (λ (l : List Act). BeginBySettle (l ++ more)) (sym begun.1) refl

pub settled_more : (acts later more : List Act) → later ≡ acts ++ more → (rest : List Act) × (acts ≡ did SettleAll ∷ rest)
    → (rest : List Act) × (later ≡ did SettleAll ∷ rest)
settled_more acts later more is begun = (begun.0 ++ more, is ∙ ap (λ (l : List Act). l ++ more) begun.1)

pub run_then : (t : ℕ) (chosen : List ℕ) (log : List Located) (h g i : History)
    → (h.acts ≡ [] → (blob : List ℕ) → IsPutAmong (entries_in log) blob → BlobOf h blob) → Run t chosen log h g → AllDone h g → SoFar t h g
    → Next t chosen log h g i → Run t chosen log h i
run_then t chosen log h g i known run done so next = record {
  live = λ e. moments_then (EachStop (ShowsLive log)) h g i (run.live e) done next.live;
  gains = λ e.
      moments_map (Gains h (IsPutAmong (entries_in log))) (Gains h (λ _. ⊥)) h i
      (λ k. gains_none h (IsPutAmong (entries_in log)) k (known e))
      (gains_then (λ _. ⊥) (IsPutAmong (entries_in log)) (IsPutAmong (entries_in log)) h g i (λ blob no. absurd no) (λ blob put. put) (run.gains e) done
      (next.gains e));
  first = λ e.
      let more = moments_acts (EachStop (ShowsLive log)) g i next.live in
      subst BeginBySettle (sym more.1) (settles_more g.acts more.0 (so.settles e));
  removes = record {
    written = next.removes.written;
    stay = stay_then t h g next.removes.written so.stays next.removes.stay;
    removes = next.removes.removes;
  };
  plain = plain_then h g i run.plain done next.plain;
  untold = next.untold ∙ run.untold;
}
