-- The place of a live key is where its blob lies.
use Rattle.std.proofs.Common.{◌≡◌, ℕ, zero, suc, ◌+◌, ◌-◌, Bool, true, false, List, [], ◌∷◌, ◌++◌, length, take, drop, filter, slice_get, Option, Some}
use Rattle.std.proofs.Common.{None, option_and_then, refl, sym, ◌∙◌, ap, subst, append_assoc, arith}
use Rattle.std.proofs.lemmas.List.{length-append, take_at, drop_at, drop-drop}
use Rattle.std.specs.List.{AllByRecursion}
use Rattle.ferry_segment.specs.Entry.{LogEntry, PutEntry, DeleteEntry, CommitEntry, Fits, spelling, size_of}
use Rattle.ferry_segment.specs.Segment.{magic, spellings}
use Rattle.ferry_segment.proofs.EntryLemmas.{length-spelling, spelling-tagged}
use Rattle.ferry_disk.specs.Files.{Files, segment_bytes}
use Rattle.ferry_segment.specs.Head.{BeginsAt}
use Rattle.ferry_log.specs.Log.{Located, located, Joins}
use Rattle.ferry_log.specs.Live.{names_key, naming, last_naming, put_blob, put_place, live_blob, live_place}
use Rattle.ferry_log.specs.State.{IsBlobAt}
use Rattle.ferry_log.specs.declared.place.Place.{Place}

-- an entry begins at its place in its segment
abbrev Lies : Files → Located → Type 0
Lies files e = BeginsAt (segment_bytes files e.segment) e.at e.entry

lies_located : (files : Files) (n at : ℕ) (front : List ℕ) (es : List LogEntry) → segment_bytes files n ≡ front ++ spellings es → length front ≡ at
    → AllByRecursion Fits es → AllByRecursion (Lies files) (located n at es)
lies_located files n at front [] whole size fit = tt
lies_located files n at front (e ∷ es) whole size fit =
    let bytes = segment_bytes files n in
    let long : length (front ++ spelling e) ≡ at + size_of e = omega (arith, length-append front (spelling e), length-spelling e, size) in
    let apart : bytes ≡ (front ++ spelling e) ++ spellings es = whole ∙ sym (append_assoc front (spelling e) (spellings es)) in
    let here : drop at bytes ≡ spelling e ++ spellings es = ap (drop at) whole ∙ drop_at front (spelling e ++ spellings es) at size in
    let behind : drop (at + size_of e) bytes ≡ spellings es =
    ap (drop (at + size_of e)) apart ∙ drop_at (front ++ spelling e) (spellings es) (at + size_of e) long in
    let all : length bytes ≡ length (front ++ spelling e) + length (spellings es) = ap length apart ∙ length-append (front ++ spelling e) (spellings es) in (
      record {
        fits = fit.0;
        spelled = here
            ∙ ap (λ s. spelling e ++ s) (sym behind);
        ends = refl;
        within = omega (arith, all, long);
      },
      lies_located files n (at + size_of e)
          (front ++ spelling e) es apart long fit.1,
    )

all_append : {X : Type 0} (P : X → Type 0) (xs ys : List X) → AllByRecursion P xs → AllByRecursion P ys → AllByRecursion P (xs ++ ys)
all_append P [] ys ps qs = qs
all_append P (x ∷ xs) ys ps qs = (ps.0, all_append P xs ys ps.1 qs)

lies_joined : (files : Files) (ns : List ℕ) (log : List Located) → Joins files ns log → AllByRecursion (Lies files) log
lies_joined files [] log joined = subst (AllByRecursion (Lies files)) (sym joined) tt
lies_joined files (n ∷ ns) log (es, rest, splits, joined, is) =
    subst (AllByRecursion (Lies files)) (sym is)
    (all_append (Lies files) (located n 8 es) rest (lies_located files n 8 magic es splits.whole refl splits.fit) (lies_joined files ns rest joined))

filter_step : {X : Type 0} (P : X → Type 0) (f : X → Bool) (x : X) (xs : List X) (b : Bool) → f x ≡ b → P x → AllByRecursion P (filter f xs)
    → AllByRecursion P (filter f (x ∷ xs))
filter_step P f x xs true is p ps = rw is (p, ps)
filter_step P f x xs false is p ps = rw is ps

all_filter : {X : Type 0} (P : X → Type 0) (f : X → Bool) (xs : List X) → AllByRecursion P xs → AllByRecursion P (filter f xs)
all_filter P f [] ps = tt
all_filter P f (x ∷ xs) ps = filter_step P f x xs (f x) refl ps.0 (all_filter P f xs ps.1)

all_get : {X : Type 0} (P : X → Type 0) (xs : List X) (i : ℕ) (x : X) → AllByRecursion P xs → slice_get xs i ≡ Some x → P x
all_get P [] i x ps e = absurd (let none : ⊥ = cc in none)
all_get P (y ∷ ys) zero x ps e = let same : y ≡ x = cc in subst P same ps.0
all_get P (y ∷ ys) (suc i) x ps e = all_get P ys i x ps.1 e

-- the last entry that names a key lies at its place
lies_last : (files : Files) (ns : List ℕ) (log : List Located) (key : List ℕ) (e : Located) → Joins files ns log → last_naming key log ≡ Some e
    → Lies files e
lies_last files ns log key e joined last =
    all_get (Lies files) (naming key log) (length (naming key log) - 1) e
    (all_filter (Lies files) (λ f. names_key key f.entry) log (lies_joined files ns log joined)) last

-- the blob of a PUT lies behind its head
blob_lies : (bytes : List ℕ) (at : ℕ) (key blob : List ℕ) → BeginsAt bytes at (PutEntry key blob) → IsBlobAt bytes (at + 41) (length blob) blob
blob_lies bytes at key blob begins =
    let e = PutEntry key blob in
    let rest = drop (at + size_of e) bytes in
    let tail : drop 8 (drop at bytes) ≡ (0 ∷ key ++ blob) ++ rest = ap (drop 8) begins.spelled ∙ spelling-tagged e rest in
    let keyed : drop 33 (drop 8 (drop at bytes)) ≡ blob ++ rest =
    ap (drop 33) (tail ∙ append_assoc (0 ∷ key) blob rest) ∙ drop_at (0 ∷ key) (blob ++ rest) 33 (omega (arith, begins.fits.0)) in
    let moved : drop 33 (drop 8 (drop at bytes)) ≡ drop (at + 41) bytes = drop-drop 33 8 (drop at bytes) ∙ drop-drop 41 at bytes in
    let sized : size_of e ≡ 41 + length blob = omega (arith, begins.fits.0, length-append key blob) in
    record { holds = ap (take (length blob)) (sym moved ∙ keyed) ∙ take_at blob rest (length blob) refl; within = omega (arith, begins.within, sized) }

-- what a place of an entry says of its blob
put_lies : (files : Files) (segment at : ℕ) (entry : LogEntry) (place : Place) → BeginsAt (segment_bytes files segment) at entry
    → put_place segment at entry ≡ Some place
    → (blob : List ℕ) × (put_blob entry ≡ Some blob) × IsBlobAt (segment_bytes files place.segment) place.at place.size blob
put_lies files segment at (PutEntry key blob) place lies e =
    let same : record { segment = segment; at = at + 41; size = length blob } ≡ place = cc in (
      blob,
      refl,
      subst (λ (p : Place). IsBlobAt (segment_bytes files p.segment) p.at p.size blob) same
          (blob_lies (segment_bytes files segment) at key blob lies),
    )
put_lies files segment at (DeleteEntry key) place lies e = absurd (let none : ⊥ = cc in none)
put_lies files segment at CommitEntry place lies e = absurd (let none : ⊥ = cc in none)

last_lies : (files : Files) (log : List Located) (key : List ℕ) (place : Place) (last : Option Located) → ((e : Located) → last ≡ Some e → Lies files e)
    → option_and_then (λ e. put_place e.segment e.at e.entry) last ≡ Some place
    → (blob : List ℕ) × (option_and_then (λ e. put_blob e.entry) last ≡ Some blob) × IsBlobAt (segment_bytes files place.segment) place.at place.size blob
last_lies files log key place None lies e = absurd (let none : ⊥ = cc in none)
last_lies files log key place (Some last) lies e = put_lies files last.segment last.at last.entry place (lies last refl) e

-- the place of a live key is where its blob lies
pub place_lies : (files : Files) (ns : List ℕ) (log : List Located) (key : List ℕ) (place : Place) → Joins files ns log → live_place key log ≡ Some place
    → (blob : List ℕ) × (live_blob key log ≡ Some blob) × IsBlobAt (segment_bytes files place.segment) place.at place.size blob
unfolding live_place live_blob
place_lies files ns log key place joined live =
    last_lies files log key place (last_naming key log) (λ e last. lies_last files ns log key e joined last) live

put_without : (segment at : ℕ) (entry : LogEntry) → put_place segment at entry ≡ None → put_blob entry ≡ None
put_without segment at (PutEntry key blob) e = absurd (let none : ⊥ = cc in none)
put_without segment at (DeleteEntry key) e = refl
put_without segment at CommitEntry e = refl

last_without : (last : Option Located) → option_and_then (λ e. put_place e.segment e.at e.entry) last ≡ None
    → option_and_then (λ e. put_blob e.entry) last ≡ None
last_without None e = refl
last_without (Some last) e = put_without last.segment last.at last.entry e

-- a key without a place has no blob
pub place_none : (key : List ℕ) (log : List Located) → live_place key log ≡ None → live_blob key log ≡ None
unfolding live_place live_blob
place_none key log e = last_without (last_naming key log) e
