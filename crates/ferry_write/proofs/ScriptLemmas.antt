-- Lemmas on specs/Script.antt: scripts one after another, and what holds at each of their moments.
use Rattle.std.proofs.Common.{◌≡◌, ◌⊎◌, inl, inr, ℕ, ◌+◌, ◌<◌, ◌≤◌, nat_lt, if◌then◌else◌, length, drop, Bool, true, false, List, [], ◌∷◌, ◌++◌}
use Rattle.std.proofs.Common.{Option, Some, None, Result, Ok, Err, IsErrAnd, option_map}
use Rattle.std.proofs.Common.{refl, sym, ◌∙◌, ap, subst, append_assoc}
use Rattle.std.proofs.lemmas.List.{append-nil, drop_more, drop_all}
use lib.ListN.{get_or}
use Rattle.ferry_disk.specs.Act.{Step, RemoveOf, History, with_act}
use Rattle.ferry_disk.specs.Device.{Told, Heard, heard, heard_of, called, acted, failed_at, first_failed, store_failed}
use Rattle.ferry_disk.specs.Device.{RoseWhere, NotActs, KeptWhere}
use Rattle.ferry_disk.specs.Faults.{failed_told, FailedWhere}
use Rattle.ferry_disk.specs.Moments.{Between, with_steps, EachMoment, Moments}
use Rattle.ferry_disk.specs.declared.shelf.StoreFault.{StoreFault}
use Rattle.ferry_disk.specs.declared.shelf.StoreFault.TheVariants as Store
use Rattle.ferry_disk.proofs.FaultLemmas.{acts_end, keeps_end}
use Rattle.ferry_disk.proofs.MomentLemmas.{between_map, between_then}
use Rattle.ferry_segment.specs.Crc.{crc, register_after, bits_of}
use Rattle.ferry_segment.specs.Entry.{CommitEntry, spelling}
use Rattle.ferry_write.specs.Room.{sync_steps}
use Rattle.ferry_write.specs.Fault.{write_failed, store_fault}
use Rattle.ferry_write.specs.Script.{AllDone, DoesAll, StopsIn, Ran, removals}
use Rattle.ferry_write.specs.declared.fault.WriteFault.{WriteFault}

-- ---- steps

pub with_steps-append : (xs ys : List Step) (h : History) → with_steps (xs ++ ys) h ≡ with_steps ys (with_steps xs h)
with_steps-append [] ys h = refl
with_steps-append (x ∷ xs) ys h = with_steps-append xs ys (with_act x true h)

stops_more : (s t : List Step) (before now : History) → StopsIn s before now → StopsIn (s ++ t) before now
stops_more s t before now st = record {
  front = st.front;
  rest = st.rest ++ t;
  parts = ap (λ (l : List Step). l ++ t) st.parts ∙ append_assoc st.front st.rest t;
  now_is = by_form st.now_is;
} where
  by_form : (now ≡ with_steps st.front before)
      ⊎ ((step : Step) × (more : List Step) × (st.rest ≡ step ∷ more) × (now ≡ with_act step false (with_steps st.front before)))
      → (now ≡ with_steps st.front before)
      ⊎ ((step : Step) × (more : List Step) × (st.rest ++ t ≡ step ∷ more) × (now ≡ with_act step false (with_steps st.front before)))
  by_form (inl e) = inl e
  by_form (inr q) = inr (q.0, q.1 ++ t, ap (λ (l : List Step). l ++ t) q.2, q.3)

stops_behind : (s t : List Step) (before mid now : History) → DoesAll s before mid → StopsIn t mid now → StopsIn (s ++ t) before now
stops_behind s t before mid now d st = record {
  front = s ++ st.front;
  rest = st.rest;
  parts = ap (λ (l : List Step). s ++ l) st.parts ∙ sym (append_assoc s st.front st.rest);
  now_is = by_form st.now_is;
} where
  at_front : with_steps st.front mid ≡ with_steps (s ++ st.front) before
  at_front = ap (with_steps st.front) d ∙ sym (with_steps-append s st.front before)

  by_form : (now ≡ with_steps st.front mid)
      ⊎ ((step : Step) × (more : List Step) × (st.rest ≡ step ∷ more) × (now ≡ with_act step false (with_steps st.front mid)))
      → (now ≡ with_steps (s ++ st.front) before)
      ⊎ ((step : Step) × (more : List Step) × (st.rest ≡ step ∷ more) × (now ≡ with_act step false (with_steps (s ++ st.front) before)))
  by_form (inl e) = inl (e ∙ at_front)
  by_form (inr q) = inr (q.0, q.1, q.2, q.3 ∙ ap (with_act q.0 false) at_front)

does_both : (s t : List Step) (before mid now : History) → DoesAll s before mid → DoesAll t mid now → DoesAll (s ++ t) before now
does_both s t before mid now d e = e ∙ (ap (with_steps t) d ∙ sym (with_steps-append s t before))

-- all steps done are a stop behind the last
all_stops : (s : List Step) (before now : History) → DoesAll s before now → StopsIn s before now
all_stops s before now e = record { front = s; rest = []; parts = sym (append-nil s); now_is = inl e }

-- ---- one call

done_one : (step : Step) (before now : Option Told) → now ≡ option_map (acted step true) before → Between before now (DoesAll (step ∷ []))
done_one step None now e = tt
done_one step (Some told) now e = (acted step true told, e, refl)

stopped_one : (step : Step) (before now : Option Told) (fault : StoreFault) → NotActs step before now fault → Between before now (StopsIn (step ∷ []))
stopped_one step None now fault e = tt
stopped_one step (Some told) now Store.Failed e =
    (acted step false told, e, record { front = []; rest = step ∷ []; parts = refl; now_is = inr (step, [], refl, refl) })
stopped_one step (Some told) now Store.Memory e = (called told, e, record { front = []; rest = step ∷ []; parts = refl; now_is = inl refl })

pub one_ok : {T : Type 0} (step : Step) (before now : Option Told) (count after : ℕ) (x : T) → now ≡ option_map (acted step true) before → after ≡ count
    → Ran (step ∷ []) before now count after (Ok x)
one_ok {T} step before now count after x e c = record {
  runs = done_one step before now e;
  ends = acts_end {T = T} step before now (Ok x) e;
  cause = c;
}

pub one_err : {T : Type 0} (step : Step) (before now : Option Told) (count after : ℕ) (fault : StoreFault) → NotActs step before now fault
    → RoseWhere (store_failed fault) count after → Ran {T = T} (step ∷ []) before now count after (Err (store_fault fault))
one_err {T} step before now count after Store.Failed e c = record {
  runs = stopped_one step before now Store.Failed e;
  ends = acts_end {T = T} step before now (Err Store.Failed) e;
  cause = c;
}
one_err {T} step before now count after Store.Memory e c = record {
  runs = stopped_one step before now Store.Memory e;
  ends = acts_end {T = T} step before now (Err Store.Memory) e;
  cause = c;
}

-- ---- a call that reads

nothing_done : (before now : Option Told) → heard now ≡ heard before → Between before now (DoesAll [])
nothing_done None now e = tt
nothing_done (Some told) None e = absurd (let no : ⊥ = cc in no)
nothing_done (Some told) (Some now) e =
    let same : heard_of now ≡ heard_of told = cc in (now, refl, ap (λ (h : Heard). h.history) same)

nothing_kept : (d : Bool) (before now : Option Told) → KeptWhere d (heard before) now → Between before now (DoesAll [])
nothing_kept false before now k = nothing_done before now k
nothing_kept true None now k = tt
nothing_kept true (Some told) None k = absurd (let no : ⊥ = cc in no)
nothing_kept true (Some told) (Some now) k =
    let same : heard_of now ≡ failed_at now.calls (heard_of told) = cc in (now, refl, ap (λ (h : Heard). h.history) same)

pub read_ok : {T : Type 0} (before now : Option Told) (count after : ℕ) (x : T) → heard now ≡ heard before → after ≡ count
    → Ran [] before now count after (Ok x)
read_ok {T} before now count after x e c = record {
  runs = nothing_done before now e;
  ends = keeps_end store_failed before now (Ok x) e;
  cause = c;
}

pub read_err : {T : Type 0} (before now : Option Told) (count after : ℕ) (fault : StoreFault) → KeptWhere (store_failed fault) (heard before) now
    → RoseWhere (store_failed fault) count after → Ran {T = T} [] before now count after (Err (store_fault fault))
read_err {T} before now count after Store.Failed e c = record {
  runs = between_map before now (DoesAll []) (StopsIn []) (all_stops []) (nothing_kept true before now e);
  ends = keeps_end {T = T} store_failed before now (Err Store.Failed) e;
  cause = c;
}
read_err {T} before now count after Store.Memory e c = record {
  runs = between_map before now (DoesAll []) (StopsIn []) (all_stops []) (nothing_kept false before now e);
  ends = keeps_end {T = T} store_failed before now (Err Store.Memory) e;
  cause = c;
}

-- ---- scripts one after another

failed_then : (d : Bool) (a b c : Option Told) → failed_told b ≡ failed_told a → FailedWhere d b c → FailedWhere d a c
failed_then false a b c e f = f ∙ e
failed_then true None b None e f = refl
failed_then true (Some a) None None e f = absurd (let no : ⊥ = cc in no)
failed_then true (Some a) (Some b) None e f = absurd (let no : ⊥ = cc in no)
failed_then true None None (Some c) e f = f
failed_then true (Some a) None (Some c) e f = absurd (let no : ⊥ = cc in no)
failed_then true None (Some b) (Some c) e f = absurd (let no : ⊥ = cc in no)
failed_then true (Some a) (Some b) (Some c) e f = f ∙ ap (option_map (λ (n : Option ℕ). first_failed n c.calls)) e

pub none_ran : {T : Type 0} (told : Option Told) (count : ℕ) (x : T) → Ran [] told told count count (Ok x)
none_ran told count x = record { runs = nothing_done told told refl; ends = refl; cause = refl }

pub ran_then : {T U : Type 0} (s t : List Step) (a b c : Option Told) (n m k : ℕ) (x : T) (result : Result U WriteFault) → Ran s a b n m (Ok x)
    → Ran t b c m k result → Ran (s ++ t) a c n k result
ran_then s t a b c n m k x (Ok y) p q = record {
  runs = between_then a b c (DoesAll s) (DoesAll t) (DoesAll (s ++ t)) (does_both s t) p.runs q.runs;
  ends = q.ends ∙ p.ends;
  cause = q.cause ∙ p.cause;
}
ran_then s t a b c n m k x (Err fault) p q = record {
  runs = between_then a b c (DoesAll s) (StopsIn t) (StopsIn (s ++ t)) (stops_behind s t) p.runs q.runs;
  ends = failed_then (write_failed fault) a b c p.ends q.ends;
  cause = subst (λ (j : ℕ). RoseWhere (write_failed fault) j k) p.cause q.cause;
}

-- a fault in a first script
pub ran_front : {T U : Type 0} (s t : List Step) (a b : Option Told) (n m : ℕ) (fault : WriteFault) → Ran {T = T} s a b n m (Err fault)
    → Ran {T = U} (s ++ t) a b n m (Err fault)
ran_front s t a b n m fault p = record {
  runs = between_map a b (StopsIn s) (StopsIn (s ++ t)) (stops_more s t) p.runs;
  ends = p.ends;
  cause = p.cause;
}

-- the same answer, with another value
pub ran_as : {T U : Type 0} (s : List Step) (a b : Option Told) (n m : ℕ) (x : T) (y : U) → Ran s a b n m (Ok x) → Ran s a b n m (Ok y)
ran_as s a b n m x y p = record { runs = p.runs; ends = p.ends; cause = p.cause }

pub ran_fault : {T U : Type 0} (s : List Step) (a b : Option Told) (n m : ℕ) (fault : WriteFault) → Ran {T = T} s a b n m (Err fault)
    → Ran {T = U} s a b n m (Err fault)
ran_fault s a b n m fault p = record { runs = p.runs; ends = p.ends; cause = p.cause }

-- where the answer is `Ok` all acts are done
pub ran_done : {T : Type 0} (s : List Step) (a b : Option Told) (n m : ℕ) (x : T) → Ran s a b n m (Ok x) → Between a b AllDone
ran_done s a b n m x p = between_map a b (DoesAll s) AllDone (λ before now d. (s, d)) p.runs

-- whatever the answer, all is a stop in the script
pub ran_stops : {T : Type 0} (s : List Step) (a b : Option Told) (n m : ℕ) (result : Result T WriteFault) → Ran s a b n m result
    → Between a b (StopsIn s)
ran_stops s a b n m (Ok x) p = between_map a b (DoesAll s) (StopsIn s) (all_stops s) p.runs
ran_stops s a b n m (Err fault) p = p.runs

-- ---- what holds at each moment of a script

pub each_append : (P : History → Type 0) (h : History) (xs ys : List Step) → EachMoment P h xs → EachMoment P (with_steps xs h) ys
    → EachMoment P h (xs ++ ys)
each_append P h [] ys e f = f
each_append P h (x ∷ xs) ys e f = (e.0, e.1, each_append P (with_act x true h) xs ys e.2 f)

pub each_map : (P Q : History → Type 0) → ((h : History) → P h → Q h) → (h : History) (xs : List Step) → EachMoment P h xs → EachMoment Q h xs
each_map P Q step h [] e = step h e
each_map P Q step h (x ∷ xs) e = (step h e.0, step (with_act x false h) e.1, each_map P Q step (with_act x true h) xs e.2)

each_front : (P : History → Type 0) (h : History) (xs ys : List Step) → EachMoment P h (xs ++ ys) → EachMoment P h xs
each_front P h [] [] e = e
each_front P h [] (y ∷ ys) e = e.0
each_front P h (x ∷ xs) ys e = (e.0, e.1, each_front P (with_act x true h) xs ys e.2)

each_end : (P : History → Type 0) (h : History) (xs ys : List Step) → EachMoment P h (xs ++ ys) → P (with_steps xs h)
each_end P h [] [] e = e
each_end P h [] (y ∷ ys) e = e.0
each_end P h (x ∷ xs) ys e = each_end P (with_act x true h) xs ys e.2

each_undone : (P : History → Type 0) (h : History) (xs : List Step) (y : Step) (ys : List Step) → EachMoment P h (xs ++ (y ∷ ys))
    → P (with_act y false (with_steps xs h))
each_undone P h [] y ys e = e.1
each_undone P h (x ∷ xs) y ys e = each_undone P (with_act x true h) xs y ys e.2

-- what holds at each moment of a script holds between, wherever it stopped
pub stop_moments : (P : History → Type 0) (s : List Step) (before now : History) → EachMoment P before s → StopsIn s before now → Moments P before now
stop_moments P s before now each st = by_form st.now_is where
  parts : EachMoment P before (st.front ++ st.rest)
  parts = subst (EachMoment P before) st.parts each

  by_form : (now ≡ with_steps st.front before)
      ⊎ ((step : Step) × (more : List Step) × (st.rest ≡ step ∷ more) × (now ≡ with_act step false (with_steps st.front before)))
      → Moments P before now
  by_form (inl e) = record {
    steps = st.front;
    each = each_front P before st.front st.rest parts;
    now_is = inl e;
    last = subst P (sym e) (each_end P before st.front st.rest parts);
  }
  by_form (inr q) = record {
    steps = st.front;
    each = each_front P before st.front st.rest parts;
    now_is = inr (q.0, q.3);
    last = subst P (sym q.3) (each_undone P before st.front q.0 q.1 (subst (λ (l : List Step). EachMoment P before (st.front ++ l)) q.2 parts));
  }

-- ---- what `?` hands on

pub err_is : {T : Type 0} (r : Result T WriteFault) (fault : WriteFault) (P : Result T WriteFault → Type 0) → IsErrAnd r (λ y. y ≡ fault) → P (Err fault) → P r
err_is (Ok x) fault P e p = absurd e
err_is (Err y) fault P e p = subst (λ (f : WriteFault). P (Err f)) (sym e) p

-- ---- no steps

pub kept_ran : {T : Type 0} (b : Bool) (s : List Step) (told : Option Told) (n : ℕ) (x : T) → b ≡ true → Ran (if b then [] else s) told told n n (Ok x)
kept_ran true s told n x e = none_ran told n x
kept_ran false s told n x e = absurd (let no : ⊥ = cc in no)

no_size : (last size : Option ℕ) → size ≡ None → sync_steps last size ≡ []
no_size None size e = refl
no_size (Some l) None e = refl
no_size (Some l) (Some s) e = absurd (let no : ⊥ = cc in no)

no_last : (last size : Option ℕ) → last ≡ None → sync_steps last size ≡ []
no_last None size e = refl
no_last (Some l) size e = absurd (let no : ⊥ = cc in no)

pub unsized_ran : {T : Type 0} (last size : Option ℕ) (told : Option Told) (n : ℕ) (x : T) → size ≡ None → Ran (sync_steps last size) told told n n (Ok x)
unsized_ran last size told n x e = subst (λ (s : List Step). Ran s told told n n (Ok x)) (sym (no_size last size e)) (none_ran told n x)

pub unwritten_ran : {T : Type 0} (last size : Option ℕ) (told : Option Told) (n : ℕ) (x : T) → last ≡ None → Ran (sync_steps last size) told told n n (Ok x)
unwritten_ran last size told n x e = subst (λ (s : List Step). Ran s told told n n (Ok x)) (sym (no_last last size e)) (none_ran told n x)

-- ---- removals

if_append : (b : Bool) (k : Step) (xs ys : List Step) → (if b then xs ++ ys else k ∷ (xs ++ ys)) ≡ (if b then xs else k ∷ xs) ++ ys
if_append true k xs ys = refl
if_append false k xs ys = refl

pub removals-append : (end : ℕ) (xs ys : List ℕ) → removals end (xs ++ ys) ≡ removals end xs ++ removals end ys
removals-append end [] ys = refl
removals-append end (x ∷ xs) ys =
    ap (λ (l : List Step). if nat_lt x end then l else RemoveOf x ∷ l) (removals-append end xs ys)
    ∙ if_append (nat_lt x end) (RemoveOf x) (removals end xs) (removals end ys)

-- some numbers are done with, and the rest is left from a place on
abbrev pub RemovesUpTo : ℕ → List ℕ → ℕ → Option Told → Option Told → ℕ → ℕ → Type 0
RemovesUpTo end numbers i before now count after =
    (front : List ℕ) × (numbers ≡ front ++ drop i numbers) × Ran {T = Unit {0}} (removals end front) before now count after (Ok tt)

pub removes_none : (end : ℕ) (numbers : List ℕ) (told : Option Told) (n : ℕ) → RemovesUpTo end numbers 0 told told n n
removes_none end numbers told n = ([], refl, none_ran told n tt)

pub removes_more : (end : ℕ) (numbers : List ℕ) (i : ℕ) (a b c : Option Told) (n m k : ℕ) (x : Unit {0}) → i < length numbers
    → RemovesUpTo end numbers i a b n m → Ran (removals end (get_or numbers i 0 ∷ [])) b c m k (Ok x) → RemovesUpTo end numbers (i + 1) a c n k
removes_more end numbers i a b c n m k x lt r one = (
  r.0 ++ (get_or numbers i 0 ∷ []),
  r.1 ∙ (ap (λ (l : List ℕ). r.0 ++ l) (drop_more numbers i 0 lt) ∙ sym (append_assoc r.0 (get_or numbers i 0 ∷ []) (drop (i + 1) numbers))),
  subst (λ (s : List Step). Ran {T = Unit {0}} s a c n k (Ok tt)) (sym (removals-append end r.0 (get_or numbers i 0 ∷ [])))
      (ran_then (removals end r.0) (removals end (get_or numbers i 0 ∷ [])) a b c n m k tt (Ok tt) r.2
      (ran_as (removals end (get_or numbers i 0 ∷ [])) b c m k x tt one)),
)

pub removes_all : (end : ℕ) (numbers : List ℕ) (i : ℕ) (a b : Option Told) (n m : ℕ) → length numbers ≤ i → RemovesUpTo end numbers i a b n m
    → Ran {T = Unit {0}} (removals end numbers) a b n m (Ok tt)
removes_all end numbers i a b n m le r =
    let whole : numbers ≡ r.0 = r.1 ∙ (ap (λ (l : List ℕ). r.0 ++ l) (drop_all i numbers le) ∙ append-nil r.0) in
    subst (λ (l : List ℕ). Ran {T = Unit {0}} (removals end l) a b n m (Ok tt)) (sym whole) r.2

pub removes_stop : (end : ℕ) (numbers : List ℕ) (i : ℕ) (a b c : Option Told) (n m k : ℕ) (fault : WriteFault) → i < length numbers
    → RemovesUpTo end numbers i a b n m → Ran {T = Unit {0}} (removals end (get_or numbers i 0 ∷ [])) b c m k (Err fault)
    → Ran {T = Unit {0}} (removals end numbers) a c n k (Err fault)
removes_stop end numbers i a b c n m k fault lt r one =
    let x = get_or numbers i 0 in
    let rest = drop (i + 1) numbers in
    let whole : numbers ≡ (r.0 ++ (x ∷ [])) ++ rest =
    r.1 ∙ (ap (λ (l : List ℕ). r.0 ++ l) (drop_more numbers i 0 lt) ∙ sym (append_assoc r.0 (x ∷ []) rest)) in
    let parts : removals end numbers ≡ (removals end r.0 ++ removals end (x ∷ [])) ++ removals end rest =
    ap (removals end) whole
    ∙ (removals-append end (r.0 ++ (x ∷ [])) rest ∙ ap (λ (l : List Step). l ++ removals end rest) (removals-append end r.0 (x ∷ []))) in
    subst (λ (s : List Step). Ran {T = Unit {0}} s a c n k (Err fault)) (sym parts)
    (ran_front (removals end r.0 ++ removals end (x ∷ [])) (removals end rest) a c n k fault
    (ran_then (removals end r.0) (removals end (x ∷ [])) a b c n m k tt (Err fault) r.2 one))

-- ---- the bytes of a commit

pub commit_spelled : 64 ∷ 244 ∷ 60 ∷ 37 ∷ 9 ∷ 0 ∷ 0 ∷ 0 ∷ 2 ∷ [] ≡ spelling CommitEntry
unfolding spelling crc register_after bits_of
commit_spelled = refl
