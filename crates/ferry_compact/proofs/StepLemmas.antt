-- Bodies one after another: what holds at each moment of both, and at their end.
use Rattle.std.proofs.Common.{◌≡◌, ◌⊎◌, inl, inr, ℕ, Bool, true, false, List, [], ◌∷◌, ◌++◌, Option, Some, None, Result, Ok, Err}
use Rattle.std.proofs.Common.{option_map, refl, sym, ◌∙◌, ap, subst, append_assoc}
use Rattle.std.proofs.lemmas.List.{append-nil}
use Rattle.ferry_compact.specs.Fault.{compact_failed}
use Rattle.ferry_compact.specs.Steps.{Did}
use Rattle.ferry_compact.specs.declared.fault.CompactFault.{CompactFault}
use Rattle.ferry_disk.proofs.FaultLemmas.{keeps_end}
use Rattle.ferry_disk.proofs.MomentLemmas.{all_moments, between_both, between_map, between_then, did_all, moments_all, steps_acts, steps_end, steps_end_undone}
use Rattle.ferry_disk.specs.Act.{Act, History, Step, did, files_now, with_act}
use Rattle.ferry_disk.specs.Device.{Heard, KeepsTold, KeptWhere, RoseWhere, Told, failed_at, first_failed, heard, heard_of, told_files}
use Rattle.ferry_disk.specs.Faults.{FailedWhere, failed_told}
use Rattle.ferry_disk.specs.Files.{Files}
use Rattle.ferry_disk.specs.Moments.{Between, EachMoment, IsMoment, Moments, last_undone, with_steps}
use Rattle.ferry_log.specs.Window.{Tells}
use Rattle.ferry_nonce.specs.Counter.{begin_of}
use Rattle.ferry_write.proofs.ScriptLemmas.{each_append, each_map}
use Rattle.ferry_write.specs.Script.{AllDone}

-- ---- moments

pub with_both : (s t : List Step) (h : History) → with_steps (s ++ t) h ≡ with_steps t (with_steps s h)
with_both [] t h = refl
with_both (x ∷ s) t h = with_both s t (with_act x true h)

pub done_then : (a b c : History) → AllDone a b → AllDone b c → AllDone a c
done_then a b c d e = (d.0 ++ e.0, e.1 ∙ (ap (with_steps e.0) d.1 ∙ sym (with_both d.0 e.0 a)))

pub done_here : (a : History) → AllDone a a
done_here a = ([], refl)

-- a moment of what follows an act is one with the act before it
act_first : (h g moment : History) (step : Step) → IsMoment (with_act step true h) g moment → IsMoment h g moment
act_first h g moment step is = record {
  front = did step ∷ is.front;
  rest = is.rest;
  now_is = is.now_is ∙ acts_are (is.front ++ is.rest);
  moment_is = by_form is.front is.moment_is;
} where
  acts_are : (acts : List Act) → record h { acts = (h.acts ++ did step ∷ []) ++ acts } ≡ record h { acts = h.acts ++ (did step ∷ acts) }
  acts_are acts = ap (λ (all : List Act). record h { acts = all }) (append_assoc h.acts (did step ∷ []) acts)

  by_form : (front : List Act)
      → (moment ≡ record h { acts = (h.acts ++ did step ∷ []) ++ front }) ⊎ (moment ≡ record h { acts = (h.acts ++ did step ∷ []) ++ last_undone front })
      → (moment ≡ record h { acts = h.acts ++ (did step ∷ front) }) ⊎ (moment ≡ record h { acts = h.acts ++ last_undone (did step ∷ front) })
  by_form front (inl e) = inl (e ∙ acts_are front)
  by_form [] (inr e) = inl (e ∙ acts_are [])
  by_form (act ∷ front) (inr e) = inr (e ∙ acts_are (last_undone (act ∷ front)))

-- what holds at each moment of acts that are all done holds at each moment of their steps
each_by : (P : History → Type 0) (a g : History) (s : List Step) → g ≡ with_steps s a → ((moment : History) → IsMoment a g moment → P moment) → EachMoment P a s
each_by P a g [] e all = all a (record { front = []; rest = []; now_is = e ∙ none; moment_is = inl none }) where
  none : a ≡ record a { acts = a.acts ++ [] }
  none = ap (λ (acts : List Act). record a { acts = acts }) (sym (append-nil a.acts))
each_by P a g (x ∷ s) e all = (
  all a (record { front = []; rest = did_all (x ∷ s); now_is = e ∙ steps_acts (x ∷ s) a; moment_is = inl none }),
  all (with_act x false a) (record { front = did x ∷ []; rest = did_all s; now_is = e ∙ steps_acts (x ∷ s) a; moment_is = inr refl }),
  each_by P (with_act x true a) g s e (λ moment is. all moment (act_first a g moment x is)),
) where
  none : a ≡ record a { acts = a.acts ++ [] }
  none = ap (λ (acts : List Act). record a { acts = acts }) (sym (append-nil a.acts))

pub each_of : (P : History → Type 0) (a b : History) (s : List Step) → b ≡ with_steps s a → Moments P a b → EachMoment P a s
each_of P a b s e m = each_by P a b s e (all_moments P a b m)

pub moments_then : (P : History → Type 0) (a b c : History) → Moments P a b → AllDone a b → Moments P b c → Moments P a c
moments_then P a b c m d n = record {
  steps = d.0 ++ n.steps;
  each = each_append P a d.0 n.steps (each_of P a b d.0 d.1 m) (subst (λ (h : History). EachMoment P h n.steps) d.1 n.each);
  now_is = elim n.now_is [
    | inl e ↦ inl (e ∙ joined)
    | inr e ↦ inr (e.0, e.1 ∙ ap (with_act e.0 false) joined)
  ];
  last = n.last;
} where
  joined : with_steps n.steps b ≡ with_steps (d.0 ++ n.steps) a
  joined = ap (with_steps n.steps) d.1 ∙ sym (with_both d.0 n.steps a)

pub moments_map : (P Q : History → Type 0) (a b : History) → ((h : History) → P h → Q h) → Moments P a b → Moments Q a b
moments_map P Q a b step m = record { steps = m.steps; each = each_map P Q step a m.steps m.each; now_is = m.now_is; last = step b m.last }

pub moments_here : (P : History → Type 0) (a : History) → P a → Moments P a a
moments_here P a p = record { steps = []; each = p; now_is = inl refl; last = p }

-- where the moments of both are those of the same acts
pub moments_both : (P Q : History → Type 0) (a b : History) → Moments P a b → Moments Q a b → Moments (λ h. P h × Q h) a b
moments_both P Q a b m n = by_end m.now_is where
  all : (moment : History) → IsMoment a b moment → P moment × Q moment
  all moment is = (all_moments P a b m moment is, all_moments Q a b n moment is)

  by_end : (b ≡ with_steps m.steps a) ⊎ ((step : Step) × (b ≡ with_act step false (with_steps m.steps a))) → Moments (λ h. P h × Q h) a b
  by_end (inl e) = moments_all (λ h. P h × Q h) a b m.steps None (e ∙ steps_end a m.steps) all
  by_end (inr e) = moments_all (λ h. P h × Q h) a b m.steps (Some e.0) (e.1 ∙ steps_end_undone a m.steps e.0) all

-- each moment begins as the run did
each_begin : (h : History) (s : List Step) → EachMoment (λ g. begin_of g ≡ begin_of h) h s
each_begin h [] = refl
each_begin h (x ∷ s) = (refl, refl, each_begin (with_act x true h) s)

steps_begin : (h : History) (s : List Step) → begin_of (with_steps s h) ≡ begin_of h
steps_begin h [] = refl
steps_begin h (x ∷ s) = steps_begin (with_act x true h) s

pub moments_begin : (P : History → Type 0) (a b : History) → Moments P a b → Moments (λ h. begin_of h ≡ begin_of a) a b
moments_begin P a b m = record {
  steps = m.steps;
  each = each_begin a m.steps;
  now_is = m.now_is;
  last = elim m.now_is [
    | inl e ↦ ap begin_of e ∙ steps_begin a m.steps
    | inr e ↦ ap begin_of e.1 ∙ steps_begin a m.steps
  ];
}

-- the acts go on
pub acts_steps : (h : History) (s : List Step) → (more : List Act) × ((with_steps s h).acts ≡ h.acts ++ more)
acts_steps h [] = ([], sym (append-nil h.acts))
acts_steps h (x ∷ s) =
    let rest = acts_steps (with_act x true h) s in (did x ∷ rest.0, rest.1 ∙ append_assoc h.acts (did x ∷ []) rest.0)

acts_end : (h g : History) (s : List Step) (step : Step) → g ≡ with_act step false (with_steps s h) → (more : List Act) × (g.acts ≡ h.acts ++ more)
acts_end h g s step e =
    let rest = acts_steps h s in
    let last : Act = record { step = step; done = false } in (
      rest.0 ++ last ∷ [],
      ap (λ (k : History). k.acts) e ∙ (ap (λ (acts : List Act). acts ++ last ∷ []) rest.1 ∙ append_assoc h.acts rest.0 (last ∷ [])),
    )

pub moments_acts : (P : History → Type 0) (a b : History) → Moments P a b → (more : List Act) × (b.acts ≡ a.acts ++ more)
moments_acts P a b m = by_form m.now_is where
  by_form : (b ≡ with_steps m.steps a) ⊎ ((step : Step) × (b ≡ with_act step false (with_steps m.steps a))) → (more : List Act) × (b.acts ≡ a.acts ++ more)
  by_form (inl e) = let rest = acts_steps a m.steps in (rest.0, ap (λ (k : History). k.acts) e ∙ rest.1)
  by_form (inr e) = acts_end a b m.steps e.0 e.1

-- ---- a call that reads

abbrev pub Reads : History → History → Type 0
Reads h g = g ≡ h

same_ok : (a b : Option Told) → heard b ≡ heard a → Between a b Reads
same_ok None b e = tt
same_ok (Some told) None e = absurd (let no : ⊥ = cc in no)
same_ok (Some told) (Some now) e = let same : heard_of now ≡ heard_of told = cc in (now, refl, ap (λ (h : Heard). h.history) same)

same_where : (d : Bool) (a b : Option Told) → KeptWhere d (heard a) b → Between a b Reads
same_where false a b k = same_ok a b k
same_where true None b k = tt
same_where true (Some told) None k = absurd (let no : ⊥ = cc in no)
same_where true (Some told) (Some now) k =
    let same : heard_of now ≡ failed_at now.calls (heard_of told) = cc in (now, refl, ap (λ (h : Heard). h.history) same)

pub same_told : {T F : Type 0} (is_device : F → Bool) (a b : Option Told) (result : Result T F) → KeepsTold is_device a b result → Between a b Reads
same_told is_device a b (Ok x) k = same_ok a b k
same_told is_device a b (Err fault) k = same_where (is_device fault) a b k

-- what is known of the files that are told, over what was read
known_files : (P : Files → Type 0) (a b : Option Told) → ((files : Files) → Tells a files → P files) → Between a b Reads
    → Between a b (λ h g. (g ≡ h) × P (files_now h))
known_files P None b p q = tt
known_files P (Some told) b p q = (q.0, q.1, (q.2, p (told_files told) refl))

pub here_each : (E : History → History → Type 0) (a : Option Told) → ((h : History) → E h h) → Between a a E
here_each E None here = tt
here_each E (Some told) here = (told, refl, here told.history)

-- ---- bodies

pub failed_then : (d : Bool) (a b c : Option Told) → failed_told b ≡ failed_told a → FailedWhere d b c → FailedWhere d a c
failed_then false a b c e f = f ∙ e
failed_then true None b None e f = refl
failed_then true (Some a) None None e f = absurd (let no : ⊥ = cc in no)
failed_then true (Some a) (Some b) None e f = absurd (let no : ⊥ = cc in no)
failed_then true None None (Some c) e f = f
failed_then true (Some a) None (Some c) e f = absurd (let no : ⊥ = cc in no)
failed_then true None (Some b) (Some c) e f = absurd (let no : ⊥ = cc in no)
failed_then true (Some a) (Some b) (Some c) e f = f ∙ ap (option_map (λ (n : Option ℕ). first_failed n c.calls)) e

pub fail_where : (d e : Bool) (a b : Option Told) → d ≡ e → FailedWhere e a b → FailedWhere d a b
fail_where d e a b same f = subst (λ (x : Bool). FailedWhere x a b) (sym same) f

pub rose_where : (d e : Bool) (n m : ℕ) → d ≡ e → RoseWhere e n m → RoseWhere d n m
rose_where d e n m same r = subst (λ (x : Bool). RoseWhere x n m) (sym same) r

-- one body behind another, where it was refused
pub did_stopped : (E1 Q1 : History → History → Type 0) (R1 : CompactFault → History → History → Type 0) (E2 Q2 : History → History → Type 0)
    (R2 : CompactFault → History → History → Type 0) (E Q : History → History → Type 0) (R : CompactFault → History → History → Type 0)
    (a b c : Option Told) (n m k : ℕ) (fault : CompactFault)
    → ((h g i : History) → E1 h g → AllDone h g → Q1 h g → E2 g i → E h i)
    → ((h g i : History) → E1 h g → Q1 h g → R2 fault g i → R fault h i)
    → Did E1 Q1 R1 a b n m (Ok tt) → Did E2 Q2 R2 b c m k (Err fault) → Did E Q R a c n k (Err fault)
did_stopped E1 Q1 R1 E2 Q2 R2 E Q R a b c n m k fault each refuses p q =
    let first = between_both a b E1 (λ h g. AllDone h g × Q1 h g) p.each p.end in
    record {
      each = between_then a b c (λ h g. E1 h g × (AllDone h g × Q1 h g)) E2 E (λ h g i e f. each h g i e.0 e.1.0 e.1.1 f) first q.each;
      end = tt;
      refuses = between_then a b c (λ h g. E1 h g × (AllDone h g × Q1 h g)) (R2 fault) (R fault) (λ h g i e f. refuses h g i e.0 e.1.1 f) first q.refuses;
      ends = failed_then (compact_failed fault) a b c p.ends q.ends;
      cause = subst (λ (x : ℕ). RoseWhere (compact_failed fault) x k) p.cause q.cause;
    }

-- one body behind another that was `Ok`
pub did_then : (E1 Q1 : History → History → Type 0) (R1 : CompactFault → History → History → Type 0) (E2 Q2 : History → History → Type 0)
    (R2 : CompactFault → History → History → Type 0) (E Q : History → History → Type 0) (R : CompactFault → History → History → Type 0)
    (a b c : Option Told) (n m k : ℕ) (result : Result (Unit {0}) CompactFault)
    → ((h g i : History) → E1 h g → AllDone h g → Q1 h g → E2 g i → E h i)
    → ((h g i : History) → E1 h g → AllDone h g → Q1 h g → Q2 g i → Q h i)
    → ((fault : CompactFault) (h g i : History) → E1 h g → Q1 h g → R2 fault g i → R fault h i)
    → Did E1 Q1 R1 a b n m (Ok tt) → Did E2 Q2 R2 b c m k result → Did E Q R a c n k result
did_then E1 Q1 R1 E2 Q2 R2 E Q R a b c n m k (Ok x) each last refuses p q =
    let first = between_both a b E1 (λ h g. AllDone h g × Q1 h g) p.each p.end in
    record {
      each = between_then a b c (λ h g. E1 h g × (AllDone h g × Q1 h g)) E2 E (λ h g i e f. each h g i e.0 e.1.0 e.1.1 f) first q.each;
      end = between_then a b c (λ h g. E1 h g × (AllDone h g × Q1 h g)) (λ h g. AllDone h g × Q2 h g) (λ h g. AllDone h g × Q h g)
          (λ h g i e f. (done_then h g i e.1.0 f.0, last h g i e.0 e.1.0 e.1.1 f.1)) first q.end;
      refuses = tt;
      ends = q.ends ∙ p.ends;
      cause = q.cause ∙ p.cause;
    }
did_then E1 Q1 R1 E2 Q2 R2 E Q R a b c n m k (Err fault) each last refuses p q =
    did_stopped E1 Q1 R1 E2 Q2 R2 E Q R a b c n m k fault each (refuses fault) p q

-- a body under other words
pub did_as : (E1 Q1 : History → History → Type 0) (R1 : CompactFault → History → History → Type 0) (E Q : History → History → Type 0)
    (R : CompactFault → History → History → Type 0) (a b : Option Told) (n m : ℕ) (result : Result (Unit {0}) CompactFault)
    → ((h g : History) → E1 h g → E h g) → ((h g : History) → Q1 h g → Q h g) → ((fault : CompactFault) (h g : History) → R1 fault h g → R fault h g)
    → Did E1 Q1 R1 a b n m result → Did E Q R a b n m result
did_as E1 Q1 R1 E Q R a b n m (Ok x) each last refuses p = record {
  each = between_map a b E1 E each p.each;
  end = between_map a b (λ h g. AllDone h g × Q1 h g) (λ h g. AllDone h g × Q h g) (λ h g e. (e.0, last h g e.1)) p.end;
  refuses = tt;
  ends = p.ends;
  cause = p.cause;
}
did_as E1 Q1 R1 E Q R a b n m (Err fault) each last refuses p = record {
  each = between_map a b E1 E each p.each;
  end = tt;
  refuses = between_map a b (R1 fault) (R fault) (refuses fault) p.refuses;
  ends = p.ends;
  cause = p.cause;
}

-- a body that was refused, of which only the fault is known
pub did_front : (E1 Q1 : History → History → Type 0) (R1 : CompactFault → History → History → Type 0) (E Q : History → History → Type 0)
    (R : CompactFault → History → History → Type 0) (a b : Option Told) (n m : ℕ) (fault : CompactFault)
    → ((h g : History) → E1 h g → E h g) → ((h g : History) → R1 fault h g → R fault h g)
    → Did E1 Q1 R1 a b n m (Err fault) → Did E Q R a b n m (Err fault)
did_front E1 Q1 R1 E Q R a b n m fault each refuses p = record {
  each = between_map a b E1 E each p.each;
  end = tt;
  refuses = between_map a b (R1 fault) (R fault) refuses p.refuses;
  ends = p.ends;
  cause = p.cause;
}

-- whatever would have held at its end
pub did_refused : (E P : History → History → Type 0) (R : CompactFault → History → History → Type 0) (Q : History → History → Type 0)
    (a b : Option Told) (n m : ℕ) (fault : CompactFault) → Did E P R a b n m (Err fault) → Did E Q R a b n m (Err fault)
did_refused E P R Q a b n m fault p = did_front E P R E Q R a b n m fault (λ h g e. e) (λ h g r. r) p

-- no call was made
pub did_none : (E Q : History → History → Type 0) (R : CompactFault → History → History → Type 0) (a : Option Told) (n : ℕ)
    → ((h : History) → E h h) → ((h : History) → Q h h) → Did E Q R a a n n (Ok tt)
did_none E Q R a n here last = record {
  each = here_each E a here;
  end = here_each (λ h g. AllDone h g × Q h g) a (λ h. (done_here h, last h));
  refuses = tt;
  ends = refl;
  cause = refl;
}

-- a fault for which no call was made
pub did_nothing : (E Q : History → History → Type 0) (R : CompactFault → History → History → Type 0) (a : Option Told) (n : ℕ) (fault : CompactFault)
    → compact_failed fault ≡ false → ((h : History) → E h h) → ((h : History) → R fault h h) → Did E Q R a a n n (Err fault)
did_nothing E Q R a n fault still here refuses = record {
  each = here_each E a here;
  end = tt;
  refuses = here_each (R fault) a refuses;
  ends = subst (λ (d : Bool). FailedWhere d a a) (sym still) refl;
  cause = subst (λ (d : Bool). RoseWhere d n n) (sym still) refl;
}

-- a call that reads, with what is known of the files
pub read_ok : {T : Type 0} (P : Files → Type 0) (R : CompactFault → History → History → Type 0) (a b : Option Told) (n m : ℕ) (x : T)
    → KeepsTold compact_failed a b (Ok x) → m ≡ n → ((files : Files) → Tells a files → P files)
    → Did Reads (λ h g. (g ≡ h) × P (files_now h)) R a b n m (Ok tt)
read_ok {T} P R a b n m x same cause known =
    let reads = same_told {T = T} compact_failed a b (Ok x) same in
    record {
      each = reads;
      end = between_map a b (λ h g. (g ≡ h) × P (files_now h)) (λ h g. AllDone h g × ((g ≡ h) × P (files_now h))) (λ h g e. (([], e.0), e))
          (known_files P a b known reads);
      refuses = tt;
      ends = keeps_end {T = T} compact_failed a b (Ok x) same;
      cause = cause;
    }

pub read_err : (T : Type 0) (Q : History → History → Type 0) (P : CompactFault → Files → Type 0) (a b : Option Told) (n m : ℕ) (fault : CompactFault)
    → KeepsTold {T = T} compact_failed a b (Err fault) → RoseWhere (compact_failed fault) n m → ((files : Files) → Tells a files → P fault files)
    → Did Reads Q (λ f h g. (g ≡ h) × P f (files_now h)) a b n m (Err fault)
read_err T Q P a b n m fault same cause known =
    let reads = same_told {T = T} compact_failed a b (Err fault) same in
    record {
      each = reads;
      end = tt;
      refuses = known_files (P fault) a b known reads;
      ends = keeps_end {T = T} compact_failed a b (Err fault) same;
      cause = cause;
    }

-- what holds wherever it ended holds at its end
pub did_with : (E Q : History → History → Type 0) (R : CompactFault → History → History → Type 0) (a b : Option Told) (n m : ℕ)
    (result : Result (Unit {0}) CompactFault) → Did E Q R a b n m result → Did E (λ h g. E h g × Q h g) R a b n m result
did_with E Q R a b n m (Ok x) p = record {
  each = p.each;
  end = between_map a b (λ h g. E h g × (AllDone h g × Q h g)) (λ h g. AllDone h g × (E h g × Q h g)) (λ h g all. (all.1.0, (all.0, all.1.1)))
      (between_both a b E (λ h g. AllDone h g × Q h g) p.each p.end);
  refuses = tt;
  ends = p.ends;
  cause = p.cause;
}
did_with E Q R a b n m (Err fault) p = record { each = p.each; end = tt; refuses = p.refuses; ends = p.ends; cause = p.cause }
