-- Steps one after another: what holds at each moment of both, and at their end.
use Rattle.std.proofs.Common.{◌≡◌, ◌⊎◌, inl, inr, ℕ, Bool, true, false, ◌&&◌, ◌||◌, List, [], ◌∷◌, ◌++◌, Option, Some, None, Result, Ok, Err, IfSome}
use Rattle.std.proofs.Common.{IsErrAnd, option_map}
use Rattle.std.proofs.Common.{refl, sym, ◌∙◌, ap, subst, append_assoc}
use Rattle.std.proofs.lemmas.List.{append-nil}
use Rattle.ferry_disk.proofs.MomentLemmas.{all_moments, moments_all, did_all, steps_acts, steps_end, steps_end_undone, between_map, between_then, between_both}
use Rattle.ferry_disk.proofs.FaultLemmas.{keeps_end}
use Rattle.ferry_disk.specs.Act.{Step, SettleAll, Act, History, did, with_act}
use Rattle.ferry_disk.specs.Image.{settled, is_settle}
use Rattle.ferry_disk.specs.declared.shelf.StoreFault.{StoreFault}
use Rattle.ferry_disk.specs.declared.shelf.StoreFault.TheVariants as Store
use Rattle.ferry_disk.proofs.ImageLemmas.{settled-push}
use Rattle.ferry_disk.specs.Device.{Told, Heard, Acts, acted, called, heard, heard_of, failed_at, first_failed, KeepsTold, KeptWhere, RoseWhere}
use Rattle.ferry_disk.specs.Faults.{failed_told, FailedWhere}
use Rattle.ferry_disk.specs.Moments.{Between, Moments, EachMoment, IsMoment, last_undone, with_steps}
use Rattle.ferry_nonce.specs.Counter.{begin_of}
use Rattle.ferry_store.specs.Fault.{depot_failed}
use Rattle.ferry_store.specs.State.{IsStep, Did}
use Rattle.ferry_write.specs.Script.{AllDone}
use Rattle.ferry_write.specs.Session.{BeginBySettle}
use Rattle.ferry_store.specs.declared.fault.StoreRefusal.{StoreRefusal}
use Rattle.ferry_write.proofs.ScriptLemmas.{each_append, each_map}

-- ---- moments

pub with_both : (s t : List Step) (h : History) → with_steps (s ++ t) h ≡ with_steps t (with_steps s h)
with_both [] t h = refl
with_both (x ∷ s) t h = with_both s t (with_act x true h)

pub done_then : (a b c : History) → AllDone a b → AllDone b c → AllDone a c
done_then a b c d e = (d.0 ++ e.0, e.1 ∙ (ap (with_steps e.0) d.1 ∙ sym (with_both d.0 e.0 a)))

pub done_here : (a : History) → AllDone a a
done_here a = ([], refl)

-- a moment of what follows an act is one with the act before it
act_first : (h g moment : History) (step : Step) → IsMoment (with_act step true h) g moment → IsMoment h g moment
act_first h g moment step is = record {
  front = did step ∷ is.front;
  rest = is.rest;
  now_is = is.now_is ∙ acts_are (is.front ++ is.rest);
  moment_is = by_form is.front is.moment_is;
} where
  acts_are : (acts : List Act) → record h { acts = (h.acts ++ did step ∷ []) ++ acts } ≡ record h { acts = h.acts ++ (did step ∷ acts) }
  acts_are acts = ap (λ (all : List Act). record h { acts = all }) (append_assoc h.acts (did step ∷ []) acts)

  by_form : (front : List Act)
      → (moment ≡ record h { acts = (h.acts ++ did step ∷ []) ++ front }) ⊎ (moment ≡ record h { acts = (h.acts ++ did step ∷ []) ++ last_undone front })
      → (moment ≡ record h { acts = h.acts ++ (did step ∷ front) }) ⊎ (moment ≡ record h { acts = h.acts ++ last_undone (did step ∷ front) })
  by_form front (inl e) = inl (e ∙ acts_are front)
  by_form [] (inr e) = inl (e ∙ acts_are [])
  by_form (act ∷ front) (inr e) = inr (e ∙ acts_are (last_undone (act ∷ front)))

-- what holds at each moment of acts that are all done holds at each moment of their steps
each_by : (P : History → Type 0) (a g : History) (s : List Step) → g ≡ with_steps s a → ((moment : History) → IsMoment a g moment → P moment) → EachMoment P a s
each_by P a g [] e all = all a (record { front = []; rest = []; now_is = e ∙ none; moment_is = inl none }) where
  none : a ≡ record a { acts = a.acts ++ [] }
  none = ap (λ (acts : List Act). record a { acts = acts }) (sym (append-nil a.acts))
each_by P a g (x ∷ s) e all = (
  all a (record { front = []; rest = did_all (x ∷ s); now_is = e ∙ steps_acts (x ∷ s) a; moment_is = inl none }),
  all (with_act x false a) (record { front = did x ∷ []; rest = did_all s; now_is = e ∙ steps_acts (x ∷ s) a; moment_is = inr refl }),
  each_by P (with_act x true a) g s e (λ moment is. all moment (act_first a g moment x is)),
) where
  none : a ≡ record a { acts = a.acts ++ [] }
  none = ap (λ (acts : List Act). record a { acts = acts }) (sym (append-nil a.acts))

pub each_of : (P : History → Type 0) (a b : History) (s : List Step) → b ≡ with_steps s a → Moments P a b → EachMoment P a s
each_of P a b s e m = each_by P a b s e (all_moments P a b m)

pub moments_then : (P : History → Type 0) (a b c : History) → Moments P a b → AllDone a b → Moments P b c → Moments P a c
moments_then P a b c m d n = record {
  steps = d.0 ++ n.steps;
  each = each_append P a d.0 n.steps (each_of P a b d.0 d.1 m) (subst (λ (h : History). EachMoment P h n.steps) d.1 n.each);
  now_is = elim n.now_is [
    | inl e ↦ inl (e ∙ joined)
    | inr e ↦ inr (e.0, e.1 ∙ ap (with_act e.0 false) joined)
  ];
  last = n.last;
} where
  joined : with_steps n.steps b ≡ with_steps (d.0 ++ n.steps) a
  joined = ap (with_steps n.steps) d.1 ∙ sym (with_both d.0 n.steps a)

pub moments_map : (P Q : History → Type 0) (a b : History) → ((h : History) → P h → Q h) → Moments P a b → Moments Q a b
moments_map P Q a b step m = record { steps = m.steps; each = each_map P Q step a m.steps m.each; now_is = m.now_is; last = step b m.last }

pub moments_here : (P : History → Type 0) (a : History) → P a → Moments P a a
moments_here P a p = record { steps = []; each = p; now_is = inl refl; last = p }

each_both : (P Q : History → Type 0) (h : History) (s : List Step) → EachMoment P h s → EachMoment Q h s → EachMoment (λ g. P g × Q g) h s
each_both P Q h [] p q = (p, q)
each_both P Q h (x ∷ s) p q = ((p.0, q.0), (p.1, q.1), each_both P Q (with_act x true h) s p.2 q.2)

-- where the moments of both are those of the same acts
pub moments_both : (P Q : History → Type 0) (a b : History) → Moments P a b → Moments Q a b → Moments (λ h. P h × Q h) a b
moments_both P Q a b m n = by_end m.now_is where
  all : (moment : History) → IsMoment a b moment → P moment × Q moment
  all moment is = (all_moments P a b m moment is, all_moments Q a b n moment is)

  by_end : (b ≡ with_steps m.steps a) ⊎ ((step : Step) × (b ≡ with_act step false (with_steps m.steps a))) → Moments (λ h. P h × Q h) a b
  by_end (inl e) = moments_all (λ h. P h × Q h) a b m.steps None (e ∙ steps_end a m.steps) all
  by_end (inr e) = moments_all (λ h. P h × Q h) a b m.steps (Some e.0) (e.1 ∙ steps_end_undone a m.steps e.0) all

or_true : (b : Bool) → (b || true) ≡ true
or_true true = refl
or_true false = refl

settled_next : (h : History) (step : Step) (done : Bool) → settled h.acts ≡ true → settled (with_act step done h).acts ≡ true
settled_next h step done e =
    settled-push h.acts (record { step = step; done = done }) ∙ ap (λ (b : Bool). b || (done && is_settle step)) e

pub settle_settled : (h : History) → settled (with_act SettleAll true h).acts ≡ true
settle_settled h = settled-push h.acts (did SettleAll) ∙ or_true (settled h.acts)

-- each moment begins as the run did
each_begin : (h : History) (s : List Step) → EachMoment (λ g. begin_of g ≡ begin_of h) h s
each_begin h [] = refl
each_begin h (x ∷ s) = (refl, refl, each_begin (with_act x true h) s)

steps_begin : (h : History) (s : List Step) → begin_of (with_steps s h) ≡ begin_of h
steps_begin h [] = refl
steps_begin h (x ∷ s) = steps_begin (with_act x true h) s

pub moments_begin : (P : History → Type 0) (a b : History) → Moments P a b → Moments (λ h. begin_of h ≡ begin_of a) a b
moments_begin P a b m = record {
  steps = m.steps;
  each = each_begin a m.steps;
  now_is = m.now_is;
  last = elim m.now_is [
    | inl e ↦ ap begin_of e ∙ steps_begin a m.steps
    | inr e ↦ ap begin_of e.1 ∙ steps_begin a m.steps
  ];
}

-- a Settle that is done stays done
each_settled : (h : History) (s : List Step) → settled h.acts ≡ true → EachMoment (λ g. settled g.acts ≡ true) h s
each_settled h [] e = e
each_settled h (x ∷ s) e = (e, settled_next h x false e, each_settled (with_act x true h) s (settled_next h x true e))

pub steps_settled : (h : History) (s : List Step) → settled h.acts ≡ true → settled (with_steps s h).acts ≡ true
steps_settled h [] e = e
steps_settled h (x ∷ s) e = steps_settled (with_act x true h) s (settled_next h x true e)

pub moments_settled : (P : History → Type 0) (a b : History) → settled a.acts ≡ true → Moments P a b → Moments (λ h. settled h.acts ≡ true) a b
moments_settled P a b e m = record {
  steps = m.steps;
  each = each_settled a m.steps e;
  now_is = m.now_is;
  last = elim m.now_is [
    | inl is ↦ subst (λ (h : History). settled h.acts ≡ true) (sym is) (steps_settled a m.steps e)
    | inr is ↦ subst (λ (h : History). settled h.acts ≡ true) (sym is.1)
        (settled_next (with_steps m.steps a) is.0 false (steps_settled a m.steps e))
  ];
}

-- the acts go on
acts_steps : (h : History) (s : List Step) → (more : List Act) × ((with_steps s h).acts ≡ h.acts ++ more)
acts_steps h [] = ([], sym (append-nil h.acts))
acts_steps h (x ∷ s) =
    let rest = acts_steps (with_act x true h) s in (did x ∷ rest.0, rest.1 ∙ append_assoc h.acts (did x ∷ []) rest.0)

acts_end : (h g : History) (s : List Step) (step : Step) → g ≡ with_act step false (with_steps s h) → (more : List Act) × (g.acts ≡ h.acts ++ more)
acts_end h g s step e =
    let rest = acts_steps h s in
    let last : Act = record { step = step; done = false } in (
      rest.0 ++ last ∷ [],
      ap (λ (k : History). k.acts) e ∙ (ap (λ (acts : List Act). acts ++ last ∷ []) rest.1 ∙ append_assoc h.acts rest.0 (last ∷ [])),
    )

pub moments_acts : (P : History → Type 0) (a b : History) → Moments P a b → (more : List Act) × (b.acts ≡ a.acts ++ more)
moments_acts P a b m = by_form m.now_is where
  by_form : (b ≡ with_steps m.steps a) ⊎ ((step : Step) × (b ≡ with_act step false (with_steps m.steps a))) → (more : List Act) × (b.acts ≡ a.acts ++ more)
  by_form (inl e) = let rest = acts_steps a m.steps in (rest.0, ap (λ (k : History). k.acts) e ∙ rest.1)
  by_form (inr e) = acts_end a b m.steps e.0 e.1

first_more : (acts more : List Act) → settled acts ≡ true → BeginBySettle acts → BeginBySettle (acts ++ more)
first_more [] more e first = absurd (let no : ⊥ = cc in no)
first_more (x ∷ acts) more e first = first

pub first_kept : (P : History → Type 0) (g i : History) → settled g.acts ≡ true → BeginBySettle g.acts → Moments P g i → BeginBySettle i.acts
first_kept P g i e first m =
    let rest = moments_acts P g i m in subst BeginBySettle (sym rest.1) (first_more g.acts rest.0 e first)

-- ---- one act

pub step_moments : (P : History → Type 0) (step : Step) (h g : History) → P h → ((done : Bool) → P (with_act step done h)) → IsStep step h g → Moments P h g
step_moments P step h g here there (inl e) = record { steps = []; each = here; now_is = inl e; last = subst P (sym e) here }
step_moments P step h g here there (inr (true, e)) = record {
  steps = step ∷ [];
  each = (here, there false, there true);
  now_is = inl e;
  last = subst P (sym e) (there true);
}
step_moments P step h g here there (inr (false, e)) = record { steps = []; each = here; now_is = inr (step, e); last = subst P (sym e) (there false) }

pub acted_step : (step : Step) (done : Bool) (a b : Option Told) → b ≡ option_map (acted step done) a → Between a b (λ h g. g ≡ with_act step done h)
acted_step step done None b e = tt
acted_step step done (Some told) b e = (acted step done told, e, refl)

pub called_step : (step : Step) (a b : Option Told) → b ≡ option_map called a → Between a b (IsStep step)
called_step step None b e = tt
called_step step (Some told) b e = (called told, e, inl refl)

pub same_step : (step : Step) (a b : Option Told) → b ≡ a → Between a b (IsStep step)
same_step step None b e = tt
same_step step (Some told) b e = (told, e, inl refl)

pub acts_step : {T : Type 0} (step : Step) (a b : Option Told) (result : Result T StoreFault) → Acts step a b result → Between a b (IsStep step)
acts_step step a b (Ok x) e = between_map a b (λ h g. g ≡ with_act step true h) (IsStep step) (λ h g is. inr (true, is)) (acted_step step true a b e)
acts_step step a b (Err Store.Failed) e =
    between_map a b (λ h g. g ≡ with_act step false h) (IsStep step) (λ h g is. inr (false, is)) (acted_step step false a b e)
acts_step step a b (Err Store.Memory) e = called_step step a b e

pub acts_done : {T : Type 0} (step : Step) (a b : Option Told) (x : T) → Acts {T = T} step a b (Ok x) → Between a b (λ h g. g ≡ with_act step true h)
acts_done step a b x e = acted_step step true a b e

pub step_done : (step : Step) (h g : History) → g ≡ with_act step true h → AllDone h g
step_done step h g e = (step ∷ [], e)

-- ---- a call that reads

same_ok : (a b : Option Told) → heard b ≡ heard a → Between a b (λ h g. g ≡ h)
same_ok None b e = tt
same_ok (Some told) None e = absurd (let no : ⊥ = cc in no)
same_ok (Some told) (Some now) e = let same : heard_of now ≡ heard_of told = cc in (now, refl, ap (λ (h : Heard). h.history) same)

same_where : (d : Bool) (a b : Option Told) → KeptWhere d (heard a) b → Between a b (λ h g. g ≡ h)
same_where false a b k = same_ok a b k
same_where true None b k = tt
same_where true (Some told) None k = absurd (let no : ⊥ = cc in no)
same_where true (Some told) (Some now) k =
    let same : heard_of now ≡ failed_at now.calls (heard_of told) = cc in (now, refl, ap (λ (h : Heard). h.history) same)

pub same_told : {T F : Type 0} (is_device : F → Bool) (a b : Option Told) (result : Result T F) → KeepsTold is_device a b result → Between a b (λ h g. g ≡ h)
same_told is_device a b (Ok x) k = same_ok a b k
same_told is_device a b (Err fault) k = same_where (is_device fault) a b k

-- ---- what is known before

pub after_same : (E : History → History → Type 0) (a b c : Option Told) → Between a b (λ h g. g ≡ h) → Between b c E → Between a c E
after_same E a b c same p = between_then a b c (λ h g. g ≡ h) E E (λ h g i e q. subst (λ (x : History). E x i) e q) same p

pub before_same : (E : History → History → Type 0) (a b c : Option Told) → Between a b E → Between b c (λ h g. g ≡ h) → Between a c E
before_same E a b c p same = between_then a b c E (λ h g. g ≡ h) E (λ h g i q e. subst (E h) (sym e) q) p same

pub known_then : (P : History → Type 0) (E : History → History → Type 0) (a b : Option Told) → IfSome a (λ t. P t.history) → Between a b E
    → Between a b (λ h g. P h × E h g)
known_then P E None b p q = tt
known_then P E (Some told) b p q = (q.0, q.1, (p, q.2))

-- what is known of what a device tells at the end
pub known_end : (P : History → Type 0) (E : History → History → Type 0) (a b : Option Told) → failed_told b ≡ failed_told a
    → ((h g : History) → E h g → P g) → Between a b E → IfSome b (λ t. P t.history)
known_end P E None None e step q = tt
known_end P E None (Some now) e step q = absurd (let no : ⊥ = cc in no)
known_end P E (Some told) None e step q = absurd (let f = q.1 in let no : ⊥ = cc in no)
known_end P E (Some told) (Some now) e step q =
    let same : now ≡ q.0 = (let f = q.1 in cc) in subst (λ (t : Told). P t.history) (sym same) (step told.history q.0.history q.2)

-- a refusal that was handed on
pub err_is : {T : Type 0} (r : Result T StoreRefusal) (refusal : StoreRefusal) (P : Result T StoreRefusal → Type 0) → IsErrAnd r (λ y. y ≡ refusal)
    → P (Err refusal) → P r
err_is (Ok x) refusal P e p = absurd e
err_is (Err y) refusal P e p = subst (λ (f : StoreRefusal). P (Err f)) (sym e) p

-- ---- steps

pub failed_then : (d : Bool) (a b c : Option Told) → failed_told b ≡ failed_told a → FailedWhere d b c → FailedWhere d a c
failed_then false a b c e f = f ∙ e
failed_then true None b None e f = refl
failed_then true (Some a) None None e f = absurd (let no : ⊥ = cc in no)
failed_then true (Some a) (Some b) None e f = absurd (let no : ⊥ = cc in no)
failed_then true None None (Some c) e f = f
failed_then true (Some a) None (Some c) e f = absurd (let no : ⊥ = cc in no)
failed_then true None (Some b) (Some c) e f = absurd (let no : ⊥ = cc in no)
failed_then true (Some a) (Some b) (Some c) e f = f ∙ ap (option_map (λ (n : Option ℕ). first_failed n c.calls)) e

pub rose_then : (d : Bool) (n m k : ℕ) → m ≡ n → RoseWhere d m k → RoseWhere d n k
rose_then d n m k e r = subst (λ (x : ℕ). RoseWhere d x k) e r

-- one step behind another that was `Ok`
pub did_then : {T U : Type 0} (E1 : History → History → Type 0) (Q1 : T → History → History → Type 0) (E2 : History → History → Type 0)
    (Q2 : U → History → History → Type 0) (E : History → History → Type 0) (Q : U → History → History → Type 0) (a b c : Option Told) (n m k : ℕ) (x : T)
    (result : Result U StoreRefusal) → ((h g i : History) → E1 h g → AllDone h g → Q1 x h g → E2 g i → E h i)
    → ((y : U) (h g i : History) → Q1 x h g → Q2 y g i → Q y h i) → Did E1 Q1 a b n m (Ok x) → Did E2 Q2 b c m k result → Did E Q a c n k result
did_then E1 Q1 E2 Q2 E Q a b c n m k x (Ok y) step last p q = record {
  each = between_then a b c (λ h g. E1 h g × (AllDone h g × Q1 x h g)) E2 E (λ h g i e f. step h g i e.0 e.1.0 e.1.1 f)
      (between_both a b E1 (λ h g. AllDone h g × Q1 x h g) p.each p.end) q.each;
  end = between_then a b c (λ h g. AllDone h g × Q1 x h g) (λ h g. AllDone h g × Q2 y h g) (λ h g. AllDone h g × Q y h g)
      (λ h g i e f. (done_then h g i e.0 f.0, last y h g i e.1 f.1)) p.end q.end;
  ends = q.ends ∙ p.ends;
  cause = q.cause ∙ p.cause;
}
did_then E1 Q1 E2 Q2 E Q a b c n m k x (Err fault) step last p q = record {
  each = between_then a b c (λ h g. E1 h g × (AllDone h g × Q1 x h g)) E2 E (λ h g i e f. step h g i e.0 e.1.0 e.1.1 f)
      (between_both a b E1 (λ h g. AllDone h g × Q1 x h g) p.each p.end) q.each;
  end = tt;
  ends = failed_then (depot_failed fault) a b c p.ends q.ends;
  cause = rose_then (depot_failed fault) n m k p.cause q.cause;
}

-- a step that was refused
pub did_front : {T U : Type 0} (E1 : History → History → Type 0) (Q1 : T → History → History → Type 0) (E : History → History → Type 0)
    (Q : U → History → History → Type 0) (a b : Option Told) (n m : ℕ) (fault : StoreRefusal) → ((h g : History) → E1 h g → E h g)
    → Did E1 Q1 a b n m (Err fault) → Did E Q a b n m (Err fault)
did_front E1 Q1 E Q a b n m fault step p = record { each = between_map a b E1 E step p.each; end = tt; ends = p.ends; cause = p.cause }

-- what holds beside it
pub did_also : {T : Type 0} (E F : History → History → Type 0) (Q : T → History → History → Type 0) (a b : Option Told) (n m : ℕ) (r : Result T StoreRefusal)
    → Between a b F → Did E Q a b n m r → Did (λ h g. E h g × F h g) Q a b n m r
did_also E F Q a b n m r also p = record { each = between_both a b E F p.each also; end = p.end; ends = p.ends; cause = p.cause }

-- a call that reads
abbrev pub Reads : History → History → Type 0
Reads h g = g ≡ h

pub read_did : {T F : Type 0} (is_device : F → Bool) (a b : Option Told) (n m : ℕ) (x : T) → KeepsTold {F = F} is_device a b (Ok x) → m ≡ n
    → Did {T = T} Reads (λ _. Reads) a b n m (Ok x)
read_did is_device a b n m x same caused = record {
  each = same_told is_device a b (Ok x) same;
  end = between_map a b Reads (λ h g. AllDone h g × Reads h g) (λ h g e. (([], e), e)) (same_told is_device a b (Ok x) same);
  ends = keeps_end is_device a b (Ok x) same;
  cause = caused;
}

-- and what was known before
pub did_known : {T : Type 0} (P : History → Type 0) (E : History → History → Type 0) (Q : T → History → History → Type 0) (a b : Option Told) (n m : ℕ) (x : T)
    → IfSome a (λ t. P t.history) → Did E Q a b n m (Ok x) → Did E (λ y h g. P h × Q y h g) a b n m (Ok x)
did_known P E Q a b n m x known p = record {
  each = p.each;
  end = between_map a b (λ h g. P h × (AllDone h g × Q x h g)) (λ h g. AllDone h g × (P h × Q x h g)) (λ h g e. (e.1.0, (e.0, e.1.1)))
      (known_then P (λ h g. AllDone h g × Q x h g) a b known p.end);
  ends = p.ends;
  cause = p.cause;
}

-- a Settle that is done stays done
pub settled_on : {T : Type 0} (E : History → History → Type 0) (Q : T → History → History → Type 0) (a b : Option Told) (n m : ℕ) (x : T)
    → IfSome a (λ t. settled t.history.acts ≡ true) → Did E Q a b n m (Ok x) → IfSome b (λ t. settled t.history.acts ≡ true)
settled_on E Q a b n m x known p =
    known_end (λ h. settled h.acts ≡ true) (λ h g. (settled h.acts ≡ true) × (AllDone h g × Q x h g)) a b p.ends
    (λ h g e. subst (λ (k : History). settled k.acts ≡ true) (sym e.1.0.1) (steps_settled h e.1.0.0 e.0))
    (known_then (λ h. settled h.acts ≡ true) (λ h g. AllDone h g × Q x h g) a b known p.end)

-- a step under other words
pub did_as : {T U : Type 0} (E1 : History → History → Type 0) (Q1 : T → History → History → Type 0) (E : History → History → Type 0)
    (Q : U → History → History → Type 0) (a b : Option Told) (n m : ℕ) (x : T) (y : U) → ((h g : History) → E1 h g → E h g)
    → ((h g : History) → Q1 x h g → Q y h g) → Did E1 Q1 a b n m (Ok x) → Did E Q a b n m (Ok y)
did_as E1 Q1 E Q a b n m x y step last p = record {
  each = between_map a b E1 E step p.each;
  end = between_map a b (λ h g. AllDone h g × Q1 x h g) (λ h g. AllDone h g × Q y h g) (λ h g e. (e.0, last h g e.1)) p.end;
  ends = p.ends;
  cause = p.cause;
}

-- where no call of the depot was made
pub here_each : (E : History → History → Type 0) (a : Option Told) → ((h : History) → E h h) → Between a a E
here_each E None here = tt
here_each E (Some told) here = (told, refl, here told.history)

pub did_nothing : {T : Type 0} (E : History → History → Type 0) (Q : T → History → History → Type 0) (a : Option Told) (n : ℕ) (fault : StoreRefusal)
    → depot_failed fault ≡ false → ((h : History) → E h h) → Did E Q a a n n (Err fault)
did_nothing E Q a n fault still here = record {
  each = here_each E a here;
  end = tt;
  ends = subst (λ (d : Bool). FailedWhere d a a) (sym still) refl;
  cause = subst (λ (d : Bool). RoseWhere d n n) (sym still) refl;
}

pub did_none : {T : Type 0} (E : History → History → Type 0) (Q : T → History → History → Type 0) (a : Option Told) (n : ℕ) (x : T)
    → ((h : History) → E h h) → ((h : History) → Q x h h) → Did E Q a a n n (Ok x)
did_none E Q a n x here last = record {
  each = here_each E a here;
  end = here_each (λ h g. AllDone h g × Q x h g) a (λ h. (done_here h, last h));
  ends = refl;
  cause = refl;
}
