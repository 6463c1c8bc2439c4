-- Lemmas on specs/Moments.antt: what holds at each moment, by the steps, holds at each front of the acts and at each with its last
-- act taken as not done; and the other way round.
use Rattle.std.proofs.Common.{◌≡◌, true, false, ◌⊎◌, inl, inr, List, [], ◌∷◌, ◌++◌, map, Option, Some, None, refl, sym, ◌∙◌, ap, subst, append_assoc}
use Rattle.std.proofs.lemmas.List.{append-nil, append_cancel_left}
use Rattle.ferry_disk.specs.Act.{Step, Act, did, undone, History, with_act}
use Rattle.ferry_disk.specs.Device.{Told}
use Rattle.ferry_disk.specs.Moments.{Between, with_steps, EachMoment, Moments, last_undone, IsMoment}

-- ---- histories with more acts

abbrev pub with_acts : History → List Act → History
with_acts history acts = record history { acts = history.acts ++ acts }

abbrev pub did_all : List Step → List Act
did_all steps = map did steps

-- the act that ends a piece, where its last wasn't done
abbrev pub ending : Option Step → List Act
ending None = []
ending (Some step) = undone step ∷ []

no_acts : (history : History) → with_acts history [] ≡ history
no_acts history = ap (λ acts. record history { acts = acts }) (append-nil history.acts)

acts_behind : (history : History) (act : Act) (acts : List Act)
    → with_acts (record history { acts = history.acts ++ act ∷ [] }) acts ≡ with_acts history (act ∷ acts)
acts_behind history act acts = ap (λ all. record history { acts = all }) (append_assoc history.acts (act ∷ []) acts)

pub steps_acts : (steps : List Step) (history : History) → with_steps steps history ≡ with_acts history (did_all steps)
steps_acts [] history = sym (no_acts history)
steps_acts (step ∷ steps) history = steps_acts steps (with_act step true history) ∙ acts_behind history (did step) (did_all steps)

-- ---- each moment

each_head : (P : History → Type 0) (history : History) (steps : List Step) → EachMoment P history steps → P history
each_head P history [] e = e
each_head P history (step ∷ steps) e = e.0

pub each_moment : (P : History → Type 0) (history : History) (steps : List Step) (end : Option Step) → EachMoment P history steps
    → P (with_acts history (did_all steps ++ ending end)) → (front rest : List Act) → front ++ rest ≡ did_all steps ++ ending end
    → P (with_acts history front) × P (with_acts history (last_undone front))
each_moment P history steps end each last [] rest e =
    let here : P (with_acts history []) = subst P (sym (no_acts history)) (each_head P history steps each) in (here, here)
each_moment P history [] None each last (act ∷ front) rest e = absurd (let no : ⊥ = cc in no)
each_moment P history [] (Some step) each last (act ∷ []) rest e =
    let is : act ≡ undone step = cc in
    (subst (λ a. P (with_acts history (a ∷ []))) (sym is) last, subst (λ a. P (with_acts history (record a { done = false } ∷ []))) (sym is) last)
each_moment P history [] (Some step) each last (act ∷ (next ∷ front)) rest e = absurd (let no : ⊥ = cc in no)
each_moment P history (step ∷ steps) end each last (act ∷ front) rest e =
    let is : act ≡ did step = cc in
    let others : front ++ rest ≡ did_all steps ++ ending end = cc in
    let next = with_act step true history in
    let later : P (with_acts next front) × P (with_acts next (last_undone front)) =
    each_moment P next steps end each.2 (subst P (sym (acts_behind history (did step) (did_all steps ++ ending end))) last) front rest others in (
      subst (λ a. P (with_acts history (a ∷ front))) (sym is) (subst P (acts_behind history (did step) front) later.0),
      subst (λ a. P (with_acts history (last_undone (a ∷ front)))) (sym is) (cut front each.1 later.1),
    ) where
      cut : (front : List Act) → P (with_act step false history) → P (with_acts (with_act step true history) (last_undone front))
          → P (with_acts history (last_undone (did step ∷ front)))
      cut [] now later = now
      cut (x ∷ front) now later = subst P (acts_behind history (did step) (last_undone (x ∷ front))) later

same_acts : (before : History) (acts others : List Act) → with_acts before acts ≡ with_acts before others → acts ≡ others
same_acts before acts others e = append_cancel_left before.acts acts others (ap (λ (h : History). h.acts) e)

at_end : (P : History → Type 0) (before now moment : History) (steps : List Step) (end : Option Step) → EachMoment P before steps → P now
    → now ≡ with_acts before (did_all steps ++ ending end) → IsMoment before now moment → P moment
at_end P before now moment steps end each last e m = by_form m.moment_is where
  both : P (with_acts before m.front) × P (with_acts before (last_undone m.front))
  both =
      each_moment P before steps end each (subst P e last) m.front m.rest
      (same_acts before (m.front ++ m.rest) (did_all steps ++ ending end) (sym m.now_is ∙ e))

  by_form : (moment ≡ with_acts before m.front) ⊎ (moment ≡ with_acts before (last_undone m.front)) → P moment
  by_form (inl f) = subst P (sym f) both.0
  by_form (inr f) = subst P (sym f) both.1

-- how a piece ends
pub steps_end : (before : History) (steps : List Step) → with_steps steps before ≡ with_acts before (did_all steps ++ ending None)
steps_end before steps = steps_acts steps before ∙ ap (with_acts before) (sym (append-nil (did_all steps)))

pub steps_end_undone : (before : History) (steps : List Step) (step : Step)
    → with_act step false (with_steps steps before) ≡ with_acts before (did_all steps ++ ending (Some step))
steps_end_undone before steps step =
    ap (with_act step false) (steps_acts steps before)
    ∙ ap (λ all. record before { acts = all }) (append_assoc before.acts (did_all steps) (undone step ∷ []))

-- what holds by `Moments` holds at each moment
pub all_moments : (P : History → Type 0) (before now : History) → Moments P before now → (moment : History) → IsMoment before now moment → P moment
all_moments P before now m moment is = by_form m.now_is where
  by_form : (now ≡ with_steps m.steps before) ⊎ ((step : Step) × (now ≡ with_act step false (with_steps m.steps before))) → P moment
  by_form (inl e) =
      at_end P before now moment m.steps None m.each m.last
      (e ∙ steps_end before m.steps) is
  by_form (inr p) =
      at_end P before now moment m.steps (Some p.0) m.each m.last
      (p.1 ∙ steps_end_undone before m.steps p.0) is

-- ---- the other way round

all_each : (P : History → Type 0) (history : History) (steps : List Step) (rest : List Act)
    → ((front more : List Act) → front ++ more ≡ did_all steps ++ rest → P (with_acts history front) × P (with_acts history (last_undone front)))
    → EachMoment P history steps
all_each P history [] rest all = subst P (no_acts history) (all [] rest refl).0
all_each P history (step ∷ steps) rest all = (
  subst P (no_acts history) (all [] (did step ∷ (did_all steps ++ rest)) refl).0,
  (all (did step ∷ []) (did_all steps ++ rest) refl).1,
  all_each P (with_act step true history) steps rest (λ front more e.
      let later = all (did step ∷ front) more (ap (λ l. did step ∷ l) e) in
      (subst P (sym (acts_behind history (did step) front)) later.0, cut front later.0 later.1)),
) where
  cut : (front : List Act) → P (with_acts history (did step ∷ front)) → P (with_acts history (last_undone (did step ∷ front)))
      → P (with_acts (with_act step true history) (last_undone front))
  cut [] now later = subst P (sym (acts_behind history (did step) [])) now
  cut (x ∷ front) now later = subst P (sym (acts_behind history (did step) (last_undone (x ∷ front)))) later

ended : (before now : History) (steps : List Step) (end : Option Step) → now ≡ with_acts before (did_all steps ++ ending end)
    → (now ≡ with_steps steps before) ⊎ ((step : Step) × (now ≡ with_act step false (with_steps steps before)))
ended before now steps None e = inl (e ∙ (ap (with_acts before) (append-nil (did_all steps)) ∙ sym (steps_acts steps before)))
ended before now steps (Some step) e =
    inr (
      step,
      e ∙ (sym (ap (λ all. record before { acts = all }) (append_assoc before.acts (did_all steps) (undone step ∷ [])))
          ∙ sym (ap (with_act step false) (steps_acts steps before))),
    )

-- what holds at each moment of a piece whose acts are done but perhaps the last holds by `Moments`
pub moments_all : (P : History → Type 0) (before now : History) (steps : List Step) (end : Option Step)
    → now ≡ with_acts before (did_all steps ++ ending end) → ((moment : History) → IsMoment before now moment → P moment) → Moments P before now
moments_all P before now steps end e all = record {
  steps = steps;
  each = all_each P before steps (ending end) (λ front more f.
      let is : now ≡ with_acts before (front ++ more) = e ∙ ap (with_acts before) (sym f) in (
        all (with_acts before front) (record { front = front; rest = more; now_is = is; moment_is = inl refl }),
        all (with_acts before (last_undone front)) (record { front = front; rest = more; now_is = is; moment_is = inr refl }),
      ));
  now_is = ended before now steps end e;
  last = all now (record {
    front = did_all steps ++ ending end;
    rest = [];
    now_is = e ∙ ap (with_acts before) (sym (append-nil (did_all steps ++ ending end)));
    moment_is = inl e;
  });
}

-- ---- over what devices tell, for the callers of devices

pub between_map : (a b : Option Told) (P Q : History → History → Type 0) → ((before now : History) → P before now → Q before now)
    → Between a b P → Between a b Q
between_map None b P Q step p = tt
between_map (Some a) b P Q step p = (p.0, p.1, step a.history p.0.history p.2)

pub between_then : (a b c : Option Told) (P Q R : History → History → Type 0)
    → ((before mid now : History) → P before mid → Q mid now → R before now) → Between a b P → Between b c Q → Between a c R
between_then None b c P Q R step p q = tt
between_then (Some a) None c P Q R step p q = absurd (let e = p.1 in let no : ⊥ = cc in no)
between_then (Some a) (Some b) c P Q R step p q =
    let same : p.0 ≡ b = (let e = p.1 in cc) in
    (q.0, q.1, step a.history b.history q.0.history (subst (λ (t : Told). P a.history t.history) same p.2) q.2)

pub between_both : (a b : Option Told) (P Q : History → History → Type 0) → Between a b P → Between a b Q
    → Between a b (λ before now. P before now × Q before now)
between_both None b P Q p q = tt
between_both (Some a) b P Q p q =
    let same : q.0 ≡ p.0 = (let e = p.1 in let d = q.1 in cc) in
    (p.0, p.1, (p.2, subst (λ (t : Told). Q a.history t.history) same q.2))
