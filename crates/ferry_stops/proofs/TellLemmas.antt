-- Lemmas on specs/Tells.antt: which acts, steps and calls tell no line.
use Rattle.std.proofs.Common.{◌≡◌, ℕ, Bool, true, false, List, [], ◌∷◌, ◌++◌, Option, Some, None, Result, Ok, Err, refl, sym, ◌∙◌, ap, append_assoc}
use Rattle.std.specs.List.{AllByRecursion}
use Rattle.std.proofs.lemmas.List.{append-nil}
use Rattle.ferry_disk.proofs.MomentLemmas.{between_then}
use Rattle.ferry_disk.specs.Act.{Step, AppendTo, SyncOf, RemoveOf, ReplaceBy, SettleAll, TellOf, Act, History, with_act}
use Rattle.ferry_disk.specs.Device.{Told, Heard, Acts, KeepsTold, KeptWhere, acted, called, failed_at, heard, heard_of}
use Rattle.ferry_disk.specs.Moments.{Between, EachMoment, with_steps}
use Rattle.ferry_disk.specs.declared.shelf.StoreFault.{StoreFault}
use Rattle.ferry_disk.specs.declared.shelf.StoreFault.TheVariants as Store
use Rattle.ferry_stops.specs.Tells.{TellsNoLine, TellsNothing, line_of, lines_of}

-- ---- lines

pub lines-append : (acts more : List Act) → lines_of (acts ++ more) ≡ lines_of acts ++ lines_of more
unfolding lines_of
lines-append [] more = refl
lines-append (act ∷ acts) more =
    ap (λ (lines : List (List ℕ)). line_of act.step ++ lines) (lines-append acts more)
    ∙ sym (append_assoc (line_of act.step) (lines_of acts) (lines_of more))

pub lines-push : (acts : List Act) (act : Act) → lines_of (acts ++ act ∷ []) ≡ lines_of acts ++ line_of act.step
unfolding lines_of
lines-push acts act =
    lines-append acts (act ∷ []) ∙ ap (λ (lines : List (List ℕ)). lines_of acts ++ lines) (append-nil (line_of act.step))

-- ---- one act

no_line : (step : Step) → TellsNoLine step → line_of step ≡ []
no_line (AppendTo segment bytes) none = refl
no_line (SyncOf segment) none = refl
no_line (RemoveOf segment) none = refl
no_line (ReplaceBy name bytes) none = refl
no_line SettleAll none = refl
no_line (TellOf line) none = absurd none

pub untold_act : (h : History) (step : Step) (done : Bool) → TellsNoLine step → TellsNothing h (with_act step done h)
untold_act h step done none =
    lines-push h.acts (record { step = step; done = done })
    ∙ (ap (λ (lines : List (List ℕ)). lines_of h.acts ++ lines) (no_line step none) ∙ append-nil (lines_of h.acts))

-- the act of a line, done or not
pub line_told : (h : History) (line : List ℕ) (done : Bool) → lines_of (with_act (TellOf line) done h).acts ≡ lines_of h.acts ++ line ∷ []
line_told h line done = lines-push h.acts (record { step = TellOf line; done = done })

-- ---- acts one after another

pub untold_then : (a b c : History) → TellsNothing a b → TellsNothing b c → TellsNothing a c
untold_then a b c p q = q ∙ p

pub untold_steps : (h : History) (steps : List Step) → AllByRecursion TellsNoLine steps → TellsNothing h (with_steps steps h)
untold_steps h [] none = refl
untold_steps h (x ∷ xs) none =
    untold_then h (with_act x true h) (with_steps xs (with_act x true h)) (untold_act h x true none.0) (untold_steps (with_act x true h) xs none.1)

-- at each moment of steps
pub untold_each : (before h : History) (steps : List Step) → AllByRecursion TellsNoLine steps → TellsNothing before h
    → EachMoment (TellsNothing before) h steps
untold_each before h [] none e = e
untold_each before h (x ∷ xs) none e = (
  e,
  untold_then before h (with_act x false h) e (untold_act h x false none.0),
  untold_each before (with_act x true h) xs none.1 (untold_then before h (with_act x true h) e (untold_act h x true none.0)),
)

-- ---- over what devices tell

-- no call
pub told_none : (a : Option Told) → Between a a TellsNothing
told_none None = tt
told_none (Some t) = (t, refl, refl)

-- two bodies in a row
pub told_both : (a b c : Option Told) → Between a b TellsNothing → Between b c TellsNothing → Between a c TellsNothing
told_both a b c p q = between_then a b c TellsNothing TellsNothing TellsNothing untold_then p q

-- a call that writes
pub told_act : {T : Type 0} (step : Step) (a b : Option Told) (result : Result T StoreFault) → TellsNoLine step → Acts step a b result
    → Between a b TellsNothing
told_act step None b result none e = tt
told_act step (Some t) b (Ok x) none e = (acted step true t, e, untold_act t.history step true none)
told_act step (Some t) b (Err Store.Failed) none e = (acted step false t, e, untold_act t.history step false none)
told_act step (Some t) b (Err Store.Memory) none e = (called t, e, refl)

-- a body that reads
kept_ok : (a b : Option Told) → heard b ≡ heard a → Between a b TellsNothing
kept_ok None b e = tt
kept_ok (Some t) None e = absurd (let no : ⊥ = cc in no)
kept_ok (Some t) (Some u) e =
    let same : heard_of u ≡ heard_of t = cc in (u, refl, ap (λ (h : Heard). lines_of h.history.acts) same)

kept_where : (d : Bool) (a b : Option Told) → KeptWhere d (heard a) b → Between a b TellsNothing
kept_where false a b e = kept_ok a b e
kept_where true None b e = tt
kept_where true (Some t) None e = absurd (let no : ⊥ = cc in no)
kept_where true (Some t) (Some u) e =
    let same : heard_of u ≡ failed_at u.calls (heard_of t) = cc in (u, refl, ap (λ (h : Heard). lines_of h.history.acts) same)

pub told_kept : {T F : Type 0} (is_device : F → Bool) (a b : Option Told) (result : Result T F) → KeepsTold is_device a b result → Between a b TellsNothing
told_kept is_device a b (Ok x) e = kept_ok a b e
told_kept is_device a b (Err fault) e = kept_where (is_device fault) a b e
