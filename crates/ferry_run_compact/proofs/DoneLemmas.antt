-- Lemmas on the command that compacts a repository: where segments were compacted, each act was done.
use Rattle.std.proofs.Common.{◌≡◌, ◌⊎◌, inl, inr, ℕ, suc, Bool, true, false, List, [], ◌∷◌, ◌++◌, map, Ok}
use Rattle.std.proofs.Common.{refl, sym, ◌∙◌, ap, subst}
use Rattle.ferry_compact.specs.Choice.{chosen_in, is_idle}
use Rattle.ferry_compact.specs.Compact.{Compacts}
use Rattle.ferry_config.specs.Config.{config_of}
use Rattle.ferry_config.specs.declared.config.Config.{Config}
use Rattle.ferry_disk.proofs.MomentLemmas.{did_all, steps_acts}
use Rattle.ferry_disk.specs.Act.{Act, History, RemoveOf, SettleAll, Step, did, files_now, undone, with_act}
use Rattle.ferry_disk.specs.Files.{contents_at, file_at}
use Rattle.ferry_disk.specs.Image.{plain_in}
use Rattle.ferry_disk.specs.Moments.{Moments, with_steps}
use Rattle.ferry_disk.specs.declared.name.Name.TheVariants.{Config as ConfigFile, Segment}
use Rattle.ferry_log.specs.State.{IsStateOf, LogState}
use Rattle.ferry_status.proofs.TellLemmas.{AreSome}
use Rattle.ferry_write.specs.Script.{AllDone, numbers_from}
use Rattle.ferry_write.specs.Session.{KeepsPlain, rests_at}
use Rattle.ferry_run_compact.proofs.PlainLemmas.{segment_plain}

-- whether the last of these acts is done
abbrev last_done : List Act → Bool
last_done [] = true
last_done (act ∷ []) = act.done
last_done (act ∷ (next ∷ acts)) = last_done (next ∷ acts)

last_done-push : (acts : List Act) (act : Act) → last_done (acts ++ act ∷ []) ≡ act.done
last_done-push [] act = refl
last_done-push (first ∷ []) act = refl
last_done-push (first ∷ (next ∷ acts)) act = last_done-push (next ∷ acts) act

steps_last : (steps : List Step) (h : History) → last_done h.acts ≡ true → last_done (with_steps steps h).acts ≡ true
steps_last [] h e = e
steps_last (step ∷ steps) h e = steps_last steps (with_act step true h) (last_done-push h.acts (did step))

some_behind : (acts more : List Act) (act : Act) → AreSome (acts ++ act ∷ more)
some_behind [] more act = tt
some_behind (first ∷ acts) more act = tt

steps_some : (step : Step) (steps : List Step) (h : History) → AreSome (with_steps (step ∷ steps) h).acts
steps_some step steps h =
    subst (λ (k : History). AreSome k.acts) (sym (steps_acts (step ∷ steps) h)) (some_behind h.acts (did_all steps) (did step))

-- where segments were removed, the last act is done, and so is each before
removed_done : (chosen : List ℕ) (transaction : ℕ) (h g w : History) → is_idle transaction chosen ≡ false → g ≡ with_steps (map RemoveOf chosen) w
    → KeepsPlain h g → AllDone h g × AreSome g.acts
removed_done [] transaction h g w idle removes plain = absurd (let no : ⊥ = cc in no)
removed_done (n ∷ chosen) transaction h g w idle removes plain = (
  by_end moments.now_is,
  subst (λ (k : History). AreSome k.acts) (sym removes) (steps_some (RemoveOf n) (map RemoveOf chosen) w),
) where
  moments : Moments (λ k. plain_in k (Segment 0) ≡ rests_at (file_at h.start (Segment 0))) h g
  moments = plain (Segment 0) (file_at h.start (Segment 0)) (segment_plain h 0)

  ends : last_done g.acts ≡ true
  ends =
      subst (λ (k : History). last_done k.acts ≡ true) (sym removes)
      (steps_last (map RemoveOf chosen) (with_act (RemoveOf n) true w) (last_done-push w.acts (did (RemoveOf n))))

  by_end : (g ≡ with_steps moments.steps h) ⊎ ((step : Step) × (g ≡ with_act step false (with_steps moments.steps h))) → AllDone h g
  by_end (inl e) = (moments.steps, e)
  by_end (inr p) =
      let undone_last : last_done g.acts ≡ false =
      ap (λ (k : History). last_done k.acts) p.1 ∙ last_done-push (with_steps moments.steps h).acts (undone p.0) in
      let both : true ≡ false = sym ends ∙ undone_last in absurd (let no : ⊥ = cc in no)

pub compacts_done : (limit : ℕ) (state : LogState) (threshold count : ℕ) (h g : History) → IsStateOf (files_now h) state → KeepsPlain h g
    → Compacts limit state threshold count h g → AllDone h g × AreSome g.acts
compacts_done limit state threshold count h g is plain compacts = by_idle (is_idle state.transaction chosen) refl where
  chosen : List ℕ
  chosen = chosen_in threshold state.extents

  by_idle : (b : Bool) → is_idle state.transaction chosen ≡ b → AllDone h g × AreSome g.acts
  by_idle true e =
      let rest = map RemoveOf (numbers_from (suc state.transaction) (files_now h)) in
      let does = ((compacts is.log is.is).idle e).1 in
      ((SettleAll ∷ rest, does), subst (λ (k : History). AreSome k.acts) (sym does) (steps_some SettleAll rest h))
  by_idle false e =
      let moved = ((compacts is.log is.is).moved e).1 in removed_done chosen state.transaction h g moved.written e moved.removes plain

-- What is known where segments were compacted.
pub record Knows (state : LogState) (threshold count : ℕ) (before now : History) : Type 0 where
  pub is : IsStateOf (files_now before) state
  pub config : Config
  pub settings : config_of (contents_at (files_now before) ConfigFile) ≡ Ok config
  pub compacts : Compacts config.limit state threshold count before now
  pub some : AreSome now.acts
