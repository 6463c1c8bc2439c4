-- Lemmas on specs/Chance.antt of ferry_stops: what a read gives is left by a stop by no chance, also where the last act isn't done.
use Rattle.std.proofs.Common.{◌≡◌, ◌⊎◌, inl, inr, ℕ, zero, suc, ◌+◌, ◌≤◌, nat_eq, Bool, true, false, List, [], ◌∷◌, ◌++◌, length, take, drop}
use Rattle.std.proofs.Common.{Option, Some, None, if◌then◌else◌, refl, sym, ◌∙◌, ap, subst, arith, length-drop}
use Rattle.std.specs.FinMap.{get}
use Rattle.std.specs.List.{AllByRecursion}
use Rattle.std.proofs.lemmas.List.{length-take, take-append-le, drop-append-le}
use Rattle.ferry_disk.specs.Act.{Step, AppendTo, SyncOf, RemoveOf, ReplaceBy, SettleAll, TellOf, Act, did, undone, History, applied, files_now, with_act}
use Rattle.ferry_disk.specs.Files.{Files}
use Rattle.ferry_disk.specs.Image.{Fate, at_rest, fate_of, fate_appended, fate_removed, fate_synced, fate_stepped, settled}
use Rattle.ferry_disk.specs.Moments.{Moments, with_steps}
use Rattle.ferry_disk.proofs.ImageLemmas.{applied-push, fate_of-push, or_false, read_is_image, settled-push, start_is_image}
use Rattle.ferry_disk.proofs.MomentLemmas.{did_all, steps_acts, steps_end_undone, with_acts}
use Rattle.ferry_segment.specs.Entry.{spelling, size_of}
use Rattle.ferry_segment.proofs.EntryLemmas.{length-spelling}
use Rattle.ferry_stops.specs.Chance.{place_behind, all_bytes, FileByNoChance, IsLeft}
use Rattle.ferry_stops.proofs.NowLemmas.{now_left as done_left}
use Rattle.ferry_stops.proofs.ReadLemmas.{taken_there}
use Rattle.ferry_write.specs.Session.{BeginBySettle, SettlesFirst}

-- ---- one act more that isn't done

-- what stands wholly in a front stands there whatever follows
stands_still : (n m : ℕ) (front rest spelled : List ℕ) → length spelled ≡ n → take n (drop m front) ≡ spelled → take n (drop m (front ++ rest)) ≡ spelled
stands_still zero m front rest spelled long here = here
stands_still (suc n) m front rest spelled long here =
    let within : m + suc n ≤ length front = omega (arith, long, ap length here, length-take (suc n) (drop m front), length-drop m front) in
    ap (take (suc n)) (drop-append-le m front rest (omega (arith, within)))
    ∙ (take-append-le (suc n) (drop m front) rest (omega (arith, within, length-drop m front)) ∙ here)

appended_chance : (more : List ℕ) (fate : Fate) (file : Option (List ℕ)) → FileByNoChance fate file → FileByNoChance (fate_appended more false fate) file
appended_chance more fate None chance = tt
appended_chance more fate (Some bytes) chance =
    λ before entry reads outside. stands_still (size_of entry) (place_behind before) (all_bytes fate) more (spelling entry) (length-spelling entry)
    (chance before entry reads outside)

removed_chance : (fate : Fate) (file : Option (List ℕ)) → FileByNoChance fate file → FileByNoChance (fate_removed false fate) file
removed_chance fate None chance = tt
removed_chance fate (Some bytes) chance = chance

either_chance : (b : Bool) (changed fate : Fate) (file : Option (List ℕ)) → FileByNoChance changed file → FileByNoChance fate file
    → FileByNoChance (if b then changed else fate) file
either_chance true changed fate file later chance = later
either_chance false changed fate file later chance = chance

undone_chance : (n : ℕ) (step : Step) (fate : Fate) (file : Option (List ℕ)) → FileByNoChance fate file
    → FileByNoChance (fate_stepped n step false fate) file
undone_chance n (AppendTo k more) fate file chance =
    either_chance (nat_eq n k) (fate_appended more false fate) fate file (appended_chance more fate file chance) chance
undone_chance n (SyncOf k) fate file chance = either_chance (nat_eq n k) (fate_synced false fate) fate file chance chance
undone_chance n (RemoveOf k) fate file chance =
    either_chance (nat_eq n k) (fate_removed false fate) fate file (removed_chance fate file chance) chance
undone_chance n (ReplaceBy name bytes) fate file chance = chance
undone_chance n SettleAll fate file chance = chance
undone_chance n (TellOf line) fate file chance = chance

-- ---- before the first Settle is done

rest_chance : (file : Option (List ℕ)) → FileByNoChance (at_rest file) file
rest_chance None = tt
rest_chance (Some bytes) = λ before entry reads outside. taken_there bytes before entry reads

abbrev IsLeftNow : History → Type 0
IsLeftNow history = IsLeft history (files_now history)

-- the history with these acts
abbrev acts_of : History → List Act → History
acts_of history acts = record history { acts = acts }

start_left : (history : History) → IsLeftNow (acts_of history [])
unfolding fate_of
start_left history = record {
  image_is = start_is_image history.start [] refl;
  by_no_chance = λ n. rest_chance (get history.start.segments n);
}

unsettled_left : (history : History) → IsLeftNow (acts_of history (undone SettleAll ∷ []))
unfolding fate_of
unsettled_left history = record {
  image_is = start_is_image history.start (undone SettleAll ∷ []) refl;
  by_no_chance = λ n. rest_chance (get history.start.segments n);
}

-- ---- from then on

settled_first : (step : Step) (acts : List Act) → step ≡ SettleAll → settled (did step ∷ acts) ≡ true
settled_first step acts e = ap (λ (s : Step). settled (did s ∷ acts)) e

all_did : (steps : List Step) → AllByRecursion (λ (a : Act). a.done ≡ true) (did_all steps)
all_did [] = tt
all_did (step ∷ steps) = (refl, all_did steps)

-- where each act is done
did_left : (history : History) (steps : List Step) → BeginBySettle (did_all steps) → IsLeftNow (acts_of history (did_all steps))
did_left history [] begins = start_left history
did_left history (step ∷ steps) begins =
    done_left (acts_of history (did_all (step ∷ steps))) (all_did (step ∷ steps)) (settled_first step (did_all steps) begins)

-- with one act more that isn't done
more_left : (history : History) (acts : List Act) (step : Step) → settled acts ≡ true → IsLeftNow (acts_of history acts)
    → IsLeftNow (acts_of history (acts ++ undone step ∷ []))
more_left history acts step is_settled left = record {
  image_is = read_is_image history.start (acts ++ undone step ∷ [])
      (settled-push acts (undone step) ∙ (or_false (settled acts) ∙ is_settled));
  by_no_chance = λ n.
      subst (λ (f : Files). FileByNoChance (fate_of history.start (acts ++ undone step ∷ []) n) (get f.segments n))
      (sym (applied-push history.start acts (undone step)))
      (subst (λ (f : Fate). FileByNoChance f (get (applied history.start acts).segments n)) (sym (fate_of-push history.start acts (undone step) n))
      (undone_chance n step (fate_of history.start acts n) (get (applied history.start acts).segments n) (left.by_no_chance n)));
}

undone_left : (history : History) (steps : List Step) (step : Step) → BeginBySettle (did_all steps ++ undone step ∷ [])
    → IsLeftNow (acts_of history (did_all steps ++ undone step ∷ []))
undone_left history [] step begins =
    subst (λ (s : Step). IsLeftNow (acts_of history (undone s ∷ []))) (sym begins) (unsettled_left history)
undone_left history (first ∷ steps) step begins =
    more_left history (did_all (first ∷ steps)) step (settled_first first (did_all steps) begins) (did_left history (first ∷ steps) begins)

-- what a read gives at the end of a run is what a stop may leave then, by no chance
pub now_left : (P : History → Type 0) (h g : History) → h.acts ≡ [] → SettlesFirst h g → Moments P h g → IsLeft g (files_now g)
now_left P h g begun settles moments = by_end moments.now_is where
  ends_with : (acts : List Act) → g ≡ with_acts h acts → g ≡ acts_of h acts
  ends_with acts e = e ∙ ap (λ (l : List Act). acts_of h (l ++ acts)) begun

  left_with : (acts : List Act) → g ≡ with_acts h acts → (BeginBySettle acts → IsLeftNow (acts_of h acts)) → IsLeftNow g
  left_with acts e left =
      let is = ends_with acts e in
      subst IsLeftNow (sym is) (left (subst (λ (k : History). BeginBySettle k.acts) is (settles begun)))

  by_end : (g ≡ with_steps moments.steps h) ⊎ ((step : Step) × (g ≡ with_act step false (with_steps moments.steps h))) → IsLeftNow g
  by_end (inl e) = left_with (did_all moments.steps) (e ∙ steps_acts moments.steps h) (did_left h moments.steps)
  by_end (inr p) =
      left_with (did_all moments.steps ++ undone p.0 ∷ []) (p.1 ∙ steps_end_undone h moments.steps p.0) (undone_left h moments.steps p.0)
