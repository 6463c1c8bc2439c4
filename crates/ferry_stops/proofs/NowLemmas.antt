-- Lemmas on specs/Chance.antt: what a read gives is left by a stop by no chance, where each act is done.
use Rattle.std.proofs.Common.{◌≡◌, ℕ, nat_eq, Bool, true, false, List, [], ◌∷◌, ◌++◌, fold, Option, Some, None, unwrap_or, if◌then◌else◌, refl, sym, ap, subst}
use Rattle.std.specs.List.{AllByRecursion}
use Rattle.ferry_disk.specs.Act.{Step, AppendTo, SyncOf, RemoveOf, ReplaceBy, SettleAll, TellOf, Act, History, files_now}
use Rattle.ferry_disk.specs.Image.{Fate, fate_of, fate_in, fate_after, fate_stepped, fate_appended, fate_synced, fate_removed, settled}
use Rattle.ferry_disk.proofs.ImageLemmas.{fate_read, read_is_image}
use Rattle.ferry_stops.specs.Chance.{ReadsThen, IsLeft, FileByNoChance}
use Rattle.ferry_stops.proofs.ReadLemmas.{taken_there}

-- ---- all is what a read gives

appended_same : (bytes : List ℕ) (fate : Fate) (b : Bool) → fate.all ≡ fate.read
    → (if b then fate_appended bytes true fate else fate).all ≡ (if b then fate_appended bytes true fate else fate).read
appended_same bytes fate true h = ap (λ (o : Option (List ℕ)). Some (unwrap_or o [] ++ bytes)) h
appended_same bytes fate false h = h

synced_same : (fate : Fate) (b : Bool) → fate.all ≡ fate.read
    → (if b then fate_synced true fate else fate).all ≡ (if b then fate_synced true fate else fate).read
synced_same fate true h = h
synced_same fate false h = h

removed_same : (fate : Fate) (b : Bool) → fate.all ≡ fate.read
    → (if b then fate_removed true fate else fate).all ≡ (if b then fate_removed true fate else fate).read
removed_same fate true h = refl
removed_same fate false h = h

step_same : (n : ℕ) (step : Step) (done : Bool) (fate : Fate) → done ≡ true → fate.all ≡ fate.read
    → (fate_stepped n step done fate).all ≡ (fate_stepped n step done fate).read
step_same n step false fate e h = absurd (let no : ⊥ = cc in no)
step_same n (AppendTo k bytes) true fate e h = appended_same bytes fate (nat_eq n k) h
step_same n (SyncOf k) true fate e h = synced_same fate (nat_eq n k) h
step_same n (RemoveOf k) true fate e h = removed_same fate (nat_eq n k) h
step_same n (ReplaceBy name bytes) true fate e h = h
step_same n SettleAll true fate e h = refl
step_same n (TellOf line) true fate e h = h

acts_same : (n : ℕ) (acts : List Act) (fate : Fate) → AllByRecursion (λ (a : Act). a.done ≡ true) acts → fate.all ≡ fate.read
    → (fold (fate_after n) fate acts).all ≡ (fold (fate_after n) fate acts).read
acts_same n [] fate all h = h
acts_same n (act ∷ acts) fate all h = acts_same n acts (fate_after n fate act) all.1 (step_same n act.step act.done fate all.0 h)

all_read : (history : History) (n : ℕ) → AllByRecursion (λ (a : Act). a.done ≡ true) history.acts → (fate_in history n).all ≡ (fate_in history n).read
unfolding fate_of
all_read history n all = acts_same n history.acts _ all refl

-- ---- by no chance

chance_read : (fate : Fate) (file : Option (List ℕ)) → fate.all ≡ file → FileByNoChance fate file
chance_read fate None e = tt
chance_read fate (Some bytes) e =
    λ before entry reads outside. taken_there (unwrap_or fate.all []) before entry
    (subst (λ (o : Option (List ℕ)). ReadsThen (unwrap_or o []) before entry) (sym e) reads)

pub now_left : (history : History) → AllByRecursion (λ (a : Act). a.done ≡ true) history.acts → settled history.acts ≡ true
    → IsLeft history (files_now history)
now_left history all is_settled = record {
  image_is = read_is_image history.start history.acts is_settled;
  by_no_chance = λ n. subst (FileByNoChance (fate_in history n)) (fate_read history.start history.acts n)
      (chance_read (fate_in history n) (fate_in history n).read (all_read history n all));
}
