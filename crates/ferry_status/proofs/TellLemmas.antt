-- Lemmas on a line that is told: what holds at each moment holds behind a Tell.
use Rattle.std.proofs.Common.{◌≡◌, inl, inr, ℕ, Bool, true, List, [], ◌∷◌, ◌++◌, Option, Some, None, Ok, Err, IfSome, refl, sym, subst}
use Rattle.std.specs.FinMap.{get}
use Rattle.ferry_disk.proofs.FaultLemmas.{acts_end}
use Rattle.ferry_disk.proofs.ImageLemmas.{applied-push, fate_of-push}
use Rattle.ferry_disk.proofs.ImageStepLemmas.{tell_step}
use Rattle.ferry_disk.proofs.MomentLemmas.{between_map}
use Rattle.ferry_disk.specs.Act.{Step, TellOf, Act, History, files_now, with_act}
use Rattle.ferry_disk.specs.Device.{Told, Acts, HasCause, RoseWhere, store_failed}
use Rattle.ferry_disk.specs.Faults.{FailedWhere}
use Rattle.ferry_disk.specs.Files.{Files}
use Rattle.ferry_disk.specs.Image.{settled}
use Rattle.ferry_disk.specs.Moments.{Between, Moments}
use Rattle.ferry_disk.specs.declared.shelf.StoreFault.{StoreFault}
use Rattle.ferry_disk.specs.declared.shelf.StoreFault.TheVariants as Shelf
use Rattle.ferry_nonce.specs.Counter.{KeepsNumbers}
use Rattle.ferry_repo.specs.Fault.{repo_failed}
use Rattle.ferry_repo.specs.declared.fault.RepoFault.{RepoFault}
use Rattle.ferry_repo.specs.declared.fault.RepoFault.TheVariants as Repo
use Rattle.ferry_stops.specs.Blobs.{AllTraced, BlobOf}
use Rattle.ferry_stops.specs.Chance.{EachStop, FileByNoChance, IsLeft}
use Rattle.ferry_stops.specs.Counters.{IsKept}
use Rattle.ferry_stops.specs.Entries.{ShowsSomething}
use Rattle.ferry_store.proofs.SoundLemmas.{types_beside}
use Rattle.ferry_store.proofs.StepLemmas.{acts_done, acts_step, moments_then, step_done, step_moments}
use Rattle.ferry_store.specs.Fault.{depot_failed, repo_refusal, store_refusal}
use Rattle.ferry_store.specs.State.{Did, IsStep}
use Rattle.ferry_store.specs.Store.{InitKeeps, KeepsRun, NumbersOn}
use Rattle.ferry_store.specs.Types.{KeepsTypes}
use Rattle.ferry_status.specs.Telling.{RefusesTelling}
use Rattle.ferry_write.proofs.LawLemmas.{beside_blobs, beside_traced}
use Rattle.ferry_write.specs.Script.{AllDone}
use Rattle.ferry_write.specs.Session.{BeginBySettle, SettlesFirst}

-- ---- what a stop leaves behind a Tell

pub tell_left : (line : List ℕ) (done : Bool) (h : History) (image : Files) → IsLeft (with_act (TellOf line) done h) image → IsLeft h image
tell_left line done h image left = record {
  image_is = (tell_step h.start h.acts line done image).0 left.image_is;
  by_no_chance = λ n.
      subst (λ f. FileByNoChance f (get image.segments n)) (fate_of-push h.start h.acts (record { step = TellOf line; done = done }) n) (left.by_no_chance n);
}

pub tell_each : (P : Files → Type 0) (line : List ℕ) (done : Bool) (h : History) → EachStop P h → EachStop P (with_act (TellOf line) done h)
tell_each P line done h each image left = each image (tell_left line done h image left)

tell_back : (line : List ℕ) (done : Bool) (h : History) (blob : List ℕ) → BlobOf (with_act (TellOf line) done h) blob → BlobOf h blob
tell_back line done h blob has = (beside_blobs h (TellOf line) done blob tt).0 has

pub tell_kept : (line : List ℕ) (done : Bool) (h : History) → IsKept h × AllTraced h
    → IsKept (with_act (TellOf line) done h) × AllTraced (with_act (TellOf line) done h)
tell_kept line done h kept = (
  record {
    fresh = record {
      apart = λ a b x y. kept.0.fresh.apart a b (tell_back line done h a x) (tell_back line done h b y);
      above = λ image is.
          let above = kept.0.fresh.above image ((tell_step h.start h.acts line done image).0 is) in record {
            value = above.value;
            nonce = above.nonce;
            above = λ blob number has. above.above blob number (tell_back line done h blob has);
          };
    };
    shows = tell_each ShowsSomething line done h kept.0.shows;
  },
  beside_traced h (TellOf line) done tt kept.1,
)

pub tell_numbers : (line : List ℕ) (done : Bool) (h : History) → KeepsNumbers h → KeepsNumbers (with_act (TellOf line) done h)
tell_numbers line done h keeps number is =
    let kept = keeps number is in
    record {
      blobs = λ blob known. kept.blobs blob (tell_back line done h blob known);
      nonce = λ image left. kept.nonce image ((tell_step h.start h.acts line done image).0 left);
      stays = λ image left some. kept.stays image ((tell_step h.start h.acts line done image).0 left) some;
    }

tell_types : (line : List ℕ) (done : Bool) (h : History) → KeepsTypes h → KeepsTypes (with_act (TellOf line) done h)
tell_types line done h types = types_beside (TellOf line) done h tt types

pub tell_run : (line : List ℕ) (done : Bool) (h : History) → KeepsRun h → KeepsRun (with_act (TellOf line) done h)
tell_run line done h keeps = (tell_numbers line done h keeps.0, tell_types line done h keeps.1)

-- ---- each moment, behind acts that are all done

pub stops_then : (P : Files → Type 0) (line : List ℕ) (h g i : History) → Moments (EachStop P) h g → AllDone h g → IsStep (TellOf line) g i
    → Moments (EachStop P) h i
stops_then P line h g i first done is =
    moments_then (EachStop P) h g i first done (step_moments (EachStop P) (TellOf line) g i first.last (λ d. tell_each P line d g first.last) is)

pub keeps_then : (line : List ℕ) (h g i : History) → InitKeeps h g → AllDone h g → IsStep (TellOf line) g i → InitKeeps h i
keeps_then line h g i keeps done is e kept =
    let P : History → Type 0 = λ k. IsKept k × AllTraced k in
    let first = keeps e kept in
    moments_then P h g i first done (step_moments P (TellOf line) g i first.last (λ d. tell_kept line d g first.last) is)

-- what is kept while a line is told, at each moment of a run that had made no act
pub stays_then : (P : History → Type 0) (line : List ℕ) (h g i : History) → ((done : Bool) (k : History) → P k → P (with_act (TellOf line) done k))
    → (h.acts ≡ [] → Moments P h g) → AllDone h g → IsStep (TellOf line) g i → h.acts ≡ [] → Moments P h i
stays_then P line h g i told stays done is e =
    let first = stays e in moments_then P h g i first done (step_moments P (TellOf line) g i first.last (λ d. told d g first.last) is)

pub numbers_then : (line : List ℕ) (h g i : History) → NumbersOn h g → AllDone h g → IsStep (TellOf line) g i → NumbersOn h i
numbers_then line h g i numbers done is = stays_then KeepsRun line h g i (λ d k. tell_run line d k) numbers done is

-- Some acts were made.
abbrev pub AreSome : List Act → Type 0
AreSome [] = ⊥
AreSome (act ∷ acts) = Unit {0}

pub settled_some : (acts : List Act) → settled acts ≡ true → AreSome acts
settled_some [] is = let no : ⊥ = cc in no
settled_some (act ∷ acts) is = tt

first_more : (acts more : List Act) → AreSome acts → BeginBySettle acts → BeginBySettle (acts ++ more)
first_more [] more some first = absurd some
first_more (act ∷ acts) more some first = first

pub first_then : (step : Step) (h g i : History) → SettlesFirst h g → (h.acts ≡ [] → AreSome g.acts) → IsStep step g i → SettlesFirst h i
first_then step h g i first some (inl same) e = subst (λ (k : History). BeginBySettle k.acts) (sym same) (first e)
first_then step h g i first some (inr act) e =
    subst (λ (k : History). BeginBySettle k.acts) (sym act.1) (first_more g.acts (record { step = step; done = act.0 } ∷ []) (some e) (first e))

-- ---- what a read gives

pub tells_same : (line : List ℕ) (g : History) → files_now (with_act (TellOf line) true g) ≡ files_now g
tells_same line g = applied-push g.start g.acts (record { step = TellOf line; done = true })

-- ---- steps over what a device tells

-- what is known of the end
pub end_known : (P : History → Type 0) (E : History → History → Type 0) (a b : Option Told) → Between a b E → IfSome b (λ t. P t.history)
    → Between a b (λ h g. E h g × P g)
end_known P E None b p k = tt
end_known P E (Some a) b p k = (p.0, p.1, (p.2, subst (λ (x : Option Told). IfSome x (λ t. P t.history)) p.1 k))

pub fail_as : (d e : Bool) (a b : Option Told) → d ≡ e → FailedWhere e a b → FailedWhere d a b
fail_as d e a b same f = subst (λ (x : Bool). FailedWhere x a b) (sym same) f

pub rose_as : (d e : Bool) (n m : ℕ) → d ≡ e → RoseWhere e n m → RoseWhere d n m
rose_as d e n m same r = subst (λ (x : Bool). RoseWhere x n m) (sym same) r

store_is : (fault : StoreFault) → depot_failed (store_refusal fault) ≡ store_failed fault
store_is Shelf.Failed = refl
store_is Shelf.Memory = refl

pub told_line : (step : Step) (a b : Option Told) (n m : ℕ) → Acts {T = Unit {0}} step a b (Ok tt) → HasCause {T = Unit {0}} store_failed n m (Ok tt)
    → Did {T = Unit {0}} (IsStep step) (λ _ h g. g ≡ with_act step true h) a b n m (Ok tt)
told_line step a b n m acts cause = record {
  each = acts_step {T = Unit {0}} step a b (Ok tt) acts;
  end = between_map a b (λ h g. g ≡ with_act step true h) (λ h g. AllDone h g × (g ≡ with_act step true h)) (λ h g is. (step_done step h g is, is))
      (acts_done {T = Unit {0}} step a b tt acts);
  ends = acts_end {T = Unit {0}} step a b (Ok tt) acts;
  cause = cause;
}

pub untold_line : (step : Step) (a b : Option Told) (n m : ℕ) (fault : StoreFault) → Acts {T = Unit {0}} step a b (Err fault)
    → RoseWhere (store_failed fault) n m → Did {T = Unit {0}} (IsStep step) (λ _ h g. g ≡ with_act step true h) a b n m (Err (store_refusal fault))
untold_line step a b n m fault acts cause = record {
  each = acts_step {T = Unit {0}} step a b (Err fault) acts;
  end = tt;
  ends = fail_as (depot_failed (store_refusal fault)) (store_failed fault) a b (store_is fault) (acts_end {T = Unit {0}} step a b (Err fault) acts);
  cause = rose_as (depot_failed (store_refusal fault)) (store_failed fault) n m (store_is fault) cause;
}

-- why a line isn't told
pub refuses_telling : (fault : StoreFault) → RefusesTelling (store_refusal fault)
refuses_telling Shelf.Failed = tt
refuses_telling Shelf.Memory = tt

-- which refusals are of a failed target
pub repo_is : (fault : RepoFault) → depot_failed (repo_refusal fault) ≡ repo_failed fault
repo_is Repo.NoCommit = refl
repo_is (Repo.Damaged segment at) = refl
repo_is (Repo.Config fault) = refl
repo_is (Repo.Key fault) = refl
repo_is (Repo.Missing id) = refl
repo_is (Repo.Blob id fault) = refl
repo_is (Repo.Manifest fault) = refl
repo_is (Repo.Archive id fault) = refl
repo_is (Repo.Item id fault) = refl
repo_is (Repo.Size id) = refl
repo_is (Repo.KeyFile fault) = refl
repo_is (Repo.Other file config) = refl
repo_is Repo.NoKey = refl
repo_is Repo.Device = refl
repo_is Repo.Memory = refl
