-- A line that is told changes nothing of what is written.
use Rattle.std.proofs.Common.{◌≡◌, ◌≢◌, ◌⊎◌, inl, inr, ℕ, Bool, true, false, List, [], Option, Ok, Err, IfSome, refl, sym, ◌∙◌, ap, subst}
use Rattle.ferry_base.specs.Limits.{zero_id}
use Rattle.ferry_disk.proofs.FaultLemmas.{acts_end}
use Rattle.ferry_disk.proofs.ImageLemmas.{applied-push}
use Rattle.ferry_disk.proofs.MomentLemmas.{between_map}
use Rattle.ferry_disk.specs.Act.{History, TellOf, files_now, with_act}
use Rattle.ferry_disk.specs.Device.{Told, Acts, HasCause, RoseWhere, store_failed}
use Rattle.ferry_disk.specs.Faults.{FailedWhere}
use Rattle.ferry_disk.specs.Files.{Files}
use Rattle.ferry_disk.specs.Image.{plain_in}
use Rattle.ferry_disk.specs.declared.name.Name.TheVariants.{Config as ConfigFile, Readme}
use Rattle.ferry_disk.specs.declared.shelf.StoreFault.{StoreFault}
use Rattle.ferry_disk.specs.declared.shelf.StoreFault.TheVariants as Shelf
use Rattle.ferry_repo.specs.Opening.{FitsRepo, cached_in, repo_view}
use Rattle.ferry_stops.specs.Blobs.{BlobOf}
use Rattle.ferry_store.proofs.SoundLemmas.{counter_kept, since_beside, types_beside}
use Rattle.ferry_store.proofs.StepLemmas.{acts_done, acts_step, step_done, step_moments}
use Rattle.ferry_store.specs.Content.{IsThere}
use Rattle.ferry_store.specs.Fault.{store_refusal}
use Rattle.ferry_store.specs.Standing.{HoldsLive, entries_of}
use Rattle.ferry_store.specs.State.{AreTaken, IsStep, IsUnderWay, Written}
use Rattle.ferry_store.specs.Store.{IsKnown, StoreFits}
use Rattle.ferry_store.specs.declared.store.Store.{Store}
use Rattle.ferry_write.proofs.LawLemmas.{beside_blobs, beside_fits, beside_rows}
use Rattle.ferry_write.proofs.PlainLemmas.{plain_next}
use Rattle.ferry_write.specs.Script.{AllDone}
use Rattle.ferry_write.specs.Session.{KeepsPlain, rests_at}
use Rattle.ferry_piece.proofs.GatherLemmas.{moved_here}
use Rattle.ferry_piece.proofs.PutsLemmas.{adds_here}
use Rattle.ferry_piece.proofs.GoesLemmas.{goes_same}
use Rattle.ferry_piece.proofs.WorkLemmas.{works_known, works_nothing}
use Rattle.ferry_piece.specs.Adding.{IsNoChunk}
use Rattle.ferry_carry.specs.Chosen.{TellsLine}
use Rattle.ferry_piece.specs.Fault.{target_failed, target_fault}
use Rattle.ferry_piece.specs.Gather.{Gathered, GathersAt, HoldsWithin}
use Rattle.ferry_piece.specs.Puts.{Border}
use Rattle.ferry_piece.specs.Work.{Works}
use Rattle.ferry_piece.specs.declared.fault.CarryFault.{CarryFault}
use Rattle.ferry_piece.specs.declared.fault.CarryFault.TheVariants.{NotFound, Memory}
use Rattle.ferry_piece.proofs.FewLemmas.{used_up}

-- ---- a line that is told, or isn't

-- what a read gives is the same
pub told_same : (line : List ℕ) (done : Bool) (h : History) → files_now (with_act (TellOf line) done h) ≡ files_now h
told_same line true h = applied-push h.start h.acts (record { step = TellOf line; done = true })
told_same line false h = applied-push h.start h.acts (record { step = TellOf line; done = false })

pub files_told : (line : List ℕ) (h : History) → files_now (with_act (TellOf line) true h) ≡ files_now h
files_told line h = applied-push h.start h.acts (record { step = TellOf line; done = true })

told_taken : (free : ℕ) (line : List ℕ) (done : Bool) (h : History) → AreTaken free h → AreTaken free (with_act (TellOf line) done h)
told_taken free line done h taken = record {
  apart = λ a b x y. taken.apart a b (back a x) (back b y);
  below = λ blob number is block. taken.below blob number (back blob is) block;
} where
  back : (blob : List ℕ) → BlobOf (with_act (TellOf line) done h) blob → BlobOf h blob
  back blob = (beside_blobs h (TellOf line) done blob tt).0

told_plain : (line : List ℕ) (done : Bool) (h : History) → KeepsPlain h (with_act (TellOf line) done h)
told_plain line done h name file e =
    step_moments (λ k. plain_in k name ≡ rests_at file) (TellOf line) h (with_act (TellOf line) done h) e (λ d. plain_next h (TellOf line) d name ∙ e)
    (inr (done, refl))

-- a repository that is written is as it was
pub told_stands : (counts : Bool) (store : Store) (written : Written) (line : List ℕ) (done : Bool) (h : History)
    → IsUnderWay counts store.session store.counter written h → IsUnderWay counts store.session store.counter written (with_act (TellOf line) done h)
told_stands counts store written line done h u =
    let step = TellOf line in
    record {
      fits = beside_fits store.session written.committed written.pending h step done tt u.fits;
      rows = beside_rows store.session h step done tt u.rows;
      ends = u.ends;
      counter_fits = counter_kept store.counter h (with_act step done h) (told_plain line done h) u.counter_fits;
      config = plain_next h step done ConfigFile ∙ u.config;
      readme = plain_next h step done Readme ∙ u.readme;
      next = u.next;
      numbers = since_beside store.counter.free step done h tt tt u.counter_fits.free u.numbers;
      types = types_beside step done h tt u.types;
      taken = λ e. told_taken store.counter.free line done h (u.taken e);
    }

-- and the store fits
pub told_fits : (counts : Bool) (store : Store) (line : List ℕ) (h : History) → StoreFits counts store h
    → StoreFits counts store (with_act (TellOf line) true h)
told_fits counts store line h fits =
    let same = sym (files_told line h) in
    let repo = repo_view store.repo in
    record {
      written = fits.written;
      under_way = told_stands counts store fits.written line true h fits.under_way;
      settings = fits.settings;
      repo = subst (λ (f : Files). FitsRepo f repo (cached_in store.repo)) same fits.repo;
      below = fits.below;
      there = subst (λ (f : Files). (id : List ℕ) → id ≢ zero_id → IsKnown store id → IsThere f repo id) same fits.there;
      holds = subst (λ (f : Files). HoldsLive f repo.log (entries_of fits.written)) same fits.holds;
      manifest = fits.manifest;
      keeps = fits.keeps;
      pending = fits.pending;
      chunks = fits.chunks;
      learnt = fits.learnt;
    }

pub told_gathers : (at : Border) (most : ℕ) (store : Store) (line : List ℕ) (h g : History) → TellsLine line h g → GathersAt at most store [] store h g
unfolding told_fits
told_gathers at most store line h g is counts fits =
    subst (λ (k : History). Gathered at most counts store [] store h k fits) (sym is) (record {
      fits_now = told_fits counts store line h fits;
      moved = moved_here (repo_view store.repo).keys fits.written;
      puts = adds_here at (repo_view store.repo).keys most (entries_of fits.written);
      committed = goes_same at (repo_view store.repo).keys most [] fits.written;
      brings = λ scope apart all within. (
        subst (λ (f : Files). HoldsWithin scope f (repo_view store.repo)) (sym (files_told line h)) within,
        tt,
      );
    })

-- ---- the call that tells a line

pub tell_works : (line : List ℕ) (a b : Option Told) (n m : ℕ) → Acts {T = Unit {0}} (TellOf line) a b (Ok tt)
    → HasCause {T = Unit {0}} store_failed n m (Ok tt)
    → Works {T = Unit {0}} (IsStep (TellOf line)) (λ _. TellsLine line) a b n m (Ok tt)
tell_works line a b n m acts cause = record {
  each = acts_step {T = Unit {0}} (TellOf line) a b (Ok tt) acts;
  end = between_map a b (TellsLine line) (λ h g. AllDone h g × TellsLine line h g) (λ h g is. (step_done (TellOf line) h g is, is))
      (acts_done {T = Unit {0}} (TellOf line) a b tt acts);
  ends = acts_end {T = Unit {0}} (TellOf line) a b (Ok tt) acts;
  cause = cause;
}

store_is : (fault : StoreFault) → target_failed (target_fault (store_refusal fault)) ≡ store_failed fault
store_is Shelf.Failed = refl
store_is Shelf.Memory = refl

pub untold_works : (line : List ℕ) (a b : Option Told) (n m : ℕ) (fault : StoreFault) → Acts {T = Unit {0}} (TellOf line) a b (Err fault)
    → RoseWhere (store_failed fault) n m
    → Works {T = Unit {0}} (IsStep (TellOf line)) (λ _. TellsLine line) a b n m (Err (target_fault (store_refusal fault)))
untold_works line a b n m fault acts cause = record {
  each = acts_step {T = Unit {0}} (TellOf line) a b (Err fault) acts;
  end = tt;
  ends = subst (λ (d : Bool). FailedWhere d a b) (sym (store_is fault)) (acts_end {T = Unit {0}} (TellOf line) a b (Err fault) acts);
  cause = subst (λ (d : Bool). RoseWhere d n m) (sym (store_is fault)) cause;
}

-- where no line was told
pub tell_nothing : {T : Type 0} (line : List ℕ) (a : Option Told) (n : ℕ) (fault : CarryFault) → target_failed fault ≡ false
    → Works (IsStep (TellOf line)) (λ (_ : T). TellsLine line) a a n n (Err fault)
tell_nothing {T} line a n fault still = works_nothing (IsStep (TellOf line)) (λ (_ : T). TellsLine line) a n fault still (λ h. inl refl)

-- the store fits behind it
pub tell_fits : {T : Type 0} (store : Store) (line : List ℕ) (a b : Option Told) (n m : ℕ) (x : T) → IfSome a (λ t. StoreFits false store t.history)
    → Works (IsStep (TellOf line)) (λ (_ : T). TellsLine line) a b n m (Ok x) → IfSome b (λ t. StoreFits false store t.history)
tell_fits {T} store line a b n m x fits p =
    works_known (StoreFits false store) (StoreFits false store) (IsStep (TellOf line)) (λ (_ : T). TellsLine line) a b n m x
    (λ h g f is. subst (StoreFits false store) (sym is) (told_fits false store line h f)) fits p

-- ---- from body to body

-- a flight that isn't begun
pub begin_still : (fault : CarryFault) (name : List ℕ) (P : Type 0) → (fault ≡ Memory) ⊎ ((fault ≡ NotFound name) × P) → target_failed fault ≡ false
begin_still fault name P (inl e) = ap target_failed e
begin_still fault name P (inr e) = ap target_failed e.0

pub begin_unbroken : (fault : CarryFault) (name : List ℕ) (P : Type 0) → (fault ≡ Memory) ⊎ ((fault ≡ NotFound name) × P) → IsNoChunk fault
begin_unbroken fault name P (inl e) = subst IsNoChunk (sym e) tt
begin_unbroken fault name P (inr e) = subst IsNoChunk (sym e.0) tt

pub begin_unused : (fault : CarryFault) (name : List ℕ) (P : Type 0) → (fault ≡ Memory) ⊎ ((fault ≡ NotFound name) × P) → fault ≡ used_up → ⊥
begin_unused fault name P (inl e) used = let both = sym e ∙ used in let no : ⊥ = cc in no
begin_unused fault name P (inr e) used = let both = sym e.0 ∙ used in let no : ⊥ = cc in no
