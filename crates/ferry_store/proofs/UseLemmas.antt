-- A store fits from call to call.
use Rattle.std.proofs.Common.{◌≡◌, ℕ, Bool, true, false, List, [], ◌∷◌, ◌++◌, Option, Some, None, Ok, IfSome, sym, subst}
use Rattle.ferry_disk.specs.Act.{History}
use Rattle.ferry_disk.specs.Device.{Told}
use Rattle.ferry_store.proofs.DropLemmas.{fits_whole}
use Rattle.ferry_store.proofs.StepLemmas.{known_end, known_then}
use Rattle.ferry_store.specs.Adding.{Adds}
use Rattle.ferry_repo.specs.declared.fault.RepoFault.{RepoFault}
use Rattle.ferry_store.proofs.WritingLemmas.{fits_writing, without_writing}
use Rattle.ferry_store.specs.Dropping.{BareFits, Drops, FitsWithout, IsWriting, OpenBareFits}
use Rattle.ferry_store.specs.State.{Did, KeepsSound}
use Rattle.ferry_store.specs.Store.{InitFits, OpenFits, StoreFits}
use Rattle.ferry_store.specs.declared.content.Added.{Added}
use Rattle.ferry_store.specs.declared.store.Store.{Store}
use Rattle.ferry_write.specs.Script.{AllDone}

-- a store that was made by a run that had made no act
pub fits_begun : (E : History → History → Type 0) (store : Store) (a b : Option Told) (n m : ℕ) → IfSome a (λ t. t.history.acts ≡ [])
    → Did E InitFits a b n m (Ok store) → IfSome b (λ t. StoreFits false store t.history)
fits_begun E store a b n m begun p =
    known_end (λ h. StoreFits false store h) (λ h g. (h.acts ≡ []) × (AllDone h g × InitFits store h g)) a b p.ends
    (λ h g e. e.1.1 false e.0 (λ c. absurd (let no : ⊥ = cc in no)))
    (known_then (λ h. h.acts ≡ []) (λ h g. AllDone h g × InitFits store h g) a b begun p.end)

-- a store that was opened by one
pub fits_opened : (E : History → History → Type 0) (store : Store) (a b : Option Told) (n m : ℕ) → IfSome a (λ t. t.history.acts ≡ [])
    → Did E OpenFits a b n m (Ok store) → IfSome b (λ t. StoreFits false store t.history)
fits_opened E store a b n m begun p =
    known_end (λ h. StoreFits false store h) (λ h g. (h.acts ≡ []) × (AllDone h g × OpenFits store h g)) a b p.ends
    (λ h g e. (e.1.1 false e.0 (λ c. absurd (let no : ⊥ = cc in no))).fits)
    (known_then (λ h. h.acts ≡ []) (λ h g. AllDone h g × OpenFits store h g) a b begun p.end)

-- a store that was opened without its manifest writes
pub bare_writing : (E : History → History → Type 0) (store : Store) (fault : Option RepoFault) (a b : Option Told) (n m : ℕ)
    → IfSome a (λ t. t.history.acts ≡ []) → Did {T = Store × Option RepoFault} E OpenBareFits a b n m (Ok (store, fault))
    → IfSome b (λ t. IsWriting store t.history)
bare_writing E store None a b n m begun p =
    known_end (λ h. IsWriting store h) (λ h g. (h.acts ≡ []) × (AllDone h g × OpenFits store h g)) a b p.ends
    (λ h g e. fits_writing false store g (e.1.1 false e.0 (λ c. absurd (let no : ⊥ = cc in no))).fits)
    (known_then (λ h. h.acts ≡ []) (λ h g. AllDone h g × OpenFits store h g) a b begun p.end)
bare_writing E store (Some fault) a b n m begun p =
    known_end (λ h. IsWriting store h) (λ h g. (h.acts ≡ []) × (AllDone h g × BareFits store h g)) a b p.ends
    (λ h g e. without_writing false false [] store g (e.1.1 false e.0 (λ c. absurd (let no : ⊥ = cc in no))).fits)
    (known_then (λ h. h.acts ≡ []) (λ h g. AllDone h g × BareFits store h g) a b begun p.end)

-- a store with a content added
pub fits_added : (store now : Store) (content : List ℕ) (added : Added) (a b : Option Told) (n m : ℕ) → IfSome a (λ t. StoreFits false store t.history)
    → Did {T = Added} (KeepsSound store.session store.counter) (Adds store content now) a b n m (Ok added) → IfSome b (λ t. StoreFits false now t.history)
fits_added store now content added a b n m fits p =
    known_end (λ h. StoreFits false now h) (λ h g. StoreFits false store h × (AllDone h g × Adds store content now added h g)) a b p.ends
    (λ h g e. (e.1.1 false e.0).0)
    (known_then (λ h. StoreFits false store h) (λ h g. AllDone h g × Adds store content now added h g) a b fits p.end)

-- a store with an archive accepted
pub fits_named : (store now : Store) (a : Option Told) → now ≡ record store { accepted = now.accepted } → IfSome a (λ t. StoreFits false store t.history)
    → IfSome a (λ t. StoreFits false now t.history)
fits_named store now None same fits = tt
fits_named store now (Some t) same fits =
    subst (λ (s : Store). StoreFits false s t.history) (sym same)
    (record {
      written = fits.written;
      under_way = fits.under_way;
      settings = fits.settings;
      repo = fits.repo;
      below = fits.below;
      there = fits.there;
      holds = fits.holds;
      manifest = fits.manifest;
      keeps = fits.keeps;
      pending = fits.pending;
      chunks = fits.chunks;
      learnt = fits.learnt;
    })

-- a store from which no chunk was dropped
pub fits_first : (counts : Bool) (store : Store) (a : Option Told) → IfSome a (λ t. StoreFits counts store t.history)
    → IfSome a (λ t. FitsWithout counts [] store t.history)
fits_first counts store None fits = tt
fits_first counts store (Some t) fits = fits_whole counts store t.history fits

-- a store from which one chunk more was dropped
pub fits_dropped : (counts : Bool) (store now : Store) (dropped : List (List ℕ)) (id : List ℕ) (a b : Option Told) (n m : ℕ) (x : Unit {0})
    → IfSome a (λ t. FitsWithout counts dropped store t.history)
    → Did {T = Unit {0}} (KeepsSound store.session store.counter) (λ _. Drops store id now) a b n m (Ok x)
    → IfSome b (λ t. FitsWithout counts (dropped ++ id ∷ []) now t.history)
fits_dropped counts store now dropped id a b n m x fits p =
    known_end (λ h. FitsWithout counts (dropped ++ id ∷ []) now h)
    (λ h g. FitsWithout counts dropped store h × (AllDone h g × Drops store id now h g)) a b p.ends
    (λ h g e. (e.1.1 true counts dropped e.0).0)
    (known_then (λ h. FitsWithout counts dropped store h) (λ h g. AllDone h g × Drops store id now h g) a b fits p.end)
