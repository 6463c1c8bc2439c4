-- Lemmas on specs/Steps.antt: a walk whose items are checked so far, one item more, and its end.
use Rattle.std.proofs.Common.{◌≡◌, ◌⊎◌, inl, inr, ℕ, List, [], ◌∷◌, ◌++◌, Option, Some, None, IfSome, refl, sym, ◌∙◌, ap, subst}
use Rattle.std.specs.List.{flat_map}
use Rattle.std.proofs.lemmas.List.{append_assoc, append-nil}
use Rattle.ferry_disk.specs.Device.{Told, told_files, heard}
use Rattle.ferry_disk.specs.Files.{Files}
use Rattle.ferry_disk.proofs.DeviceLemmas.{told_then, told_with}
use Rattle.ferry_item.specs.Item.{ItemText}
use Rattle.ferry_item.specs.declared.item.ChunkRef.{ChunkRef}
use Rattle.ferry_log.specs.State.{FitsFiles}
use Rattle.ferry_repo.specs.Cached.{Contents}
use Rattle.ferry_repo.specs.Opening.{RepoState, FitsRepo}
use Rattle.ferry_repo.specs.Walk.{WalkState, IsToCome, LeadsOn, FitsWalk}
use Rattle.ferry_repo.specs.declared.fault.RepoFault.{RepoFault}
use Rattle.ferry_repo.proofs.WalkLawLemmas.{some_to_come}
use Rattle.ferry_check.specs.Report.{ids_of}
use Rattle.ferry_check.specs.Steps.{Known, Marks, AreRight, RefusesUses, ItemsRight, chunks_of, Answers, GoesOn, ChecksItems, StreamEnds, ItemEnds}
use Rattle.ferry_check.proofs.MarkLemmas.{marks_none, marks_then, right_before, refuse_before, all_then}

-- ---- facts of the files that a shelf tells

pub told_both : (a : Option Told) (P Q : Files → Type 0) → IfSome a (λ t. P (told_files t)) → IfSome a (λ t. Q (told_files t))
    → IfSome a (λ t. P (told_files t) × Q (told_files t))
told_both a P Q p q = told_with a a P Q (λ f. P f × Q f) refl (λ f x y. (x, y)) p q

-- ---- what was right before

pub rights_before : (a b : Known) (ids : List (List ℕ)) (chunks : List ChunkRef) → Marks ids a b → AreRight b chunks → AreRight a chunks
rights_before a b ids [] h r = tt
rights_before a b ids (c ∷ cs) h r = (right_before a b ids c h r.0, rights_before a b ids cs h r.1)

pub refuses_before : (a b : Known) (ids : List (List ℕ)) (chunks : List ChunkRef) (fault : RepoFault) → Marks ids a b → RefusesUses b chunks fault
    → RefusesUses a chunks fault
refuses_before a b ids chunks fault h r = record {
  before = r.before;
  chunk = r.chunk;
  behind = r.behind;
  chunks_are = r.chunks_are;
  right = rights_before a b ids r.before h r.right;
  refused = refuse_before a b ids r.chunk fault h r.refused;
}

-- ---- ids of items

ids-append : (xs ys : List ItemText) → flat_map ids_of (xs ++ ys) ≡ flat_map ids_of xs ++ flat_map ids_of ys
ids-append [] ys = refl
ids-append (x ∷ xs) ys = ap (λ k. ids_of x ++ k) (ids-append xs ys) ∙ sym (append_assoc (ids_of x) (flat_map ids_of xs) (flat_map ids_of ys))

ids-more : (xs : List ItemText) (x : ItemText) → flat_map ids_of (xs ++ (x ∷ [])) ≡ flat_map ids_of xs ++ ids_of x
ids-more xs x = ids-append xs (x ∷ []) ∙ ap (λ k. flat_map ids_of xs ++ k) (append-nil (ids_of x))

-- ---- a walk that goes on

pub goes_begin : (told : Option Told) (repo : RepoState) (walk : WalkState) (known : Known)
    → IfSome told (λ t. FitsWalk (told_files t) repo.log repo.keys walk) → GoesOn told repo walk walk known known
goes_begin told repo walk known fits = record {
  done = [];
  answers = told_then told (λ f. FitsWalk f repo.log repo.keys walk) (λ f. Answers f repo walk [] walk)
      (λ f h. record { leads = λ items end c. c; fits = h }) fits;
  right = tt;
  marks = marks_none known;
}

answers_more : (files : Files) (repo : RepoState) (from now after : WalkState) (done more : List ItemText) → Answers files repo from done now
    → LeadsOn files repo.log repo.keys now more after → FitsWalk files repo.log repo.keys after → Answers files repo from (done ++ more) after
answers_more files repo from now after done more answers leads fits = record {
  leads = λ items end h. subst (λ (is : List ItemText). IsToCome files repo.log repo.keys from is end) (sym (append_assoc done more items))
      (answers.leads (more ++ items) end (leads items end h));
  fits = fits;
}

pub step_over : (told later : Option Told) (repo after_repo : RepoState) (from now after : WalkState) (done more : List ItemText)
    → heard later ≡ heard told → after_repo ≡ repo → IfSome told (λ t. Answers (told_files t) repo from done now)
    → IfSome later (λ t. LeadsOn (told_files t) after_repo.log after_repo.keys now more after)
    → IfSome later (λ t. FitsWalk (told_files t) after_repo.log after_repo.keys after)
    → IfSome told (λ t. Answers (told_files t) repo from (done ++ more) after)
step_over told later repo after_repo from now after done more same same_repo answers leads fits =
    told_with told later (λ f. Answers f repo from done now)
    (λ f. LeadsOn f after_repo.log after_repo.keys now more after × FitsWalk f after_repo.log after_repo.keys after)
    (λ f. Answers f repo from (done ++ more) after) same
    (λ f a both. answers_more f repo from now after done more a
    (subst (λ (r : RepoState). LeadsOn f r.log r.keys now more after) same_repo both.0)
    (subst (λ (r : RepoState). FitsWalk f r.log r.keys after) same_repo both.1))
    answers
    (told_both later (λ f. LeadsOn f after_repo.log after_repo.keys now more after) (λ f. FitsWalk f after_repo.log after_repo.keys after) leads fits)

-- one item more is checked
pub goes_next : (told later : Option Told) (repo after_repo : RepoState) (from now after : WalkState) (before known next : Known) (item : ItemText)
    → heard later ≡ heard told → after_repo ≡ repo → GoesOn told repo from now before known
    → IfSome later (λ t. LeadsOn (told_files t) after_repo.log after_repo.keys now (item ∷ []) after)
    → IfSome later (λ t. FitsWalk (told_files t) after_repo.log after_repo.keys after)
    → AreRight known (chunks_of item) → Marks (ids_of item) known next → GoesOn told repo from after before next
goes_next told later repo after_repo from now after before known next item same same_repo goes leads fits right marks = record {
  done = goes.done ++ (item ∷ []);
  answers = step_over told later repo after_repo from now after goes.done (item ∷ []) same same_repo goes.answers leads fits;
  right = all_then (λ (i : ItemText). AreRight before (chunks_of i)) goes.done (item ∷ []) goes.right
      (rights_before before known (flat_map ids_of goes.done) (chunks_of item) goes.marks right, tt);
  marks = subst (λ (ids : List (List ℕ)). Marks ids before next) (sym (ids-more goes.done item))
      (marks_then before known next (flat_map ids_of goes.done) (ids_of item) goes.marks marks);
}

none_at : (files : Files) (repo : RepoState) (from now : WalkState) (done : List ItemText) (end : Option RepoFault) → Answers files repo from done now
    → IsToCome files repo.log repo.keys now [] end → IsToCome files repo.log repo.keys from done end
none_at files repo from now done end answers come =
    subst (λ (is : List ItemText). IsToCome files repo.log repo.keys from is end) (append-nil done) (answers.leads [] end come)

-- the stream ends whole
pub items_checked : (told later : Option Told) (repo after_repo : RepoState) (from now : WalkState) (before known : Known)
    → heard later ≡ heard told → after_repo ≡ repo → GoesOn told repo from now before known
    → IfSome later (λ t. IsToCome (told_files t) after_repo.log after_repo.keys now [] None) → ChecksItems told repo from before known
items_checked told later repo after_repo from now before known same same_repo goes none = record {
  items = goes.done;
  come = told_with told later (λ f. Answers f repo from goes.done now) (λ f. IsToCome f after_repo.log after_repo.keys now [] None)
      (λ f. IsToCome f repo.log repo.keys from goes.done None) same
      (λ f a come. none_at f repo from now goes.done None a (subst (λ (r : RepoState). IsToCome f r.log r.keys now [] None) same_repo come))
      goes.answers none;
  right = goes.right;
  marks = goes.marks;
}

-- the stream ends with a fault
pub stream_refused : (told later : Option Told) (repo after_repo : RepoState) (from now : WalkState) (before known : Known) (fault : RepoFault)
    → heard later ≡ heard told → after_repo ≡ repo → GoesOn told repo from now before known
    → IfSome later (λ t. IsToCome (told_files t) after_repo.log after_repo.keys now [] (Some fault))
    → IfSome told (λ t. StreamEnds (told_files t) repo from before fault ⊎ ItemEnds (told_files t) repo from before fault)
stream_refused told later repo after_repo from now before known fault same same_repo goes refused =
    told_with told later (λ f. Answers f repo from goes.done now) (λ f. IsToCome f after_repo.log after_repo.keys now [] (Some fault))
    (λ f. StreamEnds f repo from before fault ⊎ ItemEnds f repo from before fault) same
    (λ f a come. inl (record {
      items = goes.done;
      come = none_at f repo from now goes.done (Some fault) a (subst (λ (r : RepoState). IsToCome f r.log r.keys now [] (Some fault)) same_repo come);
      right = goes.right;
    }))
    goes.answers refused

-- the log of a repository that fits does
pub log_fits : (told : Option Told) (repo : RepoState) (cached : Contents) → IfSome told (λ t. FitsRepo (told_files t) repo cached)
    → IfSome told (λ t. FitsFiles (told_files t) repo.log)
log_fits told repo cached fits = told_then told (λ f. FitsRepo f repo cached) (λ f. FitsFiles f repo.log) (λ f h. h.log) fits

item_ends : (files : Files) (repo : RepoState) (from after : WalkState) (done : List ItemText) (item : ItemText) (before known : Known)
    (fault : RepoFault) → FitsFiles files repo.log → Answers files repo from (done ++ (item ∷ [])) after → ItemsRight before done
    → RefusesUses before (chunks_of item) fault → ItemEnds files repo from before fault
item_ends files repo from after done item before known fault fits answers right refused =
    let m = some_to_come files repo.log repo.keys after fits in
    record {
      before = done;
      item = item;
      behind = m.0;
      end = m.1.0;
      come = subst (λ (is : List ItemText). IsToCome files repo.log repo.keys from is m.1.0) (append_assoc done (item ∷ []) m.0)
          (answers.leads m.0 m.1.0 m.1.1);
      right = right;
      refused = refused;
    }

-- a chunk of an item isn't right
pub item_refused : (told later : Option Told) (repo after_repo : RepoState) (from now after : WalkState) (before known : Known) (item : ItemText)
    (fault : RepoFault) → heard later ≡ heard told → after_repo ≡ repo → IfSome told (λ t. FitsFiles (told_files t) repo.log)
    → GoesOn told repo from now before known
    → IfSome later (λ t. LeadsOn (told_files t) after_repo.log after_repo.keys now (item ∷ []) after)
    → IfSome later (λ t. FitsWalk (told_files t) after_repo.log after_repo.keys after)
    → RefusesUses known (chunks_of item) fault
    → IfSome told (λ t. StreamEnds (told_files t) repo from before fault ⊎ ItemEnds (told_files t) repo from before fault)
item_refused told later repo after_repo from now after before known item fault same same_repo repo_fits goes leads fits refused =
    told_then told (λ f. FitsFiles f repo.log × Answers f repo from (goes.done ++ (item ∷ [])) after)
    (λ f. StreamEnds f repo from before fault ⊎ ItemEnds f repo from before fault)
    (λ f both. inr (item_ends f repo from after goes.done item before known fault both.0 both.1 goes.right
    (refuses_before before known (flat_map ids_of goes.done) (chunks_of item) fault goes.marks refused)))
    (told_both told (λ f. FitsFiles f repo.log) (λ f. Answers f repo from (goes.done ++ (item ∷ [])) after) repo_fits
    (step_over told later repo after_repo from now after goes.done (item ∷ []) same same_repo goes.answers leads fits))
