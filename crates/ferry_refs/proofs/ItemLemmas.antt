-- Lemmas on specs/Steps.antt: a walk whose items are counted so far, one item more, and its end.
use Rattle.std.proofs.Common.{◌≡◌, ℕ, List, [], ◌∷◌, ◌++◌, Option, Some, None, IfSome, refl, sym, ◌∙◌, ap, subst}
use Rattle.std.specs.List.{flat_map}
use Rattle.std.proofs.lemmas.List.{append_assoc, append-nil}
use Rattle.ferry_check.specs.Report.{ids_of}
use Rattle.ferry_check.specs.Steps.{Answers}
use Rattle.ferry_check.proofs.ItemLemmas.{step_over}
use Rattle.ferry_disk.specs.Device.{Told, told_files, heard}
use Rattle.ferry_disk.specs.Files.{Files}
use Rattle.ferry_disk.proofs.DeviceLemmas.{told_then, told_with}
use Rattle.ferry_item.specs.Item.{ItemText}
use Rattle.ferry_repo.specs.Opening.{RepoState}
use Rattle.ferry_repo.specs.Walk.{WalkState, IsToCome, LeadsOn, FitsWalk}
use Rattle.ferry_repo.specs.declared.fault.RepoFault.{RepoFault}
use Rattle.ferry_refs.specs.Steps.{Tally, Adds, GoesOn, CountsItems, StreamEnds}
use Rattle.ferry_refs.proofs.CountLemmas.{adds_none, adds_then}

-- ---- ids of items

ids-append : (xs ys : List ItemText) → flat_map ids_of (xs ++ ys) ≡ flat_map ids_of xs ++ flat_map ids_of ys
ids-append [] ys = refl
ids-append (x ∷ xs) ys = ap (λ k. ids_of x ++ k) (ids-append xs ys) ∙ sym (append_assoc (ids_of x) (flat_map ids_of xs) (flat_map ids_of ys))

ids-more : (xs : List ItemText) (x : ItemText) → flat_map ids_of (xs ++ (x ∷ [])) ≡ flat_map ids_of xs ++ ids_of x
ids-more xs x = ids-append xs (x ∷ []) ∙ ap (λ k. flat_map ids_of xs ++ k) (append-nil (ids_of x))

-- ---- GoesOn

-- a walk that has answered nothing
pub goes_begin : (told : Option Told) (repo : RepoState) (walk : WalkState) (tally : Tally)
    → IfSome told (λ t. FitsWalk (told_files t) repo.log repo.keys walk) → GoesOn told repo walk walk tally tally
goes_begin told repo walk tally fits = record {
  done = [];
  answers = told_then told (λ f. FitsWalk f repo.log repo.keys walk) (λ f. Answers f repo walk [] walk)
      (λ f h. record { leads = λ items end c. c; fits = h }) fits;
  adds = adds_none tally;
}

-- one item more is counted
pub goes_next : (told later : Option Told) (repo after_repo : RepoState) (from now after : WalkState) (before tally next : Tally) (item : ItemText)
    → heard later ≡ heard told → after_repo ≡ repo → GoesOn told repo from now before tally
    → IfSome later (λ t. LeadsOn (told_files t) after_repo.log after_repo.keys now (item ∷ []) after)
    → IfSome later (λ t. FitsWalk (told_files t) after_repo.log after_repo.keys after)
    → Adds (ids_of item) tally next → GoesOn told repo from after before next
goes_next told later repo after_repo from now after before tally next item same same_repo goes leads fits adds = record {
  done = goes.done ++ (item ∷ []);
  answers = step_over told later repo after_repo from now after goes.done (item ∷ []) same same_repo goes.answers leads fits;
  adds = subst (λ (ids : List (List ℕ)). Adds ids before next) (sym (ids-more goes.done item))
      (adds_then before tally next (flat_map ids_of goes.done) (ids_of item) goes.adds adds);
}

none_at : (files : Files) (repo : RepoState) (from now : WalkState) (done : List ItemText) (end : Option RepoFault) → Answers files repo from done now
    → IsToCome files repo.log repo.keys now [] end → IsToCome files repo.log repo.keys from done end
none_at files repo from now done end answers come =
    subst (λ (is : List ItemText). IsToCome files repo.log repo.keys from is end) (append-nil done) (answers.leads [] end come)

-- ---- the end of the stream

-- where nothing more is to come, the items so far come from the front, with the end that the walk met
ends_so : (told later : Option Told) (repo after_repo : RepoState) (from now : WalkState) (done : List ItemText) (end : Option RepoFault)
    → heard later ≡ heard told → after_repo ≡ repo → IfSome told (λ t. Answers (told_files t) repo from done now)
    → IfSome later (λ t. IsToCome (told_files t) after_repo.log after_repo.keys now [] end)
    → IfSome told (λ t. IsToCome (told_files t) repo.log repo.keys from done end)
ends_so told later repo after_repo from now done end same same_repo answers none =
    told_with told later (λ f. Answers f repo from done now) (λ f. IsToCome f after_repo.log after_repo.keys now [] end)
    (λ f. IsToCome f repo.log repo.keys from done end) same
    (λ f a come. none_at f repo from now done end a (subst (λ (r : RepoState). IsToCome f r.log r.keys now [] end) same_repo come))
    answers none

-- the stream ends whole
pub items_counted : (told later : Option Told) (repo after_repo : RepoState) (from now : WalkState) (before tally : Tally)
    → heard later ≡ heard told → after_repo ≡ repo → GoesOn told repo from now before tally
    → IfSome later (λ t. IsToCome (told_files t) after_repo.log after_repo.keys now [] None) → CountsItems told repo from before tally
items_counted told later repo after_repo from now before tally same same_repo goes none = record {
  items = goes.done;
  come = ends_so told later repo after_repo from now goes.done None same same_repo goes.answers none;
  adds = goes.adds;
}

-- the stream ends with a fault
pub stream_refused : (told later : Option Told) (repo after_repo : RepoState) (from now : WalkState) (before tally : Tally) (fault : RepoFault)
    → heard later ≡ heard told → after_repo ≡ repo → GoesOn told repo from now before tally
    → IfSome later (λ t. IsToCome (told_files t) after_repo.log after_repo.keys now [] (Some fault))
    → IfSome told (λ t. StreamEnds (told_files t) repo from fault)
stream_refused told later repo after_repo from now before tally fault same same_repo goes refused =
    told_then told (λ f. IsToCome f repo.log repo.keys from goes.done (Some fault)) (λ f. StreamEnds f repo from fault)
    (λ f come. (goes.done, come))
    (ends_so told later repo after_repo from now goes.done (Some fault) same same_repo goes.answers refused)
