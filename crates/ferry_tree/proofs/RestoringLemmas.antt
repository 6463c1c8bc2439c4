-- Lemmas on specs/Restoring.antt: a walk whose items are restored so far, one item more, and its end.
use Rattle.std.proofs.Common.{◌≡◌, inl, inr, List, [], ◌∷◌, ◌++◌, take, Option, Some, None, IfSome, refl, sym, ap, subst}
use Rattle.std.proofs.lemmas.List.{append_assoc, append-nil}
use Rattle.ferry_disk.specs.Device.{Told, told_files, heard}
use Rattle.ferry_disk.specs.Files.{Files}
use Rattle.ferry_disk.proofs.DeviceLemmas.{told_any, told_same, told_then, told_with}
use Rattle.ferry_item.specs.Item.{ItemText}
use Rattle.ferry_log.specs.State.{FitsFiles}
use Rattle.ferry_repo.specs.Fault.{IsOfFiles}
use Rattle.ferry_repo.specs.Opening.{RepoState}
use Rattle.ferry_repo.specs.Walk.{WalkState, IsToCome, LeadsOn, FitsWalk}
use Rattle.ferry_repo.specs.Archives.{ContentsCome}
use Rattle.ferry_repo.specs.declared.fault.RepoFault.{RepoFault}
use Rattle.ferry_repo.proofs.WalkLawLemmas.{some_to_come}
use Rattle.ferry_view.specs.Steps.{Answers}
use Rattle.ferry_view.proofs.SoFarLemmas.{told_both}
use Rattle.ferry_view.proofs.WalkLemmas.{answers_none, answers_more}
use Rattle.ferry_tree.specs.Growth.{Grown, Grows, IsPlaced, IsTreeOf, ReadItem, bare, grown_by, outcome_in}
use Rattle.ferry_tree.specs.Nodes.{Planted}
use Rattle.ferry_tree.specs.Restoring.{Stands, RestoresItem, PartOfItem, RefusesItem, AreRead, RestoresItems, ReadsTo, PartOfItems, RefusesItems, read_as}
use Rattle.ferry_tree.specs.Shapes.{chunks_of, shape_of}
use Rattle.ferry_tree.specs.declared.fault.RestoreFault.{RestoreFault}
use Rattle.ferry_tree.specs.declared.fault.RestoreFault.TheVariants as Faults
use Rattle.ferry_tree.specs.declared.known.Index.{Index}
use Rattle.ferry_tree.specs.declared.placing.Counts.{Counts}

-- ---- an item more

pub are_more : (files : Files) (repo : RepoState) (items : List ItemText) (reads : List ReadItem) (item : ItemText) (read : ReadItem)
    → AreRead files repo items reads → read.shape ≡ shape_of item → ContentsCome files repo.log repo.keys (chunks_of item) read.contents None
    → AreRead files repo (items ++ (item ∷ [])) (reads ++ (read ∷ []))
are_more files repo [] [] item read are is come = ((is, come), tt)
are_more files repo [] (r ∷ rs) item read are is come = absurd are
are_more files repo (i ∷ is) [] item read are same come = absurd are
are_more files repo (i ∷ is) (r ∷ rs) item read are same come = (are.0, are_more files repo is rs item read are.1 same come)

pub grows_more : (from mid : Grown) (reads : List ReadItem) (read : ReadItem) → Grows from reads mid → IsPlaced (outcome_in mid read.shape)
    → Grows from (reads ++ (read ∷ [])) (grown_by read mid)
grows_more from mid [] read grows place =
    (subst (λ (g : Grown). IsPlaced (outcome_in g read.shape)) grows place, ap (grown_by read) grows)
grows_more from mid (r ∷ rs) read grows place = (grows.0, grows_more (grown_by r from) mid rs read grows.1 place)

-- ---- the items so far

-- The walk has answered some items; all their contents came, each had a place, and the tree is theirs.
pub record Restoring (told : Option Told) (repo : RepoState) (from now : WalkState) (tree : Option Planted) (index : Index) (counts : Counts) : Type 0 where
  pub done : List ItemText
  pub reads : List ReadItem
  pub grown : Grown
  pub answers : IfSome told (λ t. Answers (told_files t) repo from done now)
  pub are : IfSome told (λ t. AreRead (told_files t) repo done reads)
  pub tree_is : IsTreeOf reads grown
  pub stands : Stands tree index counts grown

pub restoring_begin : (told : Option Told) (repo : RepoState) (walk : WalkState) (tree : Option Planted) (index : Index) (counts : Counts)
    → IfSome told (λ t. FitsWalk (told_files t) repo.log repo.keys walk) → Stands tree index counts bare
    → Restoring told repo walk walk tree index counts
restoring_begin told repo walk tree index counts fits stands = record {
  done = [];
  reads = [];
  grown = bare;
  answers = told_then told (λ f. FitsWalk f repo.log repo.keys walk) (λ f. Answers f repo walk [] walk) (λ f. answers_none f repo walk) fits;
  are = told_any told (λ f. AreRead f repo [] []) (λ f. tt);
  tree_is = refl;
  stands = stands;
}

step_over : (told later : Option Told) (repo after_repo : RepoState) (from now after : WalkState) (done more : List ItemText)
    → heard later ≡ heard told → after_repo ≡ repo → IfSome told (λ t. Answers (told_files t) repo from done now)
    → IfSome later (λ t. LeadsOn (told_files t) after_repo.log after_repo.keys now more after)
    → IfSome later (λ t. FitsWalk (told_files t) after_repo.log after_repo.keys after)
    → IfSome told (λ t. Answers (told_files t) repo from (done ++ more) after)
step_over told later repo after_repo from now after done more same same_repo answers leads fits =
    told_with told later (λ f. Answers f repo from done now)
    (λ f. LeadsOn f after_repo.log after_repo.keys now more after × FitsWalk f after_repo.log after_repo.keys after)
    (λ f. Answers f repo from (done ++ more) after) same
    (λ f a both. answers_more f repo from now after done more a
    (subst (λ (r : RepoState). LeadsOn f r.log r.keys now more after) same_repo both.0)
    (subst (λ (r : RepoState). FitsWalk f r.log r.keys after) same_repo both.1))
    answers
    (told_both later (λ f. LeadsOn f after_repo.log after_repo.keys now more after) (λ f. FitsWalk f after_repo.log after_repo.keys after) leads fits)

pub restoring_next : (told later : Option Told) (repo after_repo mid_repo : RepoState) (middle : Option Told) (from now after : WalkState)
    (tree after_tree : Option Planted) (index next : Index) (counts after_counts : Counts) (item : ItemText)
    → heard later ≡ heard told → after_repo ≡ repo → heard middle ≡ heard told → mid_repo ≡ repo
    → (restoring : Restoring told repo from now tree index counts)
    → IfSome later (λ t. LeadsOn (told_files t) after_repo.log after_repo.keys now (item ∷ []) after)
    → IfSome later (λ t. FitsWalk (told_files t) after_repo.log after_repo.keys after)
    → RestoresItem middle mid_repo item restoring.grown after_tree next after_counts
    → Restoring told repo from after after_tree next after_counts
restoring_next told later repo after_repo mid_repo middle from now after tree after_tree index next counts after_counts item same same_repo mid_same mid_is
    restoring leads fits restores = record {
      done = restoring.done ++ (item ∷ []);
      reads = restoring.reads ++ (read_as item restores.contents ∷ []);
      grown = grown_by (read_as item restores.contents) restoring.grown;
      answers = step_over told later repo after_repo from now after restoring.done (item ∷ []) same same_repo restoring.answers leads fits;
      are = told_with told middle (λ f. AreRead f repo restoring.done restoring.reads)
          (λ f. ContentsCome f mid_repo.log mid_repo.keys (chunks_of item) restores.contents None)
          (λ f. AreRead f repo (restoring.done ++ (item ∷ [])) (restoring.reads ++ (read_as item restores.contents ∷ []))) mid_same
          (λ f are come. are_more f repo restoring.done restoring.reads item (read_as item restores.contents) are refl
          (subst (λ (r : RepoState). ContentsCome f r.log r.keys (chunks_of item) restores.contents None) mid_is come))
          restoring.are restores.come;
      tree_is = grows_more bare restoring.grown restoring.reads (read_as item restores.contents) restoring.tree_is restores.place;
      stands = restores.stands;
    }

come_at : (files : Files) (repo : RepoState) (from now : WalkState) (done : List ItemText) (end : Option RepoFault) → Answers files repo from done now
    → IsToCome files repo.log repo.keys now [] end → IsToCome files repo.log repo.keys from done end
come_at files repo from now done end answers come =
    subst (λ (is : List ItemText). IsToCome files repo.log repo.keys from is end) (append-nil done) (answers.leads [] end come)

-- the stream ends whole
pub restoring_end : (told later : Option Told) (repo after_repo : RepoState) (from now : WalkState) (tree : Option Planted) (index : Index) (counts : Counts)
    → heard later ≡ heard told → after_repo ≡ repo → Restoring told repo from now tree index counts
    → IfSome later (λ t. IsToCome (told_files t) after_repo.log after_repo.keys now [] None) → RestoresItems told repo from tree counts
restoring_end told later repo after_repo from now tree index counts same same_repo restoring none = record {
  items = restoring.done;
  reads = restoring.reads;
  grown = restoring.grown;
  come = told_with told later (λ f. Answers f repo from restoring.done now) (λ f. IsToCome f after_repo.log after_repo.keys now [] None)
      (λ f. IsToCome f repo.log repo.keys from restoring.done None) same
      (λ f a come. come_at f repo from now restoring.done None a (subst (λ (r : RepoState). IsToCome f r.log r.keys now [] None) same_repo come))
      restoring.answers none;
  are = restoring.are;
  tree_is = restoring.tree_is;
  tells = restoring.stands.holds.tells;
  counts_are = restoring.stands.counts_are;
}

-- ---- where it ends before

-- the items that were answered come first
reads_first : (files : Files) (repo : RepoState) (from now : WalkState) (done : List ItemText) (reads : List ReadItem) (grown : Grown)
    (behind : List ItemText) (end : Option RepoFault) → Answers files repo from done now → AreRead files repo done reads → IsTreeOf reads grown
    → IsToCome files repo.log repo.keys now behind end → ReadsTo files repo from done behind end grown
reads_first files repo from now done reads grown behind end answers are tree_is come = record {
  come = answers.leads behind end come;
  reads = reads;
  are = are;
  tree_is = tree_is;
}

told_all : (told : Option Told) (P Q R : Files → Type 0) → IfSome told (λ t. P (told_files t)) → IfSome told (λ t. Q (told_files t))
    → IfSome told (λ t. R (told_files t)) → IfSome told (λ t. P (told_files t) × (Q (told_files t) × R (told_files t)))
told_all None P Q R p q r = tt
told_all (Some t) P Q R p q r = (p, (q, r))

-- a step of the walk is refused
pub step_refused : (told later : Option Told) (repo after_repo : RepoState) (from now : WalkState) (tree : Option Planted) (index : Index) (counts : Counts)
    (fault : RepoFault) → heard later ≡ heard told → after_repo ≡ repo → Restoring told repo from now tree index counts
    → (IsOfFiles fault → IfSome later (λ t. IsToCome (told_files t) after_repo.log after_repo.keys now [] (Some fault)))
    → IfSome told (λ t. RefusesItems (told_files t) repo from (Faults.Source fault))
step_refused None later repo after_repo from now tree index counts fault same same_repo restoring refuses = tt
step_refused (Some t) later repo after_repo from now tree index counts fault same same_repo restoring refuses =
    inr (λ of_files.
    let come = told_same later (Some t) (λ f. IsToCome f after_repo.log after_repo.keys now [] (Some fault)) (sym same) (refuses of_files) in
    record {
      items = restoring.done;
      grown = restoring.grown;
      reads = reads_first (told_files t) repo from now restoring.done restoring.reads restoring.grown [] (Some fault) restoring.answers restoring.are
          restoring.tree_is (subst (λ (r : RepoState). IsToCome (told_files t) r.log r.keys now [] (Some fault)) same_repo come);
    })

-- the next item is refused
pub item_refused : (told later : Option Told) (repo after_repo mid_repo : RepoState) (middle : Option Told) (from now after : WalkState)
    (tree : Option Planted) (index : Index) (counts : Counts) (item : ItemText) (fault : RestoreFault) → heard later ≡ heard told → after_repo ≡ repo
    → heard middle ≡ heard told → mid_repo ≡ repo → IfSome told (λ t. FitsFiles (told_files t) repo.log)
    → (restoring : Restoring told repo from now tree index counts)
    → IfSome later (λ t. LeadsOn (told_files t) after_repo.log after_repo.keys now (item ∷ []) after)
    → IfSome later (λ t. FitsWalk (told_files t) after_repo.log after_repo.keys after)
    → IfSome middle (λ t. RefusesItem (told_files t) mid_repo item restoring.grown fault)
    → IfSome told (λ t. RefusesItems (told_files t) repo from fault)
item_refused None later repo after_repo mid_repo middle from now after tree index counts item fault same same_repo mid_same mid_is fits restoring leads
    walk_fits refuses = tt
item_refused (Some t) later repo after_repo mid_repo middle from now after tree index counts item fault same same_repo mid_same mid_is fits restoring leads
    walk_fits refuses =
    let files = told_files t in
    let answers = step_over (Some t) later repo after_repo from now after restoring.done (item ∷ []) same same_repo restoring.answers leads walk_fits in
    let m = some_to_come files repo.log repo.keys after fits in
    let here = told_same middle (Some t) (λ f. RefusesItem f mid_repo item restoring.grown fault) (sym mid_same) refuses in
    inl (record {
      items = restoring.done;
      item = item;
      behind = m.0;
      end = m.1.0;
      grown = restoring.grown;
      reads = record {
        come = subst (λ (is : List ItemText). IsToCome files repo.log repo.keys from is m.1.0) (append_assoc restoring.done (item ∷ []) m.0)
            (answers.leads m.0 m.1.0 m.1.1);
        reads = restoring.reads;
        are = restoring.are;
        tree_is = restoring.tree_is;
      };
      refused = subst (λ (r : RepoState). RefusesItem files r item restoring.grown fault) mid_is here;
    })

-- what stands of a tree where no item is begun
pub part_between : (told : Option Told) (repo : RepoState) (from now : WalkState) (tree : Option Planted) (index : Index) (counts : Counts)
    → IfSome told (λ t. FitsFiles (told_files t) repo.log) → Restoring told repo from now tree index counts → PartOfItems told repo from tree
part_between None repo from now tree index counts fits restoring = record {
  items = restoring.done;
  behind = [];
  end = None;
  grown = restoring.grown;
  reads = tt;
  part = inl restoring.stands.holds.tells;
}
part_between (Some t) repo from now tree index counts fits restoring =
    let m = some_to_come (told_files t) repo.log repo.keys now fits in
    record {
      items = restoring.done;
      behind = m.0;
      end = m.1.0;
      grown = restoring.grown;
      reads = reads_first (told_files t) repo from now restoring.done restoring.reads restoring.grown m.0 m.1.0 restoring.answers restoring.are
          restoring.tree_is m.1.1;
      part = inl restoring.stands.holds.tells;
    }

pub part_moved : (told middle : Option Told) (repo mid_repo : RepoState) (item : ItemText) (grown : Grown) (tree : Option Planted) → heard middle ≡ heard told
    → mid_repo ≡ repo → PartOfItem middle mid_repo item grown tree → PartOfItem told repo item grown tree
part_moved told middle repo mid_repo item grown tree same same_repo (inl parents) = inl parents
part_moved told middle repo mid_repo item grown tree same same_repo (inr file) = inr (record {
  count = file.count;
  contents = file.contents;
  come = subst (λ (r : RepoState). IfSome told (λ t. ContentsCome (told_files t) r.log r.keys (take file.count (chunks_of item)) file.contents None)) same_repo
      (told_same middle told (λ f. ContentsCome f mid_repo.log mid_repo.keys (take file.count (chunks_of item)) file.contents None) (sym same) file.come);
  front = file.front;
  rest = file.rest;
  split = file.split;
  nodes = file.nodes;
})

-- what stands of a tree where an item is begun
pub part_within : (told later : Option Told) (repo after_repo mid_repo : RepoState) (middle : Option Told) (from now after : WalkState)
    (tree after_tree : Option Planted) (index : Index) (counts : Counts) (item : ItemText) → heard later ≡ heard told → after_repo ≡ repo
    → heard middle ≡ heard told → mid_repo ≡ repo → IfSome told (λ t. FitsFiles (told_files t) repo.log)
    → (restoring : Restoring told repo from now tree index counts)
    → IfSome later (λ t. LeadsOn (told_files t) after_repo.log after_repo.keys now (item ∷ []) after)
    → IfSome later (λ t. FitsWalk (told_files t) after_repo.log after_repo.keys after)
    → PartOfItem middle mid_repo item restoring.grown after_tree → PartOfItems told repo from after_tree
part_within None later repo after_repo mid_repo middle from now after tree after_tree index counts item same same_repo mid_same mid_is fits restoring leads
    walk_fits part = record {
      items = restoring.done;
      behind = item ∷ [];
      end = None;
      grown = restoring.grown;
      reads = tt;
      part = inr (part_moved None middle repo mid_repo item restoring.grown after_tree mid_same mid_is part);
    }
part_within (Some t) later repo after_repo mid_repo middle from now after tree after_tree index counts item same same_repo mid_same mid_is fits restoring leads
    walk_fits part =
    let files = told_files t in
    let answers = step_over (Some t) later repo after_repo from now after restoring.done (item ∷ []) same same_repo restoring.answers leads walk_fits in
    let m = some_to_come files repo.log repo.keys after fits in
    record {
      items = restoring.done;
      behind = item ∷ m.0;
      end = m.1.0;
      grown = restoring.grown;
      reads = record {
        come = subst (λ (is : List ItemText). IsToCome files repo.log repo.keys from is m.1.0) (append_assoc restoring.done (item ∷ []) m.0)
            (answers.leads m.0 m.1.0 m.1.1);
        reads = restoring.reads;
        are = restoring.are;
        tree_is = restoring.tree_is;
      };
      part = inr (part_moved (Some t) middle repo mid_repo item restoring.grown after_tree mid_same mid_is part);
    }
