-- Lemmas on specs/Restoring.antt: an archive, behind what was looked at before its items.
use Rattle.std.proofs.Common.{◌≡◌, ◌⊎◌, inl, inr, ℕ, ◌==◌, Bool, ◌&&◌, true, List, [], ◌∷◌, Option, Some, None, IfSome, option_map, refl, sym, ◌∙◌, ap, subst}
use Rattle.std.proofs.lemmas.Bool.{eqb-true}
use Rattle.ferry_disk.specs.Device.{Told, told_files, heard}
use Rattle.ferry_disk.specs.Files.{Files}
use Rattle.ferry_disk.proofs.DeviceLemmas.{told_same, told_then}
use Rattle.ferry_item.specs.Item.{ItemText}
use Rattle.ferry_repo.specs.Opening.{RepoState}
use Rattle.ferry_repo.specs.Walk.{WalkState, IsToCome}
use Rattle.ferry_view.specs.Steps.{Begins}
use Rattle.ferry_view.proofs.SoFarLemmas.{told_both}
use Rattle.ferry_tree.specs.Growth.{Grown, bare}
use Rattle.ferry_tree.specs.Index.{known_in}
use Rattle.ferry_tree.specs.Nodes.{Placed, Planted, is_bare, no_nodes}
use Rattle.ferry_tree.specs.Planning.{mark_of}
use Rattle.ferry_tree.specs.Restoring.{Stands, AreRead, RestoresItems, ReadsTo, PartOfNext, PartOfItems, RefusesItems, RefusesArchive, RestoresArchive}
use Rattle.ferry_tree.specs.Restoring.{IsEmpty, PartOfArchive}
use Rattle.ferry_tree.specs.declared.fault.RestoreFault.{RestoreFault}
use Rattle.ferry_tree.specs.declared.fault.RestoreFault.TheVariants as Faults
use Rattle.ferry_tree.specs.declared.known.Index.{Index}
use Rattle.ferry_tree.specs.declared.placing.Counts.{Counts}
use Rattle.ferry_tree.proofs.NodeLemmas.{node_at-none}
use Rattle.ferry_tree.proofs.RestoringLemmas.{part_moved}

-- ---- an empty tree

bare_by : (nodes : List Placed) (holes : ℕ) → (no_nodes nodes && holes == 0) ≡ true → record { nodes = nodes; holes = holes } ≡ bare.tree
bare_by [] holes e = ap (λ (h : ℕ). record { nodes = []; holes = h }) (eqb-true holes 0 e)
bare_by (p ∷ ps) holes e = absurd (let no : ⊥ = cc in no)

bare_is : (tree : Planted) → is_bare tree ≡ true → tree ≡ bare.tree
bare_is tree e = bare_by tree.nodes tree.holes e

bare_tells : (told : Option Planted) → IfSome told (λ t. is_bare t ≡ true) → IfSome told (λ t. t ≡ bare.tree)
bare_tells None empty = tt
bare_tells (Some t) empty = bare_is t empty

pub bare_stands : (told : Option Planted) (index : Index) → IfSome told (λ t. is_bare t ≡ true) → ((path : List ℕ) → known_in index path ≡ None)
    → Stands told index bare.counts bare
bare_stands told index empty none = record {
  holds = record {
    tells = bare_tells told empty;
    knows = λ q. none q ∙ sym (ap (option_map mark_of) (node_at-none q));
  };
  counts_are = refl;
}

pub empty_is : (told : Option Planted) (b : Bool) → b ≡ true → IfSome told (λ t. b ≡ is_bare t) → IfSome told (λ t. is_bare t ≡ true)
empty_is None b e h = tt
empty_is (Some t) b e h = sym h ∙ e

-- ---- where the source was read before

restores_moved : (told middle : Option Told) (repo mid_repo : RepoState) (walk : WalkState) (tree : Option Planted) (counts : Counts)
    → heard middle ≡ heard told → mid_repo ≡ repo → RestoresItems middle mid_repo walk tree counts → RestoresItems told repo walk tree counts
restores_moved told middle repo mid_repo walk tree counts same same_repo r = record {
  items = r.items;
  reads = r.reads;
  grown = r.grown;
  come = subst (λ (p : RepoState). IfSome told (λ t. IsToCome (told_files t) p.log p.keys walk r.items None)) same_repo
      (told_same middle told (λ f. IsToCome f mid_repo.log mid_repo.keys walk r.items None) (sym same) r.come);
  are = subst (λ (p : RepoState). IfSome told (λ t. AreRead (told_files t) p r.items r.reads)) same_repo
      (told_same middle told (λ f. AreRead f mid_repo r.items r.reads) (sym same) r.are);
  tree_is = r.tree_is;
  tells = r.tells;
  counts_are = r.counts_are;
}

next_moved : (told middle : Option Told) (repo mid_repo : RepoState) (behind : List ItemText) (grown : Grown) (tree : Option Planted)
    → heard middle ≡ heard told → mid_repo ≡ repo → PartOfNext middle mid_repo behind grown tree → PartOfNext told repo behind grown tree
next_moved told middle repo mid_repo [] grown tree same same_repo part = absurd part
next_moved told middle repo mid_repo (item ∷ items) grown tree same same_repo part = part_moved told middle repo mid_repo item grown tree same same_repo part

either_moved : (told middle : Option Told) (repo mid_repo : RepoState) (behind : List ItemText) (grown : Grown) (tree : Option Planted)
    → heard middle ≡ heard told → mid_repo ≡ repo → IfSome tree (λ t. t ≡ grown.tree) ⊎ PartOfNext middle mid_repo behind grown tree
    → IfSome tree (λ t. t ≡ grown.tree) ⊎ PartOfNext told repo behind grown tree
either_moved told middle repo mid_repo behind grown tree same same_repo (inl whole) = inl whole
either_moved told middle repo mid_repo behind grown tree same same_repo (inr part) =
    inr (next_moved told middle repo mid_repo behind grown tree same same_repo part)

part_items_moved : (told middle : Option Told) (repo mid_repo : RepoState) (walk : WalkState) (tree : Option Planted) → heard middle ≡ heard told
    → mid_repo ≡ repo → PartOfItems middle mid_repo walk tree → PartOfItems told repo walk tree
part_items_moved told middle repo mid_repo walk tree same same_repo p = record {
  items = p.items;
  behind = p.behind;
  end = p.end;
  grown = p.grown;
  reads = subst (λ (r : RepoState). IfSome told (λ t. ReadsTo (told_files t) r walk p.items p.behind p.end p.grown)) same_repo
      (told_same middle told (λ f. ReadsTo f mid_repo walk p.items p.behind p.end p.grown) (sym same) p.reads);
  part = either_moved told middle repo mid_repo p.behind p.grown tree same same_repo p.part;
}

-- ---- an archive

pub archive_restored : (told middle : Option Told) (repo mid_repo : RepoState) (name : List ℕ) (walk : WalkState)
    (before after : Option Planted) (counts : Counts)
    → heard middle ≡ heard told → mid_repo ≡ repo → IfSome before (λ t. is_bare t ≡ true) → IfSome told (λ t. Begins (told_files t) repo name walk)
    → RestoresItems middle mid_repo walk after counts → RestoresArchive told repo name before after counts
archive_restored told middle repo mid_repo name walk before after counts same same_repo empty begins restores = record {
  empty = empty;
  walk = walk;
  begins = begins;
  restores = restores_moved told middle repo mid_repo walk after counts same same_repo restores;
}

pub archive_part : (told middle : Option Told) (repo mid_repo : RepoState) (name : List ℕ) (walk : WalkState) (before after : Option Planted)
    → heard middle ≡ heard told → mid_repo ≡ repo → IfSome before (λ t. is_bare t ≡ true) → IfSome told (λ t. Begins (told_files t) repo name walk)
    → PartOfItems middle mid_repo walk after → PartOfArchive told repo name before after
archive_part told middle repo mid_repo name walk before after same same_repo empty begins part = record {
  empty = empty;
  walk = walk;
  begins = begins;
  part = part_items_moved told middle repo mid_repo walk after same same_repo part;
}

refused_by : (files : Files) (repo : RepoState) (name : List ℕ) (walk : WalkState) (before : Option Planted) (fault : RestoreFault)
    → IsEmpty before → Begins files repo name walk → RefusesItems files repo walk fault → RefusesArchive files repo name before fault
refused_by files repo name walk before (Faults.Source fault) empty begins refuses = λ of_files. (empty, inr (walk, (begins, refuses)))
refused_by files repo name walk before (Faults.Place path fault) empty begins refuses = (empty, (walk, (begins, refuses)))
refused_by files repo name walk before Faults.NotFound empty begins (inl ends) = absurd ends.refused
refused_by files repo name walk before Faults.NotFound empty begins (inr ends) = absurd ends
refused_by files repo name walk before Faults.NotEmpty empty begins (inl ends) = absurd ends.refused
refused_by files repo name walk before Faults.NotEmpty empty begins (inr ends) = absurd ends
refused_by files repo name walk before Faults.Tree empty begins refuses = tt
refused_by files repo name walk before Faults.Memory empty begins refuses = tt

pub archive_refused : (told middle : Option Told) (repo mid_repo : RepoState) (name : List ℕ) (walk : WalkState) (before : Option Planted)
    (fault : RestoreFault) → heard middle ≡ heard told → mid_repo ≡ repo → IsEmpty before → IfSome told (λ t. Begins (told_files t) repo name walk)
    → IfSome middle (λ t. RefusesItems (told_files t) mid_repo walk fault) → IfSome told (λ t. RefusesArchive (told_files t) repo name before fault)
archive_refused told middle repo mid_repo name walk before fault same same_repo empty begins refuses =
    told_then told (λ f. Begins f repo name walk × RefusesItems f repo walk fault) (λ f. RefusesArchive f repo name before fault)
    (λ f both. refused_by f repo name walk before fault empty both.0 both.1)
    (told_both told (λ f. Begins f repo name walk) (λ f. RefusesItems f repo walk fault) begins
    (subst (λ (r : RepoState). IfSome told (λ t. RefusesItems (told_files t) r walk fault)) same_repo
    (told_same middle told (λ f. RefusesItems f mid_repo walk fault) (sym same) refuses)))
