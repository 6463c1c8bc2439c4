-- What a restoring says over the files that are told behind the opening holds over those of before, which are the same.
use Rattle.std.proofs.Common.{◌≡◌, ◌⊎◌, inl, inr, ℕ, List, [], ◌∷◌, Option, Some, None, IfSome, Result, Ok, Err, IfOk, IfErr, OnErr, sym, subst, take}
use Rattle.ferry_disk.proofs.DeviceLemmas.{told_same}
use Rattle.ferry_disk.specs.Device.{Told, heard, told_files}
use Rattle.ferry_disk.specs.Files.{Files}
use Rattle.ferry_item.specs.Item.{ItemText}
use Rattle.ferry_repo.proofs.LawLemmas.{opens_fits}
use Rattle.ferry_repo.specs.Cached.{no_contents}
use Rattle.ferry_repo.specs.Opening.{FitsRepo, OpensFilesTo, RepoState, cached_in, repo_view}
use Rattle.ferry_repo.specs.Walk.{IsToCome, WalkState}
use Rattle.ferry_repo.specs.Archives.{ContentsCome}
use Rattle.ferry_repo.specs.declared.repo.Repo.{Repo}
use Rattle.ferry_repo.specs.declared.secret.Secret.{Secret}
use Rattle.ferry_tree.specs.Growth.{Grown}
use Rattle.ferry_tree.specs.Nodes.{Planted}
use Rattle.ferry_tree.specs.Restoring.{AreRead, PartOfArchive, PartOfFile, PartOfItem, PartOfItems, PartOfNext, ReadsTo, RestoresArchive, RestoresItems}
use Rattle.ferry_tree.specs.Shapes.{chunks_of}
use Rattle.ferry_tree.specs.declared.placing.Counts.{Counts}
use Rattle.ferry_view.specs.Steps.{Begins}
use Rattle.ferry_run_restore.specs.Restoring.{RefusesOpened, RefusesRestoring, WhereOpen}
use Rattle.ferry_run_restore.specs.declared.restored.Restored.{Restored}

module _ (a b : Option Told) (same : heard b ≡ heard a) (repo : RepoState) where
  items_over : (walk : WalkState) (tree : Option Planted) (counts : Counts) → RestoresItems a repo walk tree counts → RestoresItems b repo walk tree counts
  items_over walk tree counts r = record {
    items = r.items;
    reads = r.reads;
    grown = r.grown;
    come = told_same a b (λ (f : Files). IsToCome f repo.log repo.keys walk r.items None) same r.come;
    are = told_same a b (λ (f : Files). AreRead f repo r.items r.reads) same r.are;
    tree_is = r.tree_is;
    tells = r.tells;
    counts_are = r.counts_are;
  }

  pub restores_over : (name : List ℕ) (before after : Option Planted) (counts : Counts) → RestoresArchive a repo name before after counts
      → RestoresArchive b repo name before after counts
  restores_over name before after counts r = record {
    empty = r.empty;
    walk = r.walk;
    begins = told_same a b (λ (f : Files). Begins f repo name r.walk) same r.begins;
    restores = items_over r.walk after counts r.restores;
  }

  file_over : (item : ItemText) (before : Grown) (tree : Option Planted) → PartOfFile a repo item before tree → PartOfFile b repo item before tree
  file_over item before tree r = record {
    count = r.count;
    contents = r.contents;
    come = told_same a b (λ (f : Files). ContentsCome f repo.log repo.keys (take r.count (chunks_of item)) r.contents None) same r.come;
    front = r.front;
    rest = r.rest;
    split = r.split;
    nodes = r.nodes;
  }

  item_over : (item : ItemText) (before : Grown) (tree : Option Planted) → PartOfItem a repo item before tree → PartOfItem b repo item before tree
  item_over item before tree (inl parents) = inl parents
  item_over item before tree (inr file) = inr (file_over item before tree file)

  next_over : (items : List ItemText) (grown : Grown) (tree : Option Planted) → PartOfNext a repo items grown tree → PartOfNext b repo items grown tree
  next_over [] grown tree part = part
  next_over (item ∷ items) grown tree part = item_over item grown tree part

  rest_over : (items : List ItemText) (grown : Grown) (tree : Option Planted)
      → IfSome tree (λ t. t ≡ grown.tree) ⊎ PartOfNext a repo items grown tree → IfSome tree (λ t. t ≡ grown.tree) ⊎ PartOfNext b repo items grown tree
  rest_over items grown tree (inl all) = inl all
  rest_over items grown tree (inr part) = inr (next_over items grown tree part)

  part_over : (walk : WalkState) (tree : Option Planted) → PartOfItems a repo walk tree → PartOfItems b repo walk tree
  part_over walk tree r = record {
    items = r.items;
    behind = r.behind;
    end = r.end;
    grown = r.grown;
    reads = told_same a b (λ (f : Files). ReadsTo f repo walk r.items r.behind r.end r.grown) same r.reads;
    part = rest_over r.behind r.grown tree r.part;
  }

  archive_over : (name : List ℕ) (before after : Option Planted) → PartOfArchive a repo name before after → PartOfArchive b repo name before after
  archive_over name before after r = record {
    empty = r.empty;
    walk = r.walk;
    begins = told_same a b (λ (f : Files). Begins f repo name r.walk) same r.begins;
    part = part_over r.walk after r.part;
  }

-- ---- the opened source

fits_first : (told : Option Told) (repo : Repo) (secret : Secret) → IfSome told (λ t. OpensFilesTo (told_files t) secret (repo_view repo))
    → cached_in repo ≡ no_contents → IfSome told (λ t. FitsRepo (told_files t) (repo_view repo) (cached_in repo))
fits_first None repo secret opens cached = tt
fits_first (Some t) repo secret opens cached =
    subst (FitsRepo (told_files t) (repo_view repo)) (sym cached) (opens_fits (told_files t) secret (repo_view repo) opens)

pub opened_fits : (before now : Option Told) (repo : Repo) (secret : Secret) → IfSome before (λ t. OpensFilesTo (told_files t) secret (repo_view repo))
    → heard now ≡ heard before → cached_in repo ≡ no_contents → IfSome now (λ t. FitsRepo (told_files t) (repo_view repo) (cached_in repo))
opened_fits before now repo secret opens same cached =
    told_same before now (λ (f : Files). FitsRepo f (repo_view repo) (cached_in repo)) same (fits_first before repo secret opens cached)

-- ---- what comes of it

module _ (a b : Option Told) (same : heard b ≡ heard a) (repo : RepoState) (secret : Secret) (opens : IfSome b (λ t. OpensFilesTo (told_files t) secret repo))
    (name : List ℕ) (before after : Option Planted) where
  pub restored_over : (result : Result Counts Restored) → IfOk result (λ counts. RestoresArchive a repo name before after counts)
      → IfOk result (λ counts. WhereOpen b secret (λ repo. RestoresArchive b repo name before after counts))
  restored_over (Ok counts) r = (repo, (opens, restores_over a b same repo name before after counts r))
  restored_over (Err ended) r = tt

  pub leaves_over : (result : Result Counts Restored) → OnErr result ((after ≡ before) ⊎ PartOfArchive a repo name before after)
      → OnErr result ((after ≡ before) ⊎ WhereOpen b secret (λ repo. PartOfArchive b repo name before after))
  leaves_over (Ok counts) r = tt
  leaves_over (Err ended) (inl same_tree) = inl same_tree
  leaves_over (Err ended) (inr part) = inr (repo, (opens, archive_over a b same repo name before after part))

  pub refused_over : (result : Result Counts Restored) → IfErr result (λ ended. IfSome a (λ t. RefusesOpened (told_files t) repo name before ended))
      → IfErr result (RefusesRestoring b secret name before)
  refused_over (Ok counts) r = tt
  refused_over (Err ended) r =
      inr (repo, (opens, told_same a b (λ (f : Files). RefusesOpened f repo name before ended) same r))
