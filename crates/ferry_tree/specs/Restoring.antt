-- What a restoring of items means: the tree of those that were read, and why it ended where it did.
use Rattle.std.specs.Prelude.{◌≡◌, ◌⊎◌, ℕ, true, false, List, [], ◌∷◌, ◌++◌, take, Option, Some, None, IfSome}
use Rattle.ferry_disk.specs.Device.{Told, told_files}
use Rattle.ferry_disk.specs.Files.{Files}
use Rattle.ferry_item.specs.Item.{ItemText}
use Rattle.ferry_item.specs.Stream.{joined}
use Rattle.ferry_manifest.specs.declared.manifest.ArchiveRef.{ArchiveRef}
use Rattle.ferry_repo.specs.Archives.{archive_named, RefusesRecord, ContentsCome}
use Rattle.ferry_repo.specs.Fault.{IsOfFiles}
use Rattle.ferry_repo.specs.Opening.{RepoState}
use Rattle.ferry_repo.specs.Walk.{WalkState, IsToCome}
use Rattle.ferry_repo.specs.declared.fault.RepoFault.{RepoFault}
use Rattle.ferry_view.specs.Steps.{Begins}
use Rattle.ferry_tree.specs.Filling.{appended}
use Rattle.ferry_tree.specs.Growth.{Grown, Holds, IsPlaced, IsTreeOf, ReadItem, grown_by, outcome_in, placed_at, takes_content, with_parents}
use Rattle.ferry_tree.specs.Nodes.{Planted, is_bare}
use Rattle.ferry_tree.specs.Planning.{refused}
use Rattle.ferry_tree.specs.Shapes.{chunks_of, shape_of}
use Rattle.ferry_tree.specs.declared.fault.RestoreFault.{RestoreFault}
use Rattle.ferry_tree.specs.declared.fault.RestoreFault.TheVariants.{Source, Place, NotFound, NotEmpty, Tree, Memory}
use Rattle.ferry_tree.specs.declared.known.Index.{Index}
use Rattle.ferry_tree.specs.declared.placing.Counts.{Counts}

-- ---- where a tree stands

-- A tree that tells its nodes has these, they are known, and these items are counted.
pub record Stands (told : Option Planted) (index : Index) (counts : Counts) (grown : Grown) : Type 0 where
  pub holds : Holds told index grown.tree
  pub counts_are : counts ≡ grown.counts

-- an item with these contents of its chunks, as a tree sees it
abbrev pub read_as : ItemText → List (List ℕ) → ReadItem
read_as item contents = record { shape = shape_of item; contents = contents }

-- ---- one item

-- These are the contents of the item's chunks, it has a place, and the tree grew by it.
pub record RestoresItem (told : Option Told) (repo : RepoState) (item : ItemText) (before : Grown) (tree : Option Planted) (index : Index) (counts : Counts)
    : Type 0 where
  pub contents : List (List ℕ)
  pub come : IfSome told (λ t. ContentsCome (told_files t) repo.log repo.keys (chunks_of item) contents None)
  pub place : IsPlaced (outcome_in before (shape_of item))
  pub stands : Stands tree index counts (grown_by (read_as item contents) before)

-- A front of the contents of the item's first chunks is in its file, where it has one.
pub record PartOfFile (told : Option Told) (repo : RepoState) (item : ItemText) (before : Grown) (tree : Option Planted) : Type 0 where
  pub count : ℕ
  pub contents : List (List ℕ)
  pub come : IfSome told (λ t. ContentsCome (told_files t) repo.log repo.keys (take count (chunks_of item)) contents None)
  pub front : List ℕ
  pub rest : List ℕ
  pub split : front ++ rest ≡ joined contents
  pub nodes : IfSome tree (λ t. t.nodes ≡ appended (takes_content (outcome_in before (shape_of item))) front
      (placed_at (shape_of item).path (outcome_in before (shape_of item)) before.tree).nodes)

-- Some of the folders above the item's path are made, and no more; or all of them, and its node, with a front of its content where it is a file.
abbrev pub PartOfItem : Option Told → RepoState → ItemText → Grown → Option Planted → Type 0
PartOfItem told repo item before tree =
    ((n : ℕ) × IfSome tree (λ t. t ≡ with_parents (shape_of item).path n before.tree)) ⊎ PartOfFile told repo item before tree

-- What a refusal says of an item: a chunk of it is refused so, or it has no place.
abbrev pub RefusesItem : Files → RepoState → ItemText → Grown → RestoreFault → Type 0
RefusesItem files repo item before (Source fault) = IsOfFiles fault → IsPlaced (outcome_in before (shape_of item))
    × ((contents : List (List ℕ)) × ContentsCome files repo.log repo.keys (chunks_of item) contents (Some fault))
RefusesItem files repo item before (Place path fault) = (path ≡ (shape_of item).path) × (outcome_in before (shape_of item) ≡ refused fault)
RefusesItem files repo item before NotFound = ⊥
RefusesItem files repo item before NotEmpty = ⊥
RefusesItem files repo item before Tree = Unit {0}
RefusesItem files repo item before Memory = Unit {0}

-- ---- items

-- Of these items all contents come, and as a tree sees them they are these.
abbrev pub AreRead : Files → RepoState → List ItemText → List ReadItem → Type 0
AreRead files repo [] [] = Unit {0}
AreRead files repo [] (read ∷ reads) = ⊥
AreRead files repo (item ∷ items) [] = ⊥
AreRead files repo (item ∷ items) (read ∷ reads) = ((read.shape ≡ shape_of item)
    × ContentsCome files repo.log repo.keys (chunks_of item) read.contents None) × AreRead files repo items reads

-- From where a walk stands these items come up to the end of the whole stream, with all contents, and the tree is theirs.
pub record RestoresItems (told : Option Told) (repo : RepoState) (walk : WalkState) (tree : Option Planted) (counts : Counts) : Type 0 where
  pub items : List ItemText
  pub reads : List ReadItem
  pub grown : Grown
  pub come : IfSome told (λ t. IsToCome (told_files t) repo.log repo.keys walk items None)
  pub are : IfSome told (λ t. AreRead (told_files t) repo items reads)
  pub tree_is : IsTreeOf reads grown
  pub tells : IfSome tree (λ t. t ≡ grown.tree)
  pub counts_are : counts ≡ grown.counts

-- From where a walk stands these items come first, with all contents, and this is their tree.
pub record ReadsTo (files : Files) (repo : RepoState) (walk : WalkState) (before behind : List ItemText) (end : Option RepoFault) (grown : Grown) : Type 0 where
  pub come : IsToCome files repo.log repo.keys walk (before ++ behind) end
  pub reads : List ReadItem
  pub are : AreRead files repo before reads
  pub tree_is : IsTreeOf reads grown

-- The tree has a part of the first of these items.
abbrev pub PartOfNext : Option Told → RepoState → List ItemText → Grown → Option Planted → Type 0
PartOfNext told repo [] grown tree = ⊥
PartOfNext told repo (item ∷ items) grown tree = PartOfItem told repo item grown tree

-- The tree is that of the items that come first, or has a part of the next one besides.
pub record PartOfItems (told : Option Told) (repo : RepoState) (walk : WalkState) (tree : Option Planted) : Type 0 where
  pub items : List ItemText
  pub behind : List ItemText
  pub end : Option RepoFault
  pub grown : Grown
  pub reads : IfSome told (λ t. ReadsTo (told_files t) repo walk items behind end grown)
  pub part : IfSome tree (λ t. t ≡ grown.tree) ⊎ PartOfNext told repo behind grown tree

-- The items that come first have all their contents and a place, and the next one is refused so.
pub record EndsAtItem (files : Files) (repo : RepoState) (walk : WalkState) (fault : RestoreFault) : Type 0 where
  pub items : List ItemText
  pub item : ItemText
  pub behind : List ItemText
  pub end : Option RepoFault
  pub grown : Grown
  pub reads : ReadsTo files repo walk items (item ∷ behind) end grown
  pub refused : RefusesItem files repo item grown fault

-- All items that come have all their contents and a place, and the stream ends behind them with this fault of the source.
pub record EndsBehind (files : Files) (repo : RepoState) (walk : WalkState) (fault : RepoFault) : Type 0 where
  pub items : List ItemText
  pub grown : Grown
  pub reads : ReadsTo files repo walk items [] (Some fault) grown

-- What a refusal says of the items to come where their stream ends.
abbrev pub EndsStream : Files → RepoState → WalkState → RestoreFault → Type 0
EndsStream files repo walk (Source fault) = IsOfFiles fault → EndsBehind files repo walk fault
EndsStream files repo walk (Place path fault) = ⊥
EndsStream files repo walk NotFound = ⊥
EndsStream files repo walk NotEmpty = ⊥
EndsStream files repo walk Tree = ⊥
EndsStream files repo walk Memory = Unit {0}

-- What a refusal says of the items to come: an item is refused so, or their stream ends so.
abbrev pub RefusesItems : Files → RepoState → WalkState → RestoreFault → Type 0
RefusesItems files repo walk fault = EndsAtItem files repo walk fault ⊎ EndsStream files repo walk fault

-- A fault that says something of the items: neither a device's nor want of memory.
abbrev pub SaysSomething : RestoreFault → Type 0
SaysSomething (Source fault) = IsOfFiles fault
SaysSomething (Place path fault) = Unit {0}
SaysSomething NotFound = ⊥
SaysSomething NotEmpty = ⊥
SaysSomething Tree = ⊥
SaysSomething Memory = ⊥

-- ---- an archive

-- The tree was empty, and is that of the items of the archive of a name, which reads to its end with all contents; so many items there are of each kind.
pub record RestoresArchive (told : Option Told) (repo : RepoState) (name : List ℕ) (before after : Option Planted) (counts : Counts) : Type 0 where
  pub empty : IfSome before (λ t. is_bare t ≡ true)
  pub walk : WalkState
  pub begins : IfSome told (λ t. Begins (told_files t) repo name walk)
  pub restores : RestoresItems told repo walk after counts

-- The tree was empty, and is that of the first items of the archive of a name, or has a part of the next one besides.
pub record PartOfArchive (told : Option Told) (repo : RepoState) (name : List ℕ) (before after : Option Planted) : Type 0 where
  pub empty : IfSome before (λ t. is_bare t ≡ true)
  pub walk : WalkState
  pub begins : IfSome told (λ t. Begins (told_files t) repo name walk)
  pub part : PartOfItems told repo walk after

-- The archive of the name is there, and its record is refused so.
abbrev pub RefusesNamedRecord : Files → RepoState → List ℕ → RepoFault → Type 0
RefusesNamedRecord files repo name fault =
    (named : ArchiveRef) × ((archive_named name repo.manifest.archives ≡ Some named) × RefusesRecord files repo.log repo.keys named.id fault)

-- Why no walk stands in front of the items of the archive of a name: no archive has it, or its record is refused.
abbrev pub RefusesBegin : Files → RepoState → List ℕ → RestoreFault → Type 0
RefusesBegin files repo name (Source fault) = IsOfFiles fault → RefusesNamedRecord files repo name fault
RefusesBegin files repo name (Place path fault) = ⊥
RefusesBegin files repo name NotFound = archive_named name repo.manifest.archives ≡ None
RefusesBegin files repo name NotEmpty = ⊥
RefusesBegin files repo name Tree = ⊥
RefusesBegin files repo name Memory = Unit {0}

-- The items of the archive of a name are refused so.
abbrev pub RefusesNamedItems : Files → RepoState → List ℕ → RestoreFault → Type 0
RefusesNamedItems files repo name fault = (walk : WalkState) × (Begins files repo name walk × RefusesItems files repo walk fault)

-- Some archive has the name.
abbrev pub IsNamed : RepoState → List ℕ → Type 0
IsNamed repo name = (named : ArchiveRef) × (archive_named name repo.manifest.archives ≡ Some named)

-- A tree that tells its nodes has none.
abbrev pub IsEmpty : Option Planted → Type 0
IsEmpty tree = IfSome tree (λ t. is_bare t ≡ true)

-- What a refusal says of the archive of a name, in the order of what is looked at: it isn't there; it is, and the tree has something already; the tree is
-- empty, and the record or the items are refused so.
abbrev pub RefusesArchive : Files → RepoState → List ℕ → Option Planted → RestoreFault → Type 0
RefusesArchive files repo name before (Source fault) =
    IsOfFiles fault → IsEmpty before × (RefusesNamedRecord files repo name fault ⊎ RefusesNamedItems files repo name (Source fault))
RefusesArchive files repo name before (Place path fault) = IsEmpty before × RefusesNamedItems files repo name (Place path fault)
RefusesArchive files repo name before NotFound = archive_named name repo.manifest.archives ≡ None
RefusesArchive files repo name before NotEmpty = IsNamed repo name × IfSome before (λ t. is_bare t ≡ false)
RefusesArchive files repo name before Tree = Unit {0}
RefusesArchive files repo name before Memory = Unit {0}
