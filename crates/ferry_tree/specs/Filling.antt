-- What became of the contents of an item.
use Rattle.std.specs.Prelude.{◌≡◌, ℕ, Bool, if◌then◌else◌, List, ◌++◌, take, Option, Some, None, IfSome, option_map}
use Rattle.ferry_disk.specs.Device.{Told, told_files}
use Rattle.ferry_disk.specs.Files.{Files}
use Rattle.ferry_item.specs.Stream.{joined}
use Rattle.ferry_item.specs.declared.item.ChunkRef.{ChunkRef}
use Rattle.ferry_repo.specs.Fault.{IsOfFiles}
use Rattle.ferry_repo.specs.Opening.{RepoState}
use Rattle.ferry_repo.specs.Archives.{ContentsCome}
use Rattle.ferry_tree.specs.Growth.{filled}
use Rattle.ferry_tree.specs.Nodes.{Placed, Planted, write_last}
use Rattle.ferry_tree.specs.declared.fault.RestoreFault.{RestoreFault}
use Rattle.ferry_tree.specs.declared.fault.RestoreFault.TheVariants.{Source, Place, NotFound, NotEmpty, Tree, Memory}

-- nodes with more bytes at the end of the last, where they belong there
abbrev pub appended : Bool → List ℕ → List Placed → List Placed
appended takes bytes nodes = if takes then write_last bytes nodes else nodes

-- A front of a content was appended, where it belongs there.
pub record WritesPart (takes : Bool) (content : List ℕ) (before after : Option Planted) : Type 0 where
  pub front : List ℕ
  pub rest : List ℕ
  pub split : front ++ rest ≡ content
  pub nodes : option_map (λ t. t.nodes) after ≡ option_map (λ t. appended takes front t.nodes) before

-- These are the contents of the chunks, and they were appended, where they belong there.
pub record FillsAll (told : Option Told) (repo : RepoState) (chunks : List ChunkRef) (takes : Bool) (before after : Option Planted) : Type 0 where
  pub contents : List (List ℕ)
  pub come : IfSome told (λ t. ContentsCome (told_files t) repo.log repo.keys chunks contents None)
  pub after_is : after ≡ option_map (λ t. filled takes contents t) before

-- These are the contents of the first chunks, and a front of them was appended, where they belong there.
pub record FillsPart (told : Option Told) (repo : RepoState) (chunks : List ChunkRef) (takes : Bool) (before after : Option Planted) : Type 0 where
  pub count : ℕ
  pub contents : List (List ℕ)
  pub come : IfSome told (λ t. ContentsCome (told_files t) repo.log repo.keys (take count chunks) contents None)
  pub part : WritesPart takes (joined contents) before after

-- What a refusal says of chunks: one is refused so, the first.
abbrev pub RefusesFilling : Files → RepoState → List ChunkRef → RestoreFault → Type 0
RefusesFilling files repo chunks (Source fault) =
    IsOfFiles fault → (contents : List (List ℕ)) × ContentsCome files repo.log repo.keys chunks contents (Some fault)
RefusesFilling files repo chunks (Place path fault) = ⊥
RefusesFilling files repo chunks NotFound = ⊥
RefusesFilling files repo chunks NotEmpty = ⊥
RefusesFilling files repo chunks Tree = Unit {0}
RefusesFilling files repo chunks Memory = Unit {0}
