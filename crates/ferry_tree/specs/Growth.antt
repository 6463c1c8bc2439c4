-- How a tree grows by items: the folders above a new path that aren't there are made, then the node of the item, and a file's content is appended in
-- blocks of 4096 bytes, those of zeros alone as holes.
use Rattle.std.specs.Prelude.{◌≡◌, ℕ, zero, suc, ◌+◌, ◌==◌, Bool, true, false, if◌then◌else◌, List, [], ◌∷◌, ◌++◌, length, take, sum_by, fold}
use Rattle.std.specs.Prelude.{Option, option_map, is_none, IfSome}
use Rattle.ferry_lanes.specs.Bytes.{leading_zeros}
use Rattle.ferry_rechunk.specs.Cut.{cut}
use Rattle.ferry_tree.specs.Index.{known_in}
use Rattle.ferry_tree.specs.Nodes.{folder_node, file_node, link_node, same_node, Planted, node_at, with_node, write_last}
use Rattle.ferry_tree.specs.Planning.{known, ends_at_slash, Outcome, stays, passed, makes, refused, outcome_of}
use Rattle.ferry_tree.specs.declared.known.Index.{Index}
use Rattle.ferry_disk.specs.Device.{counted}
use Rattle.ferry_tree.specs.declared.placing.Counts.{Counts}
use Rattle.ferry_tree.specs.declared.planning.Shape.{Shape}

-- ---- parents

-- a tree with a folder at a path, where nothing was there
abbrev pub with_folder : List ℕ → Planted → Planted
with_folder path tree = if is_none (node_at path tree.nodes) then with_node path folder_node tree else tree

-- a tree with a folder at each proper front of a path of less than so many bytes, where nothing was there, the shortest first
unfoldable pub with_parents : List ℕ → ℕ → Planted → Planted
with_parents path zero tree = tree
with_parents path (suc n) tree = if ends_at_slash path n then with_folder (take n path) (with_parents path n tree) else with_parents path n tree

-- ---- contents

-- how many bytes of a block are given as a hole: all where they are zeros, else none
abbrev pub hole_bytes : List ℕ → ℕ
hole_bytes block = if leading_zeros block == length block then length block else 0

-- how many bytes of a content are given as holes
abbrev pub zero_bytes : List ℕ → ℕ
zero_bytes content = sum_by hole_bytes (cut 4096 content)

-- a tree with a content at the end of its current file
abbrev pub with_content : List ℕ → Planted → Planted
with_content content tree = record { nodes = write_last content tree.nodes; holes = tree.holes + zero_bytes content }

-- a tree with contents, one after another, at the end of its current file
abbrev pub with_contents : List (List ℕ) → Planted → Planted
with_contents contents tree = fold (λ t content. with_content content t) tree contents

-- A front of a content was appended to the current file.
pub record WritesFront (content : List ℕ) (before after : Option Planted) : Type 0 where
  pub front : List ℕ
  pub rest : List ℕ
  pub split : front ++ rest ≡ content
  pub nodes : option_map (λ t. t.nodes) after ≡ option_map (λ t. write_last front t.nodes) before

-- ---- what is told and known

-- A tree that tells its nodes has these, and these are known.
pub record Holds (told : Option Planted) (index : Index) (tree : Planted) : Type 0 where
  pub tells : IfSome told (λ t. t ≡ tree)
  pub knows : (path : List ℕ) → known_in index path ≡ known tree.nodes path

-- ---- an item

-- an item of an archive as a tree sees it: its place, and the contents of its chunks
pub record ReadItem : Type 0 where
  pub shape : Shape
  pub contents : List (List ℕ)

-- a tree and how many items it was made of
pub record Grown : Type 0 where
  pub tree : Planted
  pub counts : Counts

-- a tree behind what comes of an item, but for its content
abbrev pub placed_at : List ℕ → Outcome → Planted → Planted
placed_at path stays tree = tree
placed_at path passed tree = tree
placed_at path (makes node) tree = with_node path node (with_parents path (length path) tree)
placed_at path (refused fault) tree = tree

-- whether a content belongs to what is made of an item
abbrev pub takes_content : Outcome → Bool
takes_content stays = false
takes_content passed = false
takes_content (makes folder_node) = false
takes_content (makes (file_node content)) = true
takes_content (makes (link_node target)) = false
takes_content (makes (same_node first)) = false
takes_content (refused fault) = false

-- a tree with contents at the end of its current file, where they belong there
abbrev pub filled : Bool → List (List ℕ) → Planted → Planted
filled true contents tree = with_contents contents tree
filled false contents tree = tree

-- an item that is counted as what comes of it, a hard link as a link
abbrev pub counted_as : Outcome → Counts → Counts
counted_as stays counts = record counts { folders = counted counts.folders }
counted_as passed counts = record counts { skipped = counted counts.skipped }
counted_as (makes folder_node) counts = record counts { folders = counted counts.folders }
counted_as (makes (file_node content)) counts = record counts { files = counted counts.files }
counted_as (makes (link_node target)) counts = record counts { links = counted counts.links }
counted_as (makes (same_node first)) counts = record counts { links = counted counts.links }
counted_as (refused fault) counts = counts

-- what comes of an item beside a tree
abbrev pub outcome_at : Planted → Shape → Outcome
outcome_at tree shape = outcome_of (known tree.nodes) shape

abbrev pub outcome_in : Grown → Shape → Outcome
outcome_in grown shape = outcome_at grown.tree shape

-- a tree behind an item with its contents
abbrev pub grown_by : ReadItem → Grown → Grown
grown_by read grown = record {
  tree = filled (takes_content (outcome_in grown read.shape)) read.contents (placed_at read.shape.path (outcome_in grown read.shape) grown.tree);
  counts = counted_as (outcome_in grown read.shape) grown.counts;
}

-- An item has a place.
abbrev pub IsPlaced : Outcome → Type 0
IsPlaced stays = Unit {0}
IsPlaced passed = Unit {0}
IsPlaced (makes node) = Unit {0}
IsPlaced (refused fault) = ⊥

-- By these items, each of which has a place when it comes, one tree grows to another.
abbrev pub Grows : Grown → List ReadItem → Grown → Type 0
Grows from [] to = to ≡ from
Grows from (read ∷ reads) to = IsPlaced (outcome_in from read.shape) × Grows (grown_by read from) reads to

-- no node, and no item counted
abbrev pub bare : Grown
bare = record { tree = record { nodes = []; holes = 0 }; counts = record { files = 0; folders = 0; links = 0; skipped = 0 } }

-- The tree of these items.
abbrev pub IsTreeOf : List ReadItem → Grown → Type 0
IsTreeOf reads grown = Grows bare reads grown
