-- What stands at the paths of a tree: folders, files and links, in the order in which they were made.
use Rattle.std.specs.Prelude.{◌≡◌, ◌&&◌, ◌==◌, replicate, ℕ, ◌+◌, ◌≤◌, Bool, true, false, if◌then◌else◌, List, [], ◌∷◌, ◌++◌, take, Option, Some, None}
use Rattle.std.specs.Prelude.{option_map}
use Rattle.std.specs.List.{Contains}
use Rattle.std.specs.Str.{bytes_eq}
use Rattle.ferry_tree.specs.declared.device.TreeFault.{TreeFault}
use Rattle.ferry_tree.specs.declared.device.TreeFault.TheVariants.{Failed, Memory}
use Rattle.ferry_tree.specs.declared.nodes.Node.{Node}
use Rattle.ferry_tree.specs.declared.nodes.Node.TheVariants as Nodes

-- ---- nodes

-- a folder; a file of these bytes; a symbolic link to this target; a hard link of the file at this path
pub data NodeText : Type 0 where
  folder_node : NodeText
  file_node : List ℕ → NodeText
  link_node : List ℕ → NodeText
  same_node : List ℕ → NodeText

-- what a `Node` says, apart from where its bytes lie in memory
abbrev pub node_view : Node → NodeText
node_view Nodes.Folder = folder_node
node_view (Nodes.File content) = file_node content.items
node_view (Nodes.Link target) = link_node target.items
node_view (Nodes.Same first) = same_node first.items

-- a node at its path
pub record Placed : Type 0 where
  pub path : List ℕ
  pub node : NodeText

-- the nodes of a tree, in the order in which they were made, and how many bytes were given as holes
pub record Planted : Type 0 where
  pub nodes : List Placed
  pub holes : ℕ

-- whether there is no node
abbrev pub no_nodes : List Placed → Bool
no_nodes [] = true
no_nodes (p ∷ ps) = false

-- whether a tree has nothing: no node, and so no bytes that were given as holes
abbrev pub is_bare : Planted → Bool
is_bare tree = no_nodes tree.nodes && tree.holes == 0

-- ---- paths

-- the later of two nodes, where there is one
abbrev pub later_node : Option NodeText → Option NodeText → Option NodeText
later_node first None = first
later_node first (Some node) = Some node

-- the node at a path
unfoldable pub node_at : List ℕ → List Placed → Option NodeText
node_at path [] = None
node_at path (p ∷ ps) = later_node (if bytes_eq p.path path then Some p.node else None) (node_at path ps)

-- the byte between the parts of a path
abbrev pub slash : ℕ
slash = 47

-- The parent of this path, where its root isn't that, is a folder.
abbrev pub HasParent : List Placed → List ℕ → Type 0
HasParent nodes path = (parent name : List ℕ) → path ≡ parent ++ (slash ∷ name) → (Contains name slash → ⊥) → node_at parent nodes ≡ Some folder_node

-- A node can be made here: the path is new, and its parent is the root or a folder.
pub record CanMake (nodes : List Placed) (path : List ℕ) : Type 0 where
  pub new : node_at path nodes ≡ None
  pub parent : HasParent nodes path

-- A file is at this path.
pub record IsFile (nodes : List Placed) (path : List ℕ) : Type 0 where
  pub content : List ℕ
  pub is : node_at path nodes ≡ Some (file_node content)

-- ---- what calls do

-- a tree with one node more
abbrev pub with_node : List ℕ → NodeText → Planted → Planted
with_node path node tree = record { nodes = tree.nodes ++ (record { path = path; node = node } ∷ []); holes = tree.holes }

-- a node with more bytes at its end, where it is a file
abbrev pub longer : List ℕ → NodeText → NodeText
longer bytes folder_node = folder_node
longer bytes (file_node content) = file_node (content ++ bytes)
longer bytes (link_node target) = link_node target
longer bytes (same_node first) = same_node first

-- nodes with more bytes at the end of the last, where that is a file
unfoldable pub write_last : List ℕ → List Placed → List Placed
write_last bytes [] = []
write_last bytes (p ∷ []) = record { path = p.path; node = longer bytes p.node } ∷ []
write_last bytes (p ∷ q ∷ ps) = p ∷ write_last bytes (q ∷ ps)

-- The node that was made last is a file: it is the current file.
pub record HasCurrent (nodes : List Placed) : Type 0 where
  pub before : List Placed
  pub path : List ℕ
  pub content : List ℕ
  pub nodes_are : nodes ≡ before ++ (record { path = path; node = file_node content } ∷ [])

-- a tree with more bytes in its current file
abbrev pub with_bytes : List ℕ → Planted → Planted
with_bytes bytes tree = record { nodes = write_last bytes tree.nodes; holes = tree.holes }

-- so many zero bytes
abbrev pub zeros_of : ℕ → List ℕ
zeros_of n = replicate n 0

-- a tree with so many zero bytes more in its current file, given as a hole
abbrev pub with_hole : ℕ → Planted → Planted
with_hole n tree = record { nodes = write_last (zeros_of n) tree.nodes; holes = tree.holes + n }

-- A front of these bytes was appended.
pub record Appends (bytes : List ℕ) (before after : Option Planted) : Type 0 where
  pub front : ℕ
  pub after_is : after ≡ option_map (λ t. with_bytes (take front bytes) t) before

-- At most so many zero bytes were appended as a hole.
pub record LeavesHole (zeros : ℕ) (before after : Option Planted) : Type 0 where
  pub count : ℕ
  pub within : count ≤ zeros
  pub after_is : after ≡ option_map (λ t. with_hole count t) before

-- whether a tree failed
abbrev pub tree_failed : TreeFault → Bool
tree_failed Failed = true
tree_failed Memory = false
