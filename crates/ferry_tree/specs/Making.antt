-- Where a node can be made.
use Rattle.std.specs.Prelude.{◌≡◌, ℕ, List, [], None}
use Rattle.ferry_tree.specs.Nodes.{NodeText, folder_node, file_node, link_node, same_node, Planted, HasParent, CanMake, IsFile, node_at}

-- Where nothing is at the path, its parent is the root or a folder.
abbrev pub HasRoom : Planted → List ℕ → Type 0
HasRoom tree path = node_at path tree.nodes ≡ None → HasParent tree.nodes path

-- What a node refers to is there.
abbrev pub Refers : Planted → NodeText → Type 0
Refers tree folder_node = Unit {0}
Refers tree (file_node content) = content ≡ []
Refers tree (link_node target) = Unit {0}
Refers tree (same_node first) = IsFile tree.nodes first

-- The node can be made at the path.
pub record CanBeMade (tree : Planted) (path : List ℕ) (node : NodeText) : Type 0 where
  pub place : CanMake tree.nodes path
  pub refers : Refers tree node
