-- What contracts see of a tree in memory.
use Rattle.std.specs.Prelude.{ℕ, List, map}
use Rattle.ferry_tree.specs.Nodes.{Placed, Planted, node_view}
use Rattle.ferry_tree.specs.declared.memory.Entry.{Entry}
use Rattle.ferry_tree.specs.declared.memory.MemoryTree.{MemoryTree}

-- a node at its path, apart from where its bytes lie in memory
abbrev pub placed : Entry → Placed
placed entry = record { path = entry.path.items; node = node_view entry.node }

-- these nodes at their paths
abbrev pub placed_in : List Entry → List Placed
placed_in entries = map placed entries

-- the nodes of a tree, and the bytes of its holes
abbrev pub state_of : MemoryTree → Planted
state_of tree = record { nodes = placed_in tree.nodes.items; holes = tree.holes }

-- the numbers of the calls that fail
abbrev pub failing_of : MemoryTree → List ℕ
failing_of tree = tree.failing.items

-- how many calls it has had
abbrev pub calls_of : MemoryTree → ℕ
calls_of tree = tree.calls

-- how many of them failed
abbrev pub faults_of : MemoryTree → ℕ
faults_of tree = tree.faults
