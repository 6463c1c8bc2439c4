-- The faults of a restoring: which are those of a device.
use Rattle.std.specs.Prelude.{ℕ, List, Bool, true, false}
use Rattle.ferry_repo.specs.Fault.{repo_failed}
use Rattle.ferry_tree.specs.declared.device.TreeFault.{TreeFault}
use Rattle.ferry_tree.specs.declared.device.TreeFault.TheVariants as Faults
use Rattle.ferry_tree.specs.declared.placing.Stop.{Stop}
use Rattle.ferry_tree.specs.declared.placing.Stop.TheVariants as Stops
use Rattle.ferry_tree.specs.declared.fault.RestoreFault.{RestoreFault}
use Rattle.ferry_tree.specs.declared.fault.RestoreFault.TheVariants.{Source, Place, NotFound, NotEmpty, Tree, Memory}

-- that of a tree
abbrev pub tree_fault : TreeFault → RestoreFault
tree_fault Faults.Failed = Tree
tree_fault Faults.Memory = Memory

-- whether the source's device failed
abbrev pub source_failed : RestoreFault → Bool
source_failed (Source fault) = repo_failed fault
source_failed (Place path fault) = false
source_failed NotFound = false
source_failed NotEmpty = false
source_failed Tree = false
source_failed Memory = false

-- whether the tree failed
abbrev pub tree_lost : RestoreFault → Bool
tree_lost (Source fault) = false
tree_lost (Place path fault) = false
tree_lost NotFound = false
tree_lost NotEmpty = false
tree_lost Tree = true
tree_lost Memory = false

-- the fault where the item of a path got no place
abbrev pub stop_fault : List ℕ → Stop → RestoreFault
stop_fault path (Stops.Place fault) = Place path fault
stop_fault path Stops.Tree = Tree
stop_fault path Stops.Memory = Memory
