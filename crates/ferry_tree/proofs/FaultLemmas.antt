-- Lemmas on specs/Faults.antt.
use Rattle.std.proofs.Common.{◌≡◌, false, refl}
use Rattle.ferry_tree.specs.Faults.{tree_fault, source_failed, tree_lost}
use Rattle.ferry_tree.specs.Nodes.{tree_failed}
use Rattle.ferry_tree.specs.declared.device.TreeFault.{TreeFault}
use Rattle.ferry_tree.specs.declared.device.TreeFault.TheVariants as Faults

-- a fault of the tree is one here
pub failed_tree : (fault : TreeFault) → tree_lost (tree_fault fault) ≡ tree_failed fault
failed_tree Faults.Failed = refl
failed_tree Faults.Memory = refl

-- and not one of the source's device
pub tree_apart : (fault : TreeFault) → source_failed (tree_fault fault) ≡ false
tree_apart Faults.Failed = refl
tree_apart Faults.Memory = refl

pub ruleset conversions = (failed_tree, tree_apart)
