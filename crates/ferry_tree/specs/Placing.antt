-- What became of an item, but for its content.
use Rattle.std.specs.Prelude.{◌≡◌, ℕ, Bool, true, false, List, Option}
use Rattle.ferry_tree.specs.Growth.{Holds, IsPlaced, counted_as, placed_at, takes_content}
use Rattle.ferry_tree.specs.Nodes.{Planted}
use Rattle.ferry_tree.specs.Planning.{Outcome, refused}
use Rattle.ferry_tree.specs.declared.device.TreeFault.{TreeFault}
use Rattle.ferry_tree.specs.declared.device.TreeFault.TheVariants as Faults
use Rattle.ferry_tree.specs.declared.known.Index.{Index}
use Rattle.ferry_tree.specs.declared.placing.Counts.{Counts}
use Rattle.ferry_tree.specs.declared.placing.Stop.{Stop}
use Rattle.ferry_tree.specs.declared.placing.Stop.TheVariants as Stops

-- why an item got no place where the tree didn't do what it was asked
abbrev pub tree_stop : TreeFault → Stop
tree_stop Faults.Failed = Stops.Tree
tree_stop Faults.Memory = Stops.Memory

-- whether the tree failed
abbrev pub stop_failed : Stop → Bool
stop_failed (Stops.Place fault) = false
stop_failed Stops.Tree = true
stop_failed Stops.Memory = false

-- What a stop says of what comes of an item; nothing where the tree failed or memory was refused.
abbrev pub IsStopped : Stop → Outcome → Type 0
IsStopped (Stops.Place fault) outcome = outcome ≡ refused fault
IsStopped Stops.Tree outcome = Unit {0}
IsStopped Stops.Memory outcome = Unit {0}

-- This came of an item at a path.
pub record Placed (outcome : Outcome) (path : List ℕ) (before : Planted) (counts : Counts) (takes : Bool) (told : Option Planted) (index : Index)
    (after : Counts) : Type 0 where
  pub place : IsPlaced outcome
  pub takes_is : takes ≡ takes_content outcome
  pub holds : Holds told index (placed_at path outcome before)
  pub counts_are : after ≡ counted_as outcome counts
