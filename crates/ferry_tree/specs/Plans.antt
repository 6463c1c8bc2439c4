-- What contracts see of a plan.
use Rattle.std.specs.Prelude.{◌≡◌}
use Rattle.ferry_tree.specs.Nodes.{node_view}
use Rattle.ferry_tree.specs.Planning.{Outcome, stays, passed, makes, refused}
use Rattle.ferry_tree.specs.declared.planning.Plan.{Plan}
use Rattle.ferry_tree.specs.declared.planning.Plan.TheVariants as Plans
use Rattle.ferry_tree.specs.declared.planning.Refusal.{Refusal}
use Rattle.ferry_tree.specs.declared.planning.Refusal.TheVariants as Refusals

-- what a plan says
abbrev pub plan_view : Plan → Outcome
plan_view Plans.Stays = stays
plan_view Plans.Passed = passed
plan_view (Plans.Makes node) = makes (node_view node)

-- What a refusal says of what comes of an item; nothing where memory was refused.
abbrev pub IsRefused : Refusal → Outcome → Type 0
IsRefused (Refusals.Place fault) outcome = outcome ≡ refused fault
IsRefused Refusals.Memory outcome = Unit {0}
