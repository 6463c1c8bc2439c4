use Rattle.ferry_disk.proofs.MomentLemmas.{between_map}
use Rattle.ferry_run_compact.proofs.CompactLemmas.{each_leaves}
use Rattle.ferry_run_compact.proofs.command.compact.Goals as goal
use Rattle.ferry_run_compact.specs.Compact.{CompactEach, CompactLeaves, HasCompacted}
use Rattle.ferry_write.specs.Script.{AllDone}
use Rattle.std.proofs.Common.{[], ◌≡◌}

pub returns-in-Ok-clause-ended : goal.returns-in-Ok-clause-ended
returns-in-Ok-clause-ended g c e =
    between_map (g.D.Shelf.told c.args.target.now) (g.D.Shelf.told c.compact_target.new.target)
    (λ h g. AllDone h g × (h.acts ≡ [] → HasCompacted c.args.threshold h g)) (λ h g. h.acts ≡ [] → HasCompacted c.args.threshold h g) (λ h g ends. ends.1)
    c.in-Ok.ensures.did.end

pub returns-in-Ok-clause-left : goal.returns-in-Ok-clause-left
returns-in-Ok-clause-left g c =
    between_map (g.D.Shelf.told c.args.target.now) (g.D.Shelf.told c.compact_target.new.target) CompactEach CompactLeaves each_leaves
    c.in-Ok.ensures.did.each

pub returns-in-Err-clause-left : goal.returns-in-Err-clause-left
returns-in-Err-clause-left g c =
    between_map (g.D.Shelf.told c.args.target.now) (g.D.Shelf.told c.compact_target.new.target) CompactEach CompactLeaves each_leaves
    c.in-Err.ensures.did.each
