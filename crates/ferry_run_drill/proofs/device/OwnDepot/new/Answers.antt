use Rattle.std.proofs.Common.{rules}
use Rattle.ferry_run_drill.proofs.DeviceLemmas.{new_depot}
use Rattle.ferry_run_drill.proofs.device.OwnDepot.new.Goals as goal

pub returns : goal.returns
returns c = record { empty = new_depot c.in_ok-depot.depot (search rules) }
