use Rattle.std.proofs.Common.{◌≡◌, ◌-◌}
use Rattle.ferry_manifest.specs.Walk.{behind_name}
use Rattle.ferry_manifest.proofs.place.behind_name.Given as goal

abbrev pub invariant-pairs : goal.invariant-pairs
invariant-pairs l = behind_name l.name (l.count - l.place) l.rest ≡ behind_name l.name l.count l.bytes
