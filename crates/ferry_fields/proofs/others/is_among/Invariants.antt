use Rattle.std.proofs.Common.{◌≡◌, map, drop}
use Rattle.ferry_fields.specs.Others.{is_among}
use Rattle.ferry_fields.proofs.others.is_among.Given as goal

abbrev pub invariant-loop-one : goal.invariant-loop-one
invariant-loop-one l = is_among (map (λ n. n.now) (drop l.one-index l.names)) l.name ≡ is_among (map (λ n. n.now) l.names) l.name
