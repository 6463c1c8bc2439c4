use Rattle.std.proofs.Common.{◌≡◌, [], map}
use Rattle.ferry_fields.proofs.OtherLemmas.{kept_with}
use Rattle.ferry_fields.proofs.others.without.Given as goal

abbrev pub invariant-loop-name : goal.invariant-loop-name
invariant-loop-name l =
    kept_with (map (λ n. n.now) l.fn.names) l.kept.items l.name-iterator.rest.items ≡ kept_with (map (λ n. n.now) l.fn.names) [] l.fn.pairs.items
