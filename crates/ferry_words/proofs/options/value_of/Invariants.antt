use Rattle.std.proofs.Common.{◌≡◌, length, map, string_bytes}
use Rattle.ferry_words.specs.Words as spec
use Rattle.ferry_words.proofs.options.value_of.Given as goal

-- the option is looked for in what is left
abbrev pub invariant-loop-rest : goal.invariant-loop-rest
invariant-loop-rest l = record {
  left : spec.value_of (map string_bytes l.rest) l.name ≡ spec.value_of (map string_bytes l.given) l.name;
}

abbrev pub decreases-loop-rest : goal.decreases-loop-rest
decreases-loop-rest l = length l.rest
