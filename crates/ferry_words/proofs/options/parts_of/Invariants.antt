use Rattle.std.proofs.Common.{◌≡◌, ◌≤◌, [], length, take, drop, map, string_bytes, ◌-◌}
use Rattle.ferry_words.specs.Options.{options_of}
use Rattle.ferry_words.specs.Words as spec
use Rattle.ferry_words.proofs.options.parts_of.Given as goal

-- the options so far are given, and the parts are those of what is left
abbrev pub invariant-loop-at : goal.invariant-loop-at
invariant-loop-at l = record {
  within : l.at ≤ length l.behind;
  left :
      spec.parts_of (options_of l.options) (take l.at (map string_bytes l.behind)) (drop l.at (map string_bytes l.behind))
      ≡ spec.parts_of (options_of l.options) [] (map string_bytes l.behind);
}

abbrev pub decreases-loop-at : goal.decreases-loop-at
decreases-loop-at l = length l.behind - l.at
