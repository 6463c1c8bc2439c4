use Rattle.std.proofs.Common.{◌≡◌, ◌++◌}
use Rattle.std.specs.List.{flat_map}
use Rattle.ferry_config.specs.Text.{ended}
use Rattle.ferry_config.proofs.TextLemmas.{wrapped_to}
use Rattle.ferry_config.proofs.printing.append_wrapped.Given as goal

abbrev pub invariant-loop-number : goal.invariant-loop-number
invariant-loop-number l = l.text.items ≡ l.fn.text.items ++ flat_map ended (wrapped_to l.front l.before l.line l.number)
