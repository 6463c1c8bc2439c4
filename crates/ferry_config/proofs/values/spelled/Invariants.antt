use Rattle.std.proofs.Common.{◌≡◌, ◌≤◌, drop}
use Rattle.std.specs.Str.{all_ascii_digits}
use Rattle.ferry_config.specs.Value.{greatest, number_from}
use Rattle.ferry_config.proofs.values.spelled.Given as goal

abbrev pub invariant-loop-digit : goal.invariant-loop-digit
invariant-loop-digit l = record {
  small : l.number ≤ greatest;
  digits : all_ascii_digits l.text ≡ all_ascii_digits (drop l.digit-index l.text);
  number : number_from 0 l.text ≡ number_from l.number (drop l.digit-index l.text);
}
