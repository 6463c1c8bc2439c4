use Rattle.std.proofs.Common.{◌≡◌, ℕ, ◌<◌, get_or, true}
use Rattle.ferry_text.specs.Text.{is_plain}
use Rattle.ferry_text.proofs.escape.plain_front.Given as goal

abbrev pub invariant-loop-i : goal.invariant-loop-i
invariant-loop-i l = (k : ℕ) → k < l.i → is_plain (get_or l.bytes k 0) ≡ true
