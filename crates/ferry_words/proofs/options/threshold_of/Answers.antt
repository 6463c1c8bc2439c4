use Rattle.std.proofs.Common.{arith, map, string_bytes}
use Rattle.ferry_words.proofs.NumberLemmas.{threshold_in_range}
use Rattle.ferry_words.proofs.options.threshold_of.Goals as goal

pub overflow_cast-result : goal.overflow_cast-result
overflow_cast-result c = omega (arith, c.number_given.ensures.number, threshold_in_range (map string_bytes c.args.given.now))
