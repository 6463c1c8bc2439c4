use Rattle.std.proofs.Common.{rules}
use Rattle.ferry_gen_tests.proofs.DepotLemmas.{new_depot}
use Rattle.ferry_gen_tests.proofs.source.empty_depot.Goals as goal

pub returns : goal.returns
returns c = record { empty = new_depot c.in_ok-depot.depot (search rules) }
