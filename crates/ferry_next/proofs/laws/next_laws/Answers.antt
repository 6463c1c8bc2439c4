use Rattle.ferry_next.proofs.NextLemmas.{next_packable, without_packable}
use Rattle.ferry_next.proofs.PlaceLemmas.{with_increasing, with_named, with_only, without_named}
use Rattle.ferry_next.proofs.UnionLemmas.{union-is, union-one}
use Rattle.ferry_next.proofs.laws.next_laws.Goals as goal

pub returns-clause-named : goal.returns-clause-named
returns-clause-named c = with_named

pub returns-clause-increasing : goal.returns-clause-increasing
returns-clause-increasing c = with_increasing

pub returns-clause-only : goal.returns-clause-only
returns-clause-only c = with_only

pub returns-clause-union : goal.returns-clause-union
returns-clause-union c = union-is

pub returns-clause-one : goal.returns-clause-one
returns-clause-one c = union-one

pub returns-clause-packable : goal.returns-clause-packable
returns-clause-packable c = next_packable

pub returns-clause-without : goal.returns-clause-without
returns-clause-without c = without_named

pub returns-clause-packable_without : goal.returns-clause-packable_without
returns-clause-packable_without c = without_packable
