use Rattle.ferry_msgpack.proofs.ShortestLemmas.{shortest_spelled}
use Rattle.ferry_msgpack.proofs.CallerLemmas.{one_spelling, spelled_unbroken, spelled_or_broken, one_fault, broken_rule}
use Rattle.ferry_msgpack.proofs.TreeLemmas.{put-swap}
use Rattle.ferry_msgpack.proofs.laws.spelling_laws.Goals as goal

pub returns-clause-prefix : goal.returns-clause-prefix
returns-clause-prefix c = one_spelling

pub returns-clause-written : goal.returns-clause-written
returns-clause-written c = shortest_spelled

pub returns-clause-order : goal.returns-clause-order
returns-clause-order c = put-swap

pub returns-clause-apart : goal.returns-clause-apart
returns-clause-apart c = spelled_unbroken

pub returns-clause-either : goal.returns-clause-either
returns-clause-either c = spelled_or_broken

pub returns-clause-first : goal.returns-clause-first
returns-clause-first c = one_fault

pub returns-clause-rule : goal.returns-clause-rule
returns-clause-rule c = broken_rule
