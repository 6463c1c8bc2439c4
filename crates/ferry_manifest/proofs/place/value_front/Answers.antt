use Rattle.std.proofs.Common.{sym}
use Rattle.ferry_msgpack.specs.View.{value_view}
use Rattle.ferry_manifest.proofs.WalkLemmas.{value_front-found, value_front-broken}
use Rattle.ferry_manifest.proofs.place.value_front.Goals as goal

pub returns-in-Ok-clause-value : goal.returns-in-Ok-clause-value
returns-in-Ok-clause-value c = sym (value_front-found c.args.bytes.now (value_view c.in-Ok.value) c.in-Ok.stop c.in-Ok.ensures.found)

pub returns-in_default : goal.returns-in_default
returns-in_default c = record { value = sym (value_front-broken c.args.bytes.now c.in-Err.fault (c.in-Err.ensures.broken c.in_default.not-Memory)); fault = tt }
