use Rattle.std.proofs.Common.{subst}
use Rattle.ferry_msgpack.specs.View.{value_view}
use Rattle.ferry_msgpack.specs.Faults.{Breaks}
use Rattle.ferry_msgpack.specs.declared.fault.PackFault.TheVariants.{Short}
use Rattle.ferry_msgpack.proofs.SpellingLemmas.{value_breaks}
use Rattle.ferry_item.proofs.FrontLemmas.{read_is}
use Rattle.ferry_item.proofs.progress.value_end.Goals as goal

pub returns-in-Ok : goal.returns-in-Ok
returns-in-Ok c =
    let stands = c.in-Ok.ensures.found in
    (stands.within, (value_view c.in-Ok.value, read_is c.args.bytes.now 0 (value_view c.in-Ok.value) c.in-Ok.end stands))

pub returns-in-Short : goal.returns-in-Short
returns-in-Short c =
    let broken : Breaks c.args.bytes.now Short =
    subst (Breaks c.args.bytes.now) c.in-Short.is (c.in-Err.ensures.broken (rw c.in-Short.is (λ same. absurd cc))) in
    value_breaks 64 c.args.bytes.now Short broken
