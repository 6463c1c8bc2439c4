use Rattle.std.proofs.Common.{◌≡◌, true, length, subst, ap, ◌∙◌, rules}
use Rattle.ferry_msgpack.specs.View.{value_view}
use Rattle.ferry_msgpack.specs.Faults.{Breaks}
use Rattle.ferry_msgpack.specs.declared.fault.PackFault.TheVariants.{Short}
use Rattle.ferry_msgpack.proofs.SpellingLemmas.{value_breaks}
use Rattle.ferry_msgpack.proofs.ViewLemmas.{view_raw}
use Rattle.ferry_item.specs.Progress.{BeginsWith, is_raw}
use Rattle.ferry_item.proofs.FrontLemmas.{read_is}
use Rattle.ferry_item.proofs.StepLemmas.{no_name, name_is, name_ends}
use Rattle.ferry_item.proofs.progress.name_at.Goals as goal

pub returns-then-is_empty : goal.returns-then-is_empty
returns-then-is_empty c = let none : length c.args.bytes.now ≡ 0 = search rules in no_name c.args.bytes.now none

pub returns-in-Raw-value : goal.returns-in-Raw-value
returns-in-Raw-value c =
    let stands = c.in-Ok.ensures.found in
    let t = value_view c.in-Ok.value in (
      stands.within,
      name_is c.args.bytes.now t c.in-Raw-value.name.items _ (read_is c.args.bytes.now 0 t c.in-Ok.length stands)
          (ap value_view c.in-Raw-value.is ∙ view_raw c.in-Raw-value.name),
    )

pub returns-in-Short : goal.returns-in-Short
returns-in-Short c =
    let broken : Breaks c.args.bytes.now Short =
    subst (Breaks c.args.bytes.now) c.in-Short.is (c.in-Err.ensures.broken (rw c.in-Short.is (λ same. absurd cc))) in
    let head : BeginsWith c.args.bytes.now (λ first. is_raw first ≡ true) = search rules in
    name_ends c.args.bytes.now head (value_breaks 64 c.args.bytes.now Short broken)
