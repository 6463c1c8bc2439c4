use Rattle.std.proofs.Common.{◌≡◌, length, arith, rules}
use Rattle.ferry_item.proofs.StepLemmas.{values_passed, value_missing}
use Rattle.ferry_item.proofs.progress.value_step.Goals as goal

pub returns-then-left-eq0 : goal.returns-then-left-eq0
returns-then-left-eq0 c =
    (omega arith, values_passed c.args.levels.now.items c.args.depth c.args.left c.args.bytes.now c.if-left-eq0.true)

pub returns-then-is_empty : goal.returns-then-is_empty
returns-then-is_empty c =
    let none : length c.args.bytes.now ≡ 0 = search rules in
    (c.in_ok-push.ensures.items, value_missing c.args.levels.now.items c.args.depth c.args.left c.args.bytes.now c.if-left-eq0.false none)
