use Rattle.std.proofs.Common.{None, Some, subst, arith}
use Rattle.ferry_item.specs.Progress.{IsName}
use Rattle.ferry_item.proofs.StepLemmas.{names_passed, name_goes, name_lacks}
use Rattle.ferry_item.proofs.progress.name_step.Goals as goal

pub returns-then-left-eq0 : goal.returns-then-left-eq0
returns-then-left-eq0 c =
    (omega arith, names_passed c.args.levels.now.items c.args.depth c.args.left c.args.names c.args.bytes.now c.if-left-eq0.true)

pub returns-in_default : goal.returns-in_default
returns-in_default c =
    let short : IsName None c.args.bytes.now = subst (λ o. IsName o c.args.bytes.now) c.in_default.is c.in_ok-name.ensures in (
      c.in_ok-push.ensures.items,
      name_lacks c.args.levels.now.items c.args.depth c.args.left c.args.names c.args.bytes.now c.if-left-eq0.false short,
    )

pub returns : goal.returns
returns c =
    let found : IsName (Some (c.in-Some.name, c.in-Some.length)) c.args.bytes.now =
    subst (λ o. IsName o c.args.bytes.now) c.in-Some.is c.in_ok-name.ensures in
    rw (c.in_ok-push-3.ensures.items, c.in_ok-push-2.ensures.items) (
      found.0,
      name_goes c.args.levels.now.items c.args.depth c.args.left c.args.names c.in_ok-names.names c.args.bytes.now c.in-Some.name.items _
          c.if-left-eq0.false found.1 c.in_ok-names.ensures,
    )
