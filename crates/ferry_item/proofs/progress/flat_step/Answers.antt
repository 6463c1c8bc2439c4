use Rattle.std.proofs.Common.{None, Some, subst}
use Rattle.ferry_item.specs.Progress.{IsValue}
use Rattle.ferry_item.proofs.StepLemmas.{flat_goes, flat_lacks}
use Rattle.ferry_item.proofs.progress.flat_step.Goals as goal

pub returns-in_default : goal.returns-in_default
returns-in_default c =
    let short : IsValue None c.args.bytes.now = subst (λ o. IsValue o c.args.bytes.now) c.in_default.is c.in_ok-length.ensures in (
      c.in_ok-push.ensures.items,
      flat_lacks c.args.levels.now.items c.args.depth c.args.left c.args.bytes.now c.requires.some c.requires.head short,
    )

pub returns : goal.returns
returns c =
    let found : IsValue (Some c.in-Some.length) c.args.bytes.now = subst (λ o. IsValue o c.args.bytes.now) c.in-Some.is c.in_ok-length.ensures in
    rw c.in_ok-push-2.ensures.items (
      found.0,
      flat_goes c.args.levels.now.items c.args.depth c.args.left c.args.bytes.now found.1.0 _ c.requires.some c.requires.head found.1.1,
    )
