use Rattle.std.proofs.Common.{List, [], ◌∷◌, ◌++◌, None, Some, subst}
use Rattle.ferry_item.specs.declared.progress.Level.{Level}
use Rattle.ferry_item.specs.Progress.{GoesOn, IsAhead}
use Rattle.ferry_item.proofs.StepLemmas.{ahead_within, ahead_goes, ahead_short}
use Rattle.ferry_item.proofs.progress.gone_on.Goals as goal

pub behind-requires : goal.behind-requires
behind-requires c = ahead_within c.args.bytes.now c.steps.seen c.steps.levels.items c.steps.invariant

pub returns-in-Ok-None-clause-short : goal.returns-in-Ok-None-clause-short
returns-in-Ok-None-clause-short c =
    let levels : List Level = c.pop.new.self.items ++ c.in_ok-level.level ∷ [] in
    let ahead : IsAhead c.args.bytes.now c.steps.seen levels =
    subst (IsAhead c.args.bytes.now c.steps.seen) c.in_ok-level.ensures.items c.steps.invariant in
    let ends : GoesOn None levels c.behind.result.now c.step.new.levels.items =
    subst (λ o. GoesOn o levels c.behind.result.now c.step.new.levels.items) c.in-Ok-None.field-0-is c.in-Ok-None.ensures in
    ahead_short c.args.bytes.now c.steps.seen levels c.behind.result.now ahead c.behind.ensures ends.1

pub steps-preserved : goal.steps-preserved
steps-preserved c =
    let levels : List Level = c.pop.new.self.items ++ c.in_ok-level.level ∷ [] in
    let ahead : IsAhead c.args.bytes.now c.steps.seen levels =
    subst (IsAhead c.args.bytes.now c.steps.seen) c.in_ok-level.ensures.items c.steps.invariant in
    let goes : GoesOn (Some c.in-Ok-Some.passed) levels c.behind.result.now c.step.new.levels.items =
    subst (λ o. GoesOn o levels c.behind.result.now c.step.new.levels.items) c.in-Ok-Some.field-0-is c.in-Ok-Some.ensures in
    ahead_goes c.args.bytes.now c.steps.seen c.in-Ok-Some.passed levels c.step.new.levels.items c.behind.result.now ahead c.behind.ensures goes
