use Rattle.std.proofs.Common.{sym, ◌∙◌, ap, take, if◌then◌else◌}
use Rattle.std.proofs.lemmas.List.{take-map}
use Rattle.ferry_disk.specs.Acts.{act_of, acts_of}
use Rattle.ferry_disk.specs.Moments.{last_undone}
use Rattle.ferry_disk.proofs.stop.moment_acts.Goals as goal

pub returns-then-choice : goal.returns-then-choice
returns-then-choice c =
    let choice = c.args.choice.now in
    let first = take choice.acts (acts_of c.args.acts.items) in
    c.leave_last_undone.ensures
    ∙ (ap (λ l. last_undone (acts_of l)) c.truncate.ensures.items
    ∙ (ap last_undone (sym (take-map act_of choice.acts c.args.acts.items)) ∙ ap (λ b. if b then last_undone first else first) (sym c.if-choice.true)))

pub returns-else-choice : goal.returns-else-choice
returns-else-choice c =
    let choice = c.args.choice.now in
    let first = take choice.acts (acts_of c.args.acts.items) in
    ap acts_of c.truncate.ensures.items
    ∙ (sym (take-map act_of choice.acts c.args.acts.items) ∙ ap (λ b. if b then last_undone first else first) (sym c.if-choice.false))
