use Rattle.std.proofs.Common.{ap, ◌∙◌, ◌+◌, ◌-◌, ◌^◌, min, get_or}
use Rattle.ferry_log.proofs.ExtentsLemmas.{counted_at, counted_none}
use Rattle.ferry_log.proofs.extents.count_one.Goals as goal

pub returns-in-Ok : goal.returns-in-Ok
returns-in-Ok c =
    counted_at c.args.extents.now c.args.numbers.now c.in-Ok.i _ c.args.place.now c.saturating_add.result c.requires.same c.requires.increasing
    c.in-Ok.ensures.position
    (c.saturating_add.ensures
    ∙ ap (λ n. min ((get_or c.args.extents.now c.in-Ok.i (record { segment = 0; size = 0; live = 0 })).live + (n + 41)) (2 ^ 64 - 1)) c.from.ensures)

pub returns-in_default : goal.returns-in_default
returns-in_default c =
    counted_none c.args.extents.now c.args.numbers.now c.in_default.field-0 c.args.place.now c.requires.same c.requires.increasing
    c.in_default.ensures.position
