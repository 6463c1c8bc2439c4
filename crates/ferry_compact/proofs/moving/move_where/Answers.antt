use Rattle.std.proofs.Common.{sym, ◌∙◌}
use Rattle.ferry_compact.proofs.MovedLogLemmas.{where_moved, where_passed}
use Rattle.ferry_compact.proofs.moving.move_where.Goals as goal

pub returns-clause-did : goal.returns-clause-did
returns-clause-did g c =
    where_moved c.args.log.now c.args.stays.now.entries c.args.extent.now c.args.chosen.now c.args.session.now c.move_segment.new.session
    (g.D.Shelf.told c.args.depot.now) (g.D.Shelf.told c.move_segment.new.depot) (g.D.Shelf.faults c.args.depot.now)
    (g.D.Shelf.faults c.move_segment.new.depot) c.move_segment.result (λ up. sym (c.is_among.ensures up) ∙ c.if-not-is_among.false)
    c.move_segment.ensures.did

pub returns-then-not-is_among-clause-did : goal.returns-then-not-is_among-clause-did
returns-then-not-is_among-clause-did g c =
    where_passed c.args.log.now c.args.stays.now.entries c.args.extent.now c.args.chosen.now c.args.session.now (g.D.Shelf.told c.args.depot.now)
    (g.D.Shelf.faults c.args.depot.now) (λ up. sym (c.is_among.ensures up) ∙ c.if-not-is_among.true)
