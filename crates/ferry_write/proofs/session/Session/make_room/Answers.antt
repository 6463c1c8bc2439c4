use Rattle.std.proofs.Common.{ℕ, Result, sym}
use Rattle.ferry_write.specs.Room.{must_begin, room_steps}
use Rattle.ferry_write.specs.Script.{Ran}
use Rattle.ferry_write.specs.declared.fault.WriteFault.{WriteFault}
use Rattle.ferry_write.specs.declared.room.Room.{Room}
use Rattle.ferry_write.proofs.RoomLemmas.{kept_room_ran, no_step_ran}
use Rattle.ferry_write.proofs.ScriptLemmas.{err_is}
use Rattle.ferry_write.proofs.session.Session.make_room.Goals as goal

pub returns-then-not-is_full-clause-ran : goal.returns-then-not-is_full-clause-ran
returns-then-not-is_full-clause-ran g c =
    kept_room_ran c.args.self.now.last c.args.self.now.size c.in-Some-Some.segment c.in-Some-Some.at c.args.self.now.limit c.args.more
    (g.D.Shelf.told c.args.depot.now) (g.D.Shelf.faults c.args.depot.now) (record { segment = c.in-Some-Some.segment; at = c.in-Some-Some.at })
    c.in-Some-Some.is-0 c.in-Some-Some.is-1 (sym c.if-not-is_full.ensures.full)

pub returns-in_err-segment-clause-ran : goal.returns-in_err-segment-clause-ran
returns-in_err-segment-clause-ran g c =
    let s = c.args.self.now in
    let steps = room_steps s.last s.size (must_begin s.last s.size s.limit c.args.more) in
    let a = g.D.Shelf.told c.args.depot.now in
    let n = g.D.Shelf.faults c.args.depot.now in
    err_is c.from_residual.result c.in_err-segment.field-0.0 (λ (r : Result Room WriteFault). Ran steps a a n n r) c.from_residual.ensures.1
    (no_step_ran {U = ℕ} steps a n c.in_err-segment.field-0.0 c.in_err-segment.ensures.device)
