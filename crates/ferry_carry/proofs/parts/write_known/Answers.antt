use Rattle.std.proofs.Common.{◌++◌, Result, refl}
use Rattle.std.specs.List.{concat}
use Rattle.ferry_carry.proofs.PartsLemmas.{bytes_none, bytes_then, known_passed}
use Rattle.ferry_carry.proofs.parts.write_known.Goals as goal
use Rattle.ferry_carry.specs.Parts.{WritesBytes}
use Rattle.ferry_carry.specs.States.{target_state}
use Rattle.ferry_piece.proofs.FewLemmas.{memory_unused}
use Rattle.ferry_piece.proofs.GatherLemmas.{rest_here}
use Rattle.ferry_piece.proofs.WorkLemmas.{err_is}
use Rattle.ferry_piece.specs.Puts.{Content}
use Rattle.ferry_piece.specs.declared.fault.CarryFault.{CarryFault}
use Rattle.ferry_piece.specs.declared.fault.CarryFault.TheVariants.{Memory}

pub returns-in_err-pass-clause-written : goal.returns-in_err-pass-clause-written
returns-in_err-pass-clause-written g c = λ wholes are full answered.
    let writer = c.args.writer.now in
    let target = target_state (g.D.Shelf.told c.args.depot.now) (g.D.Shelf.faults c.args.depot.now) c.args.store.now in
    err_is c.from_residual.result Memory
    (λ (r : Result (Unit {0}) CarryFault). WritesBytes writer.checkpoint target target (concat wholes ++ c.args.behind.now) writer c.pass.new.self r)
    c.from_residual.ensures.1
    (bytes_none {T = Unit {0}} writer.checkpoint target (concat wholes ++ c.args.behind.now) writer c.pass.new.self Memory refl tt memory_unused)

pub returns-clause-written : goal.returns-clause-written
returns-clause-written g c = λ wholes are full answered.
    let writer = c.args.writer.now in
    let passed = c.pass.new.self in
    let store = c.args.store.now in
    let target = target_state (g.D.Shelf.told c.args.depot.now) (g.D.Shelf.faults c.args.depot.now) store in
    let now = target_state (g.D.Shelf.told c.write.new.depot) (g.D.Shelf.faults c.write.new.depot) c.write.new.store in
    bytes_then {T = Unit {0}} {U = Unit {0}} writer.checkpoint writer.checkpoint passed.checkpoint target target now (concat wholes) c.args.behind.now
    writer passed c.write.new.self tt c.write.result refl c.pass.ensures.others.1 (rest_here store) c.write.ensures.rest c.requires.writer.room
    (known_passed writer.checkpoint target writer passed c.args.pieces.now wholes c.requires.writer.checkpoint c.requires.writer.room c.requires.between full
    are answered c.pass.ensures.others.0 c.in_ok-pass.ensures.chunks c.pass.ensures.counted.0 c.pass.ensures.counted.1)
    (c.write.ensures.written Content refl)
