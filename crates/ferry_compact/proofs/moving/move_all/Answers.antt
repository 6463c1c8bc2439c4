use Rattle.std.proofs.Common.{◌+◌, Result, Ok, Err, drop, get_or}
use Rattle.std.proofs.lemmas.List.{drop_all, drop_more}
use Rattle.ferry_compact.proofs.MovedLogLemmas.{log_begun, log_more, log_stopped, log_whole}
use Rattle.ferry_compact.proofs.ReadingLemmas.{err_is}
use Rattle.ferry_compact.specs.Steps.{Did, EachOfLog, MovesLog, RefusesLog}
use Rattle.ferry_compact.specs.declared.fault.CompactFault.{CompactFault}
use Rattle.ferry_log.specs.declared.place.Extent.{Extent}
use Rattle.ferry_compact.proofs.moving.move_all.Goals as goal

pub loop-extent-init : goal.loop-extent-init
loop-extent-init g c = record {
  did = log_begun c.args.log.now c.args.stays.now.entries c.args.extents.now c.args.chosen.now c.args.session.now (g.D.Shelf.told c.args.depot.now)
      (g.D.Shelf.faults c.args.depot.now);
  unspent = c.requires.unspent;
}

pub returns-in_err-move_where-clause-did : goal.returns-in_err-move_where-clause-did
returns-in_err-move_where-clause-did g c =
    let a = g.D.Shelf.told c.args.depot.now in
    let b = g.D.Shelf.told c.loop-extent.depot in
    let d = g.D.Shelf.told c.move_where.new.depot in
    let n = g.D.Shelf.faults c.args.depot.now in
    let m = g.D.Shelf.faults c.loop-extent.depot in
    let k = g.D.Shelf.faults c.move_where.new.depot in
    let log = c.args.log.now in
    let notes = c.args.stays.now.entries in
    let extents = c.args.extents.now in
    let chosen = c.args.chosen.now in
    let i = c.loop-extent.extent-index in
    let none : Extent = record { segment = 0; size = 0; live = 0 } in
    let old = c.args.session.now in
    let mid = c.loop-extent.session in
    let now = c.move_where.new.session in
    let fault = c.in_err-move_where.field-0.0 in
    err_is c.from_residual.result fault
    (λ (r : Result (Unit {0}) CompactFault). Did (EachOfLog extents chosen old) (MovesLog log notes extents chosen old now) (RefusesLog extents chosen old)
    a d n k r) c.from_residual.ensures.1
    (log_stopped log notes extents chosen (drop (i + 1) extents) old now now fault a d n k
    (log_more log notes extents chosen (drop i extents) (drop (i + 1) extents) (get_or extents i none) old mid now a b d n m k (Err fault)
    (drop_more extents i none c.loop-extent-test.true) c.loop-extent.invariant.did c.in_err-move_where.ensures.did))

pub loop-extent-preserved : goal.loop-extent-preserved
loop-extent-preserved g c =
    let a = g.D.Shelf.told c.args.depot.now in
    let b = g.D.Shelf.told c.loop-extent.depot in
    let d = g.D.Shelf.told c.move_where.new.depot in
    let n = g.D.Shelf.faults c.args.depot.now in
    let m = g.D.Shelf.faults c.loop-extent.depot in
    let k = g.D.Shelf.faults c.move_where.new.depot in
    let extents = c.args.extents.now in
    let i = c.loop-extent.extent-index in
    let none : Extent = record { segment = 0; size = 0; live = 0 } in
    record {
      did = log_more c.args.log.now c.args.stays.now.entries extents c.args.chosen.now (drop i extents) (drop (i + 1) extents) (get_or extents i none)
          c.args.session.now c.loop-extent.session c.move_where.new.session a b d n m k (Ok tt) (drop_more extents i none c.loop-extent-test.true)
          c.loop-extent.invariant.did c.in_ok-move_where.ensures.did;
      unspent = c.in_ok-move_where.ensures.unspent;
    }

pub returns-clause-did : goal.returns-clause-did
returns-clause-did g c =
    let extents = c.args.extents.now in
    let i = c.loop-extent.extent-index in
    log_whole c.args.log.now c.args.stays.now.entries extents c.args.chosen.now (drop i extents) c.args.session.now c.loop-extent.session
    (g.D.Shelf.told c.args.depot.now) (g.D.Shelf.told c.loop-extent.depot) (g.D.Shelf.faults c.args.depot.now)
    (g.D.Shelf.faults c.loop-extent.depot) (drop_all i extents c.loop-extent-test.false) c.loop-extent.invariant.did
