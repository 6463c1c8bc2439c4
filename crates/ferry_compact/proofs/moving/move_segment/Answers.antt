use Rattle.std.proofs.Common.{◌≡◌, false, Result, Ok, Err, arith, refl, sym, subst}
use Rattle.ferry_compact.proofs.MovedLemmas.{head_unread, place_refused, segment_begun, segment_more, segment_stopped}
use Rattle.ferry_compact.proofs.MovedLemmas.{segment_whole}
use Rattle.ferry_compact.proofs.ReadingLemmas.{err_is}
use Rattle.ferry_compact.proofs.StepLemmas.{Reads, read_err, read_ok}
use Rattle.ferry_compact.specs.Fault.{compact_failed}
use Rattle.ferry_compact.specs.Reading.{IsOutside, IsPlace}
use Rattle.ferry_compact.specs.Steps.{Did, EachOfSegment, MovesSegment, RefusesSegment}
use Rattle.ferry_compact.specs.declared.fault.CompactFault.{CompactFault}
use Rattle.ferry_disk.specs.Files.{segment_bytes}
use Rattle.ferry_segment.specs.Head.{HasHead}
use Rattle.ferry_segment.specs.declared.head.Head.{Head}
use Rattle.ferry_compact.proofs.moving.move_segment.Goals as goal

pub loop-at-init : goal.loop-at-init
loop-at-init g c = record {
  did = segment_begun c.args.log.now c.args.stays.now.entries c.args.extent.now c.args.session.now (g.D.Shelf.told c.args.depot.now)
      (g.D.Shelf.faults c.args.depot.now);
  unspent = c.requires.unspent;
}

pub returns-in_err-head-clause-did : goal.returns-in_err-head-clause-did
returns-in_err-head-clause-did g c =
    let a = g.D.Shelf.told c.args.depot.now in
    let b = g.D.Shelf.told c.loop-at.depot in
    let d = g.D.Shelf.told c.head_there.new.depot in
    let n = g.D.Shelf.faults c.args.depot.now in
    let m = g.D.Shelf.faults c.loop-at.depot in
    let k = g.D.Shelf.faults c.head_there.new.depot in
    let log = c.args.log.now in
    let notes = c.args.stays.now.entries in
    let extent = c.args.extent.now in
    let old = c.args.session.now in
    let mid = c.loop-at.session in
    let at = c.loop-at.at in
    let fault = c.in_err-head.field-0.0 in
    err_is c.from_residual.result fault
    (λ (r : Result (Unit {0}) CompactFault). Did (EachOfSegment extent old) (MovesSegment log notes extent old mid) (RefusesSegment extent old) a d n k r)
    c.from_residual.ensures.1
    (head_unread log notes extent at old mid mid fault a b d n m k c.loop-at-test.true c.loop-at.invariant.did
    (read_err Head Reads (λ f files. IsPlace files extent at → IsOutside f) b d m k fault
    c.in_err-head.ensures.same c.in_err-head.ensures.cause c.in_err-head.ensures.head))

pub returns-in_err-place-clause-did : goal.returns-in_err-place-clause-did
returns-in_err-place-clause-did g c =
    let a = g.D.Shelf.told c.args.depot.now in
    let b = g.D.Shelf.told c.loop-at.depot in
    let d = g.D.Shelf.told c.head_there.new.depot in
    let n = g.D.Shelf.faults c.args.depot.now in
    let m = g.D.Shelf.faults c.loop-at.depot in
    let k = g.D.Shelf.faults c.head_there.new.depot in
    let log = c.args.log.now in
    let notes = c.args.stays.now.entries in
    let extent = c.args.extent.now in
    let old = c.args.session.now in
    let mid = c.loop-at.session in
    let at = c.loop-at.at in
    let head = c.in_ok-head.head in
    let fault = c.in_err-place.field-0.0 in
    err_is c.from_residual-in_err-place.result fault
    (λ (r : Result (Unit {0}) CompactFault). Did (EachOfSegment extent old) (MovesSegment log notes extent old mid) (RefusesSegment extent old) a d n k r)
    c.from_residual-in_err-place.ensures.1
    (place_refused log notes extent at head old mid mid fault (λ f h i. Unit {0}) a b d n m k c.loop-at-test.true (omega arith)
    (subst (λ (f : CompactFault). compact_failed f ≡ false) (sym c.in_err-place.ensures.refused.0) refl) c.in_err-place.ensures.refused.1
    c.loop-at.invariant.did
    (read_ok (λ files. IsPlace files extent at → HasHead (segment_bytes files extent.segment) at head) (λ f h i. Unit {0}) b d m k head
    c.in_ok-head.ensures.same c.in_ok-head.ensures.cause c.in_ok-head.ensures.head))

pub returns-in_err-move_entry-clause-did : goal.returns-in_err-move_entry-clause-did
returns-in_err-move_entry-clause-did g c =
    let a = g.D.Shelf.told c.args.depot.now in
    let b = g.D.Shelf.told c.loop-at.depot in
    let d = g.D.Shelf.told c.head_there.new.depot in
    let e = g.D.Shelf.told c.move_entry.new.depot in
    let n = g.D.Shelf.faults c.args.depot.now in
    let m = g.D.Shelf.faults c.loop-at.depot in
    let k = g.D.Shelf.faults c.head_there.new.depot in
    let l = g.D.Shelf.faults c.move_entry.new.depot in
    let log = c.args.log.now in
    let notes = c.args.stays.now.entries in
    let extent = c.args.extent.now in
    let old = c.args.session.now in
    let mid = c.loop-at.session in
    let now = c.move_entry.new.session in
    let at = c.loop-at.at in
    let head = c.in_ok-head.head in
    let place = c.in_ok-place.place in
    let fault = c.in_err-move_entry.field-0.0 in
    err_is c.from_residual-in_err-move_entry.result fault
    (λ (r : Result (Unit {0}) CompactFault). Did (EachOfSegment extent old) (MovesSegment log notes extent old now) (RefusesSegment extent old) a e n l r)
    c.from_residual-in_err-move_entry.ensures.1
    (segment_stopped log notes extent place old now now fault a e n l
    (segment_more log notes extent at place head old mid now (λ f h i. Unit {0}) a b d e n m k l (Err fault) c.loop-at-test.true c.in_ok-place.ensures.place.0
    c.loop-at.invariant.did
    (read_ok (λ files. IsPlace files extent at → HasHead (segment_bytes files extent.segment) at head) (λ f h i. Unit {0}) b d m k head
    c.in_ok-head.ensures.same c.in_ok-head.ensures.cause c.in_ok-head.ensures.head)
    c.in_err-move_entry.ensures.did))

pub loop-at-preserved : goal.loop-at-preserved
loop-at-preserved g c =
    let a = g.D.Shelf.told c.args.depot.now in
    let b = g.D.Shelf.told c.loop-at.depot in
    let d = g.D.Shelf.told c.head_there.new.depot in
    let e = g.D.Shelf.told c.move_entry.new.depot in
    let n = g.D.Shelf.faults c.args.depot.now in
    let m = g.D.Shelf.faults c.loop-at.depot in
    let k = g.D.Shelf.faults c.head_there.new.depot in
    let l = g.D.Shelf.faults c.move_entry.new.depot in
    let head = c.in_ok-head.head in
    record {
      did = segment_more c.args.log.now c.args.stays.now.entries c.args.extent.now c.loop-at.at c.in_ok-place.place head c.args.session.now
          c.loop-at.session c.move_entry.new.session (λ f h i. Unit {0}) a b d e n m k l (Ok tt) c.loop-at-test.true
          c.in_ok-place.ensures.place.0 c.loop-at.invariant.did
          (read_ok (λ files. IsPlace files c.args.extent.now c.loop-at.at → HasHead (segment_bytes files c.args.extent.now.segment) c.loop-at.at head)
          (λ f h i. Unit {0}) b d m k head
          c.in_ok-head.ensures.same c.in_ok-head.ensures.cause c.in_ok-head.ensures.head)
          c.in_ok-move_entry.ensures.did;
      unspent = c.in_ok-move_entry.ensures.unspent;
    }

pub returns-clause-did : goal.returns-clause-did
returns-clause-did g c =
    let a = g.D.Shelf.told c.args.depot.now in
    let b = g.D.Shelf.told c.loop-at.depot in
    let n = g.D.Shelf.faults c.args.depot.now in
    let m = g.D.Shelf.faults c.loop-at.depot in
    segment_whole c.args.log.now c.args.stays.now.entries c.args.extent.now c.loop-at.at c.args.session.now c.loop-at.session a b n m c.loop-at-test.false
    c.loop-at.invariant.did
