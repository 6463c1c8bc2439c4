use Rattle.std.proofs.Common.{rules, ◌≢◌, [], Result, arith}
use Rattle.ferry_carry.proofs.UnnamedLemmas.{nothing_pending, pending_committed, pending_uncommitted}
use Rattle.ferry_piece.proofs.WorkLemmas.{err_is}
use Rattle.ferry_carry.proofs.flight.present.Goals as goal
use Rattle.ferry_piece.specs.Gather.{GathersAt, KeepsStandingAt}
use Rattle.ferry_piece.specs.Puts.{AtBegin}
use Rattle.ferry_piece.specs.Work.{Works}
use Rattle.ferry_piece.specs.declared.fault.CarryFault.{CarryFault}
use Rattle.ferry_carry.specs.declared.flight.Turn.{Turn}
use Rattle.ferry_carry.specs.declared.flight.Turn.TheVariants.{Present}
use Rattle.ferry_piece.proofs.FewLemmas.{begun_as, begun_none, begun_same}
use Rattle.ferry_piece.specs.Adding.{BeginsSegments}

pub returns-then-pending-eq0-clause-works : goal.returns-then-pending-eq0-clause-works
returns-then-pending-eq0-clause-works g c =
    λ most. nothing_pending {T = Turn} most c.args.store.now (g.D.Shelf.told c.args.depot.now) (g.D.Shelf.faults c.args.depot.now) Present

pub returns-in_err-commit_pieces-clause-works : goal.returns-in_err-commit_pieces-clause-works
returns-in_err-commit_pieces-clause-works g c =
    λ most.
    let store = c.args.store.now in
    let now = c.commit_pieces.new.store in
    let a = g.D.Shelf.told c.args.depot.now in
    let b = g.D.Shelf.told c.commit_pieces.new.depot in
    let n = g.D.Shelf.faults c.args.depot.now in
    let m = g.D.Shelf.faults c.commit_pieces.new.depot in
    let fault = c.in_err-commit_pieces.field-0.0 in
    let some : store.pending ≢ 0 = search rules in
    err_is c.from_residual.result fault
    (λ (r : Result Turn CarryFault). Works (KeepsStandingAt AtBegin most store []) (λ (_ : Turn). GathersAt AtBegin most store [] now) a b n m r)
    c.from_residual.ensures.1
    (pending_uncommitted {T = Unit {0}} {U = Turn} most store now a b n m fault some c.in_err-commit_pieces.ensures.works)

pub returns-clause-works : goal.returns-clause-works
returns-clause-works g c =
    λ most.
    let store = c.args.store.now in
    let some : store.pending ≢ 0 = search rules in
    pending_committed {T = Unit {0}} {U = Turn} most store c.commit_pieces.new.store (g.D.Shelf.told c.args.depot.now)
    (g.D.Shelf.told c.commit_pieces.new.depot) (g.D.Shelf.faults c.args.depot.now) (g.D.Shelf.faults c.commit_pieces.new.depot) tt Present
    c.in_ok-commit_pieces.ensures.repo some c.in_ok-commit_pieces.ensures.works

pub returns-then-pending-eq0-clause-few : goal.returns-then-pending-eq0-clause-few
returns-then-pending-eq0-clause-few g c = begun_none {T = Turn} 1 c.args.store.now Present

pub returns-in_err-commit_pieces-clause-few : goal.returns-in_err-commit_pieces-clause-few
returns-in_err-commit_pieces-clause-few g c =
    let store = c.args.store.now in
    let now = c.commit_pieces.new.store in
    let fault = c.in_err-commit_pieces.field-0.0 in
    err_is c.from_residual.result fault (λ (r : Result Turn CarryFault). BeginsSegments 1 store now r) c.from_residual.ensures.1
    (begun_same {T = Unit {0}} {U = Turn} 1 1 store now fault (omega arith) c.in_err-commit_pieces.ensures.few)

pub returns-clause-few : goal.returns-clause-few
returns-clause-few g c =
    begun_as {T = Unit {0}} {U = Turn} 1 1 c.args.store.now c.commit_pieces.new.store tt Present (omega arith) c.in_ok-commit_pieces.ensures.few
