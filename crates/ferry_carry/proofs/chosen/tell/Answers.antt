use Rattle.std.proofs.Common.{◌≡◌, true, Result, IfErr, rules}
use Rattle.ferry_disk.specs.Act.{TellOf}
use Rattle.ferry_carry.proofs.AcceptingLemmas.{store_telling}
use Rattle.ferry_carry.proofs.TellLemmas.{tell_fits, tell_works, untold_works}
use Rattle.ferry_piece.proofs.WorkLemmas.{err_is}
use Rattle.ferry_carry.proofs.chosen.tell.Goals as goal
use Rattle.ferry_carry.specs.Chosen.{TellsLine}
use Rattle.ferry_piece.specs.Fault.{target_fault}
use Rattle.ferry_carry.specs.Refusals.{is_of_telling}
use Rattle.ferry_piece.specs.Work.{Works}
use Rattle.ferry_piece.specs.declared.fault.CarryFault.{CarryFault}
use Rattle.ferry_store.specs.Fault.{store_refusal}
use Rattle.ferry_store.specs.State.{IsStep}

pub returns-in_err-tell-clause-works : goal.returns-in_err-tell-clause-works
returns-in_err-tell-clause-works g c =
    let line = c.args.line.now in
    let a = g.D.Shelf.told c.args.depot.now in
    let b = g.D.Shelf.told c.tell.new.self in
    let n = g.D.Shelf.faults c.args.depot.now in
    let m = g.D.Shelf.faults c.tell.new.self in
    let fault = c.in_err-tell.field-0.0 in
    err_is c.from_residual.result (target_fault (store_refusal fault))
    (λ (r : Result (Unit {0}) CarryFault). Works (IsStep (TellOf line)) (λ _. TellsLine line) a b n m r)
    c.from_residual.ensures.1 (untold_works line a b n m fault c.in_err-tell.ensures.act c.in_err-tell.ensures.cause)

pub returns-clause-works : goal.returns-clause-works
returns-clause-works g c =
    tell_works c.args.line.now (g.D.Shelf.told c.args.depot.now) (g.D.Shelf.told c.tell.new.self) (g.D.Shelf.faults c.args.depot.now)
    (g.D.Shelf.faults c.tell.new.self) c.in_ok-tell.ensures.act c.in_ok-tell.ensures.cause

pub returns-clause-target : goal.returns-clause-target
returns-clause-target g c = record {
  fits =
      let line = c.args.line.now in
      let a = g.D.Shelf.told c.args.depot.now in
      let b = g.D.Shelf.told c.tell.new.self in
      let n = g.D.Shelf.faults c.args.depot.now in
      let m = g.D.Shelf.faults c.tell.new.self in
      tell_fits {T = Unit {0}} c.args.store.now line a b n m tt c.requires.fits
      (tell_works line a b n m c.in_ok-tell.ensures.act c.in_ok-tell.ensures.cause);
  stops = search rules;
  telling = search rules;
  refusal = search rules;
}

pub returns-in_err-tell-clause-target : goal.returns-in_err-tell-clause-target
returns-in_err-tell-clause-target g c = record {
  fits = search rules;
  stops = search rules;
  telling =
      let fault = c.in_err-tell.field-0.0 in
      err_is c.from_residual.result (target_fault (store_refusal fault))
      (λ (r : Result (Unit {0}) CarryFault). IfErr r (λ (f : CarryFault). is_of_telling f ≡ true)) c.from_residual.ensures.1 (store_telling fault);
  refusal = search rules;
}
