use Rattle.std.proofs.Common.{rules, ◌≡◌, ℕ, List, Result, refl, subst}
use Rattle.ferry_disk.specs.Act.{TellOf}
use Rattle.ferry_carry.proofs.TellLemmas.{tell_nothing}
use Rattle.ferry_piece.proofs.WorkLemmas.{err_is}
use Rattle.ferry_carry.proofs.chosen.tell_name.Goals as goal
use Rattle.ferry_carry.specs.Chosen.{TellsLine}
use Rattle.ferry_carry.specs.Lines.{name_line, told_of}
use Rattle.ferry_piece.specs.Work.{Works}
use Rattle.ferry_piece.specs.declared.fault.CarryFault.{CarryFault}
use Rattle.ferry_piece.specs.declared.fault.CarryFault.TheVariants.{Memory}
use Rattle.ferry_store.specs.State.{IsStep}

pub returns-in_err-line-clause-works : goal.returns-in_err-line-clause-works
returns-in_err-line-clause-works g c =
    let line = name_line (told_of c.args.named) c.args.name.now in
    let a = g.D.Shelf.told c.args.depot.now in
    let n = g.D.Shelf.faults c.args.depot.now in
    err_is c.from_residual.result Memory
    (λ (r : Result (Unit {0}) CarryFault). Works (IsStep (TellOf line)) (λ _. TellsLine line) a a n n r)
    c.from_residual.ensures.1 (tell_nothing {T = Unit {0}} line a n Memory refl)

pub returns-clause-works : goal.returns-clause-works
returns-clause-works g c =
    let a = g.D.Shelf.told c.args.depot.now in
    let b = g.D.Shelf.told c.tell.new.depot in
    let n = g.D.Shelf.faults c.args.depot.now in
    let m = g.D.Shelf.faults c.tell.new.depot in
    let is : c.deref.result.now ≡ name_line (told_of c.args.named) c.args.name.now = search rules in
    subst (λ (line : List ℕ). Works {T = Unit {0}} (IsStep (TellOf line)) (λ _. TellsLine line) a b n m c.tell.result) is
    c.tell.ensures.works
