use Rattle.ferry_status.specs.Opened.{NeedsNumber}
use Rattle.std.proofs.Common.{Result, Ok, [], ◌≡◌, ℕ, IfErr}
use Rattle.ferry_piece.proofs.WorkLemmas.{err_is}
use Rattle.ferry_piece.specs.Fault.{IsOfReading, target_fault}
use Rattle.ferry_piece.specs.Work.{Works}
use Rattle.ferry_piece.specs.declared.fault.CarryFault.{CarryFault}
use Rattle.ferry_run_delete.proofs.EndLemmas.{all_works, untold_works}
use Rattle.ferry_run_delete.proofs.command.delete_and_tell.Goals as goal
use Rattle.ferry_run_delete.specs.Delete.{HasDeleted}
use Rattle.ferry_run_delete.specs.Steps.{GoesAway}
use Rattle.ferry_run_delete.proofs.ShowLemmas.{DeleteEach, deletion}
use Rattle.ferry_status.proofs.OpenedLemmas.{known_then, fault_number, has_number, number_of}
use Rattle.ferry_status.proofs.UnreadLemmas.{telling_apart}
use Rattle.ferry_disk.specs.Moments.{Between}
use Rattle.ferry_write.specs.Front.{OnlyRemoves}
use Rattle.ferry_write.specs.Script.{AllDone}

pub returns-in_err-tell_deleted-clause-works : goal.returns-in_err-tell_deleted-clause-works
returns-in_err-tell_deleted-clause-works g c =
    let asked = deletion c.args.secret.now c.args.name.now c.args.timestamp.now in
    let a = g.D.Shelf.told c.args.target.now in
    let b = g.D.Shelf.told c.delete_archive.new.target in
    let d = g.D.Shelf.told c.tell_deleted.new.target in
    let n = g.D.Shelf.faults c.args.target.now in
    let m = g.D.Shelf.faults c.delete_archive.new.target in
    let k = g.D.Shelf.faults c.tell_deleted.new.target in
    let refusal = c.in_err-tell_deleted.field-0.0 in
    err_is c.from_residual-in_err-tell_deleted.result (target_fault refusal)
    (λ (r : Result (Unit {0}) CarryFault). Works (DeleteEach asked) (λ _ h g. h.acts ≡ [] → HasDeleted asked.secret asked.name asked.timestamp h g) a d n k r)
    c.from_residual-in_err-tell_deleted.ensures.1
    (untold_works asked c.in_ok-count.count a b d n m k refusal c.in_ok-count.ensures.works c.in_err-tell_deleted.ensures.did)

pub returns-clause-works : goal.returns-clause-works
returns-clause-works g c =
    let asked = deletion c.args.secret.now c.args.name.now c.args.timestamp.now in
    all_works asked c.in_ok-count.count (g.D.Shelf.told c.args.target.now) (g.D.Shelf.told c.delete_archive.new.target)
    (g.D.Shelf.told c.tell_deleted.new.target) (g.D.Shelf.faults c.args.target.now) (g.D.Shelf.faults c.delete_archive.new.target)
    (g.D.Shelf.faults c.tell_deleted.new.target) c.in_ok-count.ensures.works c.in_ok-tell_deleted.ensures.did

pub returns-in_err-tell_deleted-clause-shut : goal.returns-in_err-tell_deleted-clause-shut
returns-in_err-tell_deleted-clause-shut g c =
    let asked = deletion c.args.secret.now c.args.name.now c.args.timestamp.now in
    known_then c.args.secret.now (g.D.Shelf.told c.args.target.now) (g.D.Shelf.told c.delete_archive.new.target) (g.D.Shelf.told c.tell_deleted.new.target)
    (λ h k. AllDone h k × GoesAway asked.secret asked.name asked.timestamp c.in_ok-count.count h k) _ c.requires.begun
    (number_of {T = ℕ} (λ fault. ⊥) c.args.secret.now (g.D.Shelf.told c.args.target.now) c.in_ok-count.count c.in_ok-count.ensures.number)
    (λ h k acts e. let gone = e.1 acts in (gone.repo, gone.opens))
    c.in_ok-count.ensures.works.end c.in_err-tell_deleted.ensures.did.each

pub returns-clause-shut : goal.returns-clause-shut
returns-clause-shut g c =
    let asked = deletion c.args.secret.now c.args.name.now c.args.timestamp.now in
    known_then c.args.secret.now (g.D.Shelf.told c.args.target.now) (g.D.Shelf.told c.delete_archive.new.target) (g.D.Shelf.told c.tell_deleted.new.target)
    (λ h k. AllDone h k × GoesAway asked.secret asked.name asked.timestamp c.in_ok-count.count h k) _ c.requires.begun
    (number_of {T = ℕ} (λ fault. ⊥) c.args.secret.now (g.D.Shelf.told c.args.target.now) c.in_ok-count.count c.in_ok-count.ensures.number)
    (λ h k acts e. let gone = e.1 acts in (gone.repo, gone.opens))
    c.in_ok-count.ensures.works.end c.in_ok-tell_deleted.ensures.did.each

pub returns-in_err-count-clause-number : goal.returns-in_err-count-clause-number
returns-in_err-count-clause-number g c =
    let fault = c.in_err-count.field-0.0 in
    err_is c.from_residual.result fault
    (λ (r : Result (Unit {0}) CarryFault). NeedsNumber (λ fault. ⊥) c.args.secret.now (g.D.Shelf.told c.args.target.now) r)
    c.from_residual.ensures.1
    (fault_number ℕ (Unit {0}) (λ fault. ⊥) c.args.secret.now (g.D.Shelf.told c.args.target.now) fault c.in_err-count.ensures.number)

pub returns-in_err-tell_deleted-clause-number : goal.returns-in_err-tell_deleted-clause-number
returns-in_err-tell_deleted-clause-number g c =
    has_number {T = Unit {0}} (λ fault. ⊥) c.args.secret.now (g.D.Shelf.told c.args.target.now) _
    (number_of {T = ℕ} (λ fault. ⊥) c.args.secret.now (g.D.Shelf.told c.args.target.now) c.in_ok-count.count c.in_ok-count.ensures.number)

pub returns-clause-number : goal.returns-clause-number
returns-clause-number g c =
    has_number {T = Unit {0}} (λ fault. ⊥) c.args.secret.now (g.D.Shelf.told c.args.target.now) (Ok tt)
    (number_of {T = ℕ} (λ fault. ⊥) c.args.secret.now (g.D.Shelf.told c.args.target.now) c.in_ok-count.count c.in_ok-count.ensures.number)

pub returns-in_err-tell_deleted-clause-unwritten : goal.returns-in_err-tell_deleted-clause-unwritten
returns-in_err-tell_deleted-clause-unwritten g c =
    let refusal = c.in_err-tell_deleted.field-0.0 in
    err_is c.from_residual-in_err-tell_deleted.result (target_fault refusal)
    (λ (r : Result (Unit {0}) CarryFault). IfErr r (λ (f : CarryFault). IsOfReading f
    → Between (g.D.Shelf.told c.args.target.now) (g.D.Shelf.told c.tell_deleted.new.target) OnlyRemoves))
    c.from_residual-in_err-tell_deleted.ensures.1
    (λ of. absurd (telling_apart refusal c.in_err-tell_deleted.ensures.refused of))
