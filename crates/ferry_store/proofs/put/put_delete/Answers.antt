use Rattle.std.proofs.Common.{Result, IfErr, ap}
use Rattle.ferry_disk.specs.Act.{History}
use Rattle.ferry_disk.specs.Moments.{Between}
use Rattle.ferry_segment.specs.Entry.{DeleteEntry}
use Rattle.ferry_store.proofs.CallLemmas.{HasPut, delete_err, delete_ok, entry_ends, put_err, put_ok}
use Rattle.ferry_store.proofs.CauseLemmas.{fault_of, only_appends, write_stops}
use Rattle.ferry_store.proofs.CommitLemmas.{did_beside}
use Rattle.ferry_store.proofs.StepLemmas.{err_is}
use Rattle.ferry_store.proofs.put.put_delete.Goals as goal
use Rattle.ferry_store.specs.Causes.{Stops}
use Rattle.ferry_store.specs.Fault.{write_refusal}
use Rattle.ferry_store.specs.State.{Did, KeepsSound, TakesEntry}
use Rattle.ferry_store.specs.declared.fault.StoreRefusal.{StoreRefusal}
use Rattle.ferry_write.specs.Session.{OnlyAppends}

pub returns-in_err-delete-clause-did : goal.returns-in_err-delete-clause-did
returns-in_err-delete-clause-did g c counter =
    let a = g.D.Shelf.told c.args.depot.now in
    let b = g.D.Shelf.told c.delete.new.depot in
    let n = g.D.Shelf.faults c.args.depot.now in
    let m = g.D.Shelf.faults c.delete.new.depot in
    let session = c.args.session.now in
    let now = c.delete.new.self in
    let id = c.args.id.now in
    let entry = DeleteEntry id in
    let fault = c.in_err-delete.field-0.0 in
    let Q : Unit {0} → History → History → Type 0 = λ _ h k. TakesEntry session counter entry now counter h k × OnlyAppends session h k in
    err_is c.from_residual.result (write_refusal fault) (λ (r : Result (Unit {0}) StoreRefusal). Did (KeepsSound session counter) Q a b n m r)
    c.from_residual.ensures.1
    (delete_err session counter id (λ _. HasPut session entry now) Q (write_refusal fault) a b n m
    (put_err {T = Unit {0}} session entry (λ _. HasPut session entry now) fault a b n m c.in_err-delete.ensures.moments c.in_err-delete.ensures.gains
    c.in_err-delete.ensures.beside c.in_err-delete.ensures.cause c.in_err-delete.ensures.ends))

pub returns-clause-did : goal.returns-clause-did
returns-clause-did g c counter =
    let a = g.D.Shelf.told c.args.depot.now in
    let b = g.D.Shelf.told c.delete.new.depot in
    let n = g.D.Shelf.faults c.args.depot.now in
    let m = g.D.Shelf.faults c.delete.new.depot in
    let session = c.args.session.now in
    let now = c.delete.new.self in
    let id = c.args.id.now in
    let entry = DeleteEntry id in
    did_beside {T = Unit {0}} (KeepsSound session counter) (λ _. TakesEntry session counter entry now counter) (OnlyAppends session) a b n m tt
    c.in_ok-delete.ensures.stays
    (delete_ok session now counter id a b n m
    (put_ok {T = Unit {0}} session now entry tt a b n m c.in_ok-delete.ensures.moments c.in_ok-delete.ensures.put c.in_ok-delete.ensures.gains
    c.in_ok-delete.ensures.rows c.in_ok-delete.ensures.beside c.in_ok-delete.ensures.done c.in_ok-delete.ensures.cause c.in_ok-delete.ensures.ends
    (entry_ends session now _ c.in_ok-delete.ensures.ok)))

pub returns-in_err-delete-clause-stops : goal.returns-in_err-delete-clause-stops
returns-in_err-delete-clause-stops g c counter =
    let a = g.D.Shelf.told c.args.depot.now in
    let b = g.D.Shelf.told c.delete.new.depot in
    let session = c.args.session.now in
    let fault = c.in_err-delete.field-0.0 in
    err_is c.from_residual.result (write_refusal fault) (λ (r : Result (Unit {0}) StoreRefusal). IfErr r (λ f. Between a b (Stops session counter f)))
    c.from_residual.ensures.1
    (write_stops session counter fault a b (λ is. (c.in_err-delete.ensures.numbers.0 (ap (fault_of {T = Unit {0}}) is)).1)
    (only_appends session counter a b c.in_err-delete.ensures.stays))
