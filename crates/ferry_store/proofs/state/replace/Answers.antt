use Rattle.std.proofs.Common.{◌≡◌, true, Result}
use Rattle.ferry_disk.specs.Act.{ReplaceBy, with_act}
use Rattle.ferry_store.proofs.CallLemmas.{replace_ok, replace_err}
use Rattle.ferry_store.proofs.StepLemmas.{err_is}
use Rattle.ferry_store.proofs.state.replace.Goals as goal
use Rattle.ferry_store.specs.Fault.{store_refusal}
use Rattle.ferry_store.specs.State.{Did, IsStep}
use Rattle.ferry_store.specs.declared.fault.StoreRefusal.{StoreRefusal}
use Rattle.ferry_stops.proofs.TellLemmas.{told_act}

pub returns-in_err-replace-clause-did : goal.returns-in_err-replace-clause-did
returns-in_err-replace-clause-did g c =
    let step = ReplaceBy c.args.name c.args.bytes.now in
    let a = g.D.Shelf.told c.args.depot.now in
    let b = g.D.Shelf.told c.replace.new.self in
    let n = g.D.Shelf.faults c.args.depot.now in
    let m = g.D.Shelf.faults c.replace.new.self in
    err_is c.from_residual.result (store_refusal c.in_err-replace.field-0.0)
    (λ (r : Result (Unit {0}) StoreRefusal). Did (IsStep step) (λ _ h i. i ≡ with_act step true h) a b n m r) c.from_residual.ensures.1
    (replace_err step a b n m c.in_err-replace.field-0.0 c.in_err-replace.ensures.act c.in_err-replace.ensures.cause)

pub returns-clause-did : goal.returns-clause-did
returns-clause-did g c =
    replace_ok (ReplaceBy c.args.name c.args.bytes.now) (g.D.Shelf.told c.args.depot.now) (g.D.Shelf.told c.replace.new.self)
    (g.D.Shelf.faults c.args.depot.now) (g.D.Shelf.faults c.replace.new.self) c.in_ok-replace.ensures.act c.in_ok-replace.ensures.cause

pub returns-in_err-replace-clause-untold : goal.returns-in_err-replace-clause-untold
returns-in_err-replace-clause-untold g c =
    told_act (ReplaceBy c.args.name c.args.bytes.now) (g.D.Shelf.told c.args.depot.now) (g.D.Shelf.told c.replace.new.self) c.replace.result tt
    c.replace.ensures.act

pub returns-clause-untold : goal.returns-clause-untold
returns-clause-untold g c =
    told_act (ReplaceBy c.args.name c.args.bytes.now) (g.D.Shelf.told c.args.depot.now) (g.D.Shelf.told c.replace.new.self) c.replace.result tt
    c.replace.ensures.act
