use Rattle.std.proofs.Common.{rules, ◌≡◌, inl, ℕ, true, List, Result, Ok, Err, refl, subst}
use Rattle.ferry_disk.specs.Act.{TellOf, with_act}
use Rattle.ferry_disk.specs.Device.{Acts}
use Rattle.ferry_store.proofs.StepLemmas.{did_nothing, err_is}
use Rattle.ferry_store.specs.Fault.{store_refusal}
use Rattle.ferry_store.specs.State.{Did, IsStep}
use Rattle.ferry_store.specs.declared.fault.StoreRefusal.{StoreRefusal}
use Rattle.ferry_store.specs.declared.fault.StoreRefusal.TheVariants.{Memory}
use Rattle.ferry_status.proofs.TellLemmas.{told_line, untold_line}
use Rattle.ferry_run_tag.proofs.command.tell_tagged.Goals as goal
use Rattle.ferry_run_tag.specs.Tag.{tagged_line}

pub returns-in_err-line-clause-did : goal.returns-in_err-line-clause-did
returns-in_err-line-clause-did g c =
    let step = TellOf (tagged_line c.args.count) in
    let a = g.D.Shelf.told c.args.target.now in
    let n = g.D.Shelf.faults c.args.target.now in
    err_is c.from_residual.result Memory
    (λ (r : Result (Unit {0}) StoreRefusal). Did (IsStep step) (λ _ h g. g ≡ with_act step true h) a a n n r) c.from_residual.ensures.1
    (did_nothing {T = Unit {0}} (IsStep step) (λ _ h g. g ≡ with_act step true h) a n Memory refl (λ h. inl refl))

pub returns-in_err-tell-clause-did : goal.returns-in_err-tell-clause-did
returns-in_err-tell-clause-did g c =
    let step = TellOf (tagged_line c.args.count) in
    let a = g.D.Shelf.told c.args.target.now in
    let b = g.D.Shelf.told c.tell.new.self in
    let n = g.D.Shelf.faults c.args.target.now in
    let m = g.D.Shelf.faults c.tell.new.self in
    let is : c.deref.result.now ≡ tagged_line c.args.count = search rules in
    let fault = c.in_err-tell.field-0.0 in
    err_is c.from_residual-in_err-tell.result (store_refusal fault)
    (λ (r : Result (Unit {0}) StoreRefusal). Did (IsStep step) (λ _ h g. g ≡ with_act step true h) a b n m r) c.from_residual-in_err-tell.ensures.1
    (untold_line step a b n m fault (subst (λ (l : List ℕ). Acts {T = Unit {0}} (TellOf l) a b
    (Err fault)) is c.in_err-tell.ensures.act) c.in_err-tell.ensures.cause)

pub returns-clause-did : goal.returns-clause-did
returns-clause-did g c =
    let step = TellOf (tagged_line c.args.count) in
    let a = g.D.Shelf.told c.args.target.now in
    let b = g.D.Shelf.told c.tell.new.self in
    let is : c.deref.result.now ≡ tagged_line c.args.count = search rules in
    told_line step a b (g.D.Shelf.faults c.args.target.now) (g.D.Shelf.faults c.tell.new.self)
    (subst (λ (l : List ℕ). Acts {T = Unit {0}} (TellOf l) a b (Ok tt)) is c.in_ok-tell.ensures.act) c.in_ok-tell.ensures.cause
