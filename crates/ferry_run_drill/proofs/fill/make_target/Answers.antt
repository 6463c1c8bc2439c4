use Rattle.std.proofs.Common.{IfErr, IfSome, Result, refl, rules}
use Rattle.ferry_disk.specs.Device.{told_files}
use Rattle.ferry_piece.proofs.WorkLemmas.{err_is, works_err, works_nothing}
use Rattle.ferry_piece.specs.Fault.{target_fault}
use Rattle.ferry_piece.specs.Work.{Works}
use Rattle.ferry_piece.specs.declared.fault.CarryFault.{CarryFault}
use Rattle.ferry_status.specs.Status.{carry_status}
use Rattle.ferry_store.proofs.CallLemmas.{first_here}
use Rattle.ferry_store.proofs.StepLemmas.{here_each}
use Rattle.ferry_store.specs.Store.{InitEach, InitFits, InitLeaves}
use Rattle.ferry_store.specs.declared.store.Store.{Store}
use Rattle.ferry_write.specs.Session.{SettlesFirst}
use Rattle.ferry_run_drill.proofs.CopyLemmas.{made_works}
use Rattle.ferry_run_drill.proofs.DropLemmas.{made_drops}
use Rattle.ferry_run_drill.proofs.WorkLemmas.{init_leaves, leaves_here, says_all, unmade_tells}
use Rattle.ferry_run_drill.specs.Drill.{TellsStart, drill_time}
use Rattle.ferry_run_drill.specs.Steps.{IsMadeNew}
use Rattle.ferry_run_drill.proofs.KeyLemmas.{no_key}
use Rattle.ferry_run_drill.proofs.UnmadeLemmas.{ends_anyway, unmade_ends}
use Rattle.ferry_run_drill.specs.Complete.{EndsCopy}
use Rattle.ferry_piece.specs.declared.fault.CarryFault.TheVariants as Carry
use Rattle.ferry_store.specs.declared.fault.StoreRefusal.TheVariants as Stores
use Rattle.ferry_run_drill.proofs.fill.make_target.Goals as goal

pub returns-in_err-fill-clause-works : goal.returns-in_err-fill-clause-works
returns-in_err-fill-clause-works g c =
    let a = g.D.Shelf.told c.args.target.now in
    let n = g.D.Shelf.faults c.args.target.now in
    let fault = Carry.Target Stores.Entropy in
    err_is c.from_residual.result fault (λ (r : Result Store CarryFault). Works SettlesFirst IsMadeNew a a n n r) c.from_residual.ensures.1
    (works_nothing {T = Store} SettlesFirst IsMadeNew a n fault refl first_here)

pub returns-in_err-secret-clause-works : goal.returns-in_err-secret-clause-works
returns-in_err-secret-clause-works g c =
    let a = g.D.Shelf.told c.args.target.now in
    let n = g.D.Shelf.faults c.args.target.now in
    err_is c.from_residual-in_err-secret.result Carry.Memory (λ (r : Result Store CarryFault). Works SettlesFirst IsMadeNew a a n n r)
    c.from_residual-in_err-secret.ensures.1 (works_nothing {T = Store} SettlesFirst IsMadeNew a n Carry.Memory refl first_here)

pub returns-in_err-store-clause-works : goal.returns-in_err-store-clause-works
returns-in_err-store-clause-works g c =
    let a = g.D.Shelf.told c.args.target.now in
    let b = g.D.Shelf.told c.init.new.depot in
    let n = g.D.Shelf.faults c.args.target.now in
    let m = g.D.Shelf.faults c.init.new.depot in
    let refusal = c.in_err-store.field-0.0 in
    err_is c.from_residual-in_err-store.result (target_fault refusal) (λ (r : Result Store CarryFault). Works SettlesFirst IsMadeNew a b n m r)
    c.from_residual-in_err-store.ensures.1
    (works_err {T = Store} {U = Store} (InitEach c.in_ok-secret.secret) InitFits SettlesFirst IsMadeNew a b n m refusal (λ h g untold each. each.1.1.1)
    c.in_err-store.ensures.untold c.in_err-store.ensures.did)

pub returns-clause-works : goal.returns-clause-works
returns-clause-works g c =
    let made = c.in_ok-store.ensures.made in
    made_works c.in_ok-store.store _ made.0 c.in_ok-secret.secret (g.D.Shelf.told c.args.target.now) (g.D.Shelf.told c.init.new.depot)
    (g.D.Shelf.faults c.args.target.now) (g.D.Shelf.faults c.init.new.depot) c.in_ok-secret.ensures.secret refl c.requires.begun c.in_ok-store.ensures.did
    made.1.1 c.in_ok-store.ensures.untold c.in_ok-store.ensures.opened c.in_ok-store.ensures.accepted c.in_ok-store.ensures.fresh.1
    c.in_ok-store.ensures.few

pub returns-clause-drops : goal.returns-clause-drops
returns-clause-drops g c =
    let made = c.in_ok-store.ensures.made in
    made_drops c.in_ok-secret.secret _ c.fill.new.into made.0 (g.D.Shelf.told c.args.target.now) (g.D.Shelf.told c.init.new.depot)
    (g.E.Entropy.drawn c.args.entropy.now) (g.E.Entropy.drawn c.fill.new.self) (g.E.Entropy.drawn c.init.new.entropy) c.in_ok-secret.ensures.secret refl
    (search rules) c.requires.begun c.in_ok-fill.ensures.drawn made.1.0 made.1.1

pub returns-in_err-fill-clause-start : goal.returns-in_err-fill-clause-start
returns-in_err-fill-clause-start g c =
    let a = g.D.Shelf.told c.args.target.now in
    err_is c.from_residual.result (Carry.Target Stores.Entropy)
    (λ (r : Result Store CarryFault). IfErr r (λ (f : CarryFault). IfSome a (λ t. TellsStart (told_files t) (carry_status f)))) c.from_residual.ensures.1
    (says_all a _ (λ t. tt))

pub returns-in_err-secret-clause-start : goal.returns-in_err-secret-clause-start
returns-in_err-secret-clause-start g c =
    let a = g.D.Shelf.told c.args.target.now in
    err_is c.from_residual-in_err-secret.result Carry.Memory
    (λ (r : Result Store CarryFault). IfErr r (λ (f : CarryFault). IfSome a (λ t. TellsStart (told_files t) (carry_status f))))
    c.from_residual-in_err-secret.ensures.1 (says_all a _ (λ t. tt))

pub returns-in_err-store-clause-start : goal.returns-in_err-store-clause-start
returns-in_err-store-clause-start g c =
    let a = g.D.Shelf.told c.args.target.now in
    let refusal = c.in_err-store.field-0.0 in
    err_is c.from_residual-in_err-store.result (target_fault refusal)
    (λ (r : Result Store CarryFault). IfErr r (λ (f : CarryFault). IfSome a (λ t. TellsStart (told_files t) (carry_status f))))
    c.from_residual-in_err-store.ensures.1
    (unmade_tells c.in_ok-secret.secret drill_time a (no_key c.in_ok-secret.secret c.in_ok-secret.ensures.secret) refl refusal c.requires.begun
    c.in_err-store.ensures.refused)

pub returns-in_err-fill-clause-kept : goal.returns-in_err-fill-clause-kept
returns-in_err-fill-clause-kept g c = here_each InitLeaves (g.D.Shelf.told c.args.target.now) leaves_here

pub returns-in_err-secret-clause-kept : goal.returns-in_err-secret-clause-kept
returns-in_err-secret-clause-kept g c = here_each InitLeaves (g.D.Shelf.told c.args.target.now) leaves_here

pub returns-in_err-store-clause-kept : goal.returns-in_err-store-clause-kept
returns-in_err-store-clause-kept g c =
    init_leaves c.in_ok-secret.secret (g.D.Shelf.told c.args.target.now) (g.D.Shelf.told c.init.new.depot) c.in_err-store.ensures.did.each

pub returns-clause-kept : goal.returns-clause-kept
returns-clause-kept g c =
    init_leaves c.in_ok-secret.secret (g.D.Shelf.told c.args.target.now) (g.D.Shelf.told c.init.new.depot) c.in_ok-store.ensures.did.each

pub returns-in_err-fill-clause-completes : goal.returns-in_err-fill-clause-completes
returns-in_err-fill-clause-completes g c =
    let a = g.D.Shelf.told c.args.target.now in
    err_is c.from_residual.result (Carry.Target Stores.Entropy)
    (λ (r : Result Store CarryFault). IfErr r (EndsCopy a a)) c.from_residual.ensures.1
    (ends_anyway a a (Carry.Target Stores.Entropy) (λ start image. tt))

pub returns-in_err-secret-clause-completes : goal.returns-in_err-secret-clause-completes
returns-in_err-secret-clause-completes g c =
    let a = g.D.Shelf.told c.args.target.now in
    err_is c.from_residual-in_err-secret.result Carry.Memory
    (λ (r : Result Store CarryFault). IfErr r (EndsCopy a a)) c.from_residual-in_err-secret.ensures.1
    (ends_anyway a a Carry.Memory (λ start image. tt))

pub returns-in_err-store-clause-completes : goal.returns-in_err-store-clause-completes
returns-in_err-store-clause-completes g c =
    let a = g.D.Shelf.told c.args.target.now in
    let b = g.D.Shelf.told c.init.new.depot in
    let refusal = c.in_err-store.field-0.0 in
    err_is c.from_residual-in_err-store.result (target_fault refusal)
    (λ (r : Result Store CarryFault). IfErr r (EndsCopy a b)) c.from_residual-in_err-store.ensures.1
    (unmade_ends c.in_ok-secret.secret drill_time a b (no_key c.in_ok-secret.secret c.in_ok-secret.ensures.secret) refl refusal
    c.in_err-store.ensures.refused)
