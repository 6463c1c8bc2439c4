use Rattle.std.proofs.Common.{◌≡◌, ◌++◌, List, [], ℕ, Result, Ok, Err, IfErr, IfSome, OnOk, option_map}
use Rattle.ferry_disk.proofs.FaultLemmas.{keeps_end}
use Rattle.ferry_repo.specs.Fault.{repo_failed}
use Rattle.ferry_keyblob.specs.Opening.{key_view}
use Rattle.ferry_store.proofs.StepLemmas.{err_is, same_told}
use Rattle.ferry_store.specs.Fault.{repo_refusal}
use Rattle.ferry_store.specs.State.{Did}
use Rattle.ferry_store.specs.Store.{InitFits, RefusesInit}
use Rattle.ferry_store.specs.declared.fault.StoreRefusal.{StoreRefusal}
use Rattle.ferry_top.proofs.InitLemmas.{did_failed, did_tell, did_unread, has_id, line_refused, on_ok, refuses_reading}
use Rattle.ferry_top.proofs.init.make.Goals as goal
use Rattle.ferry_top.specs.Init.{CommandEach, MakesAndTells}

pub returns-in_err-init-clause-made : goal.returns-in_err-init-clause-made
returns-in_err-init-clause-made g c =
    let secret = c.args.secret.now in
    let a = g.D.Shelf.told c.args.target.now in
    let b = g.D.Shelf.told c.init.new.depot in
    let n = g.D.Shelf.faults c.args.target.now in
    let m = g.D.Shelf.faults c.init.new.depot in
    let refusal = c.in_err-init.field-0.0 in
    err_is c.from_residual.result refusal (λ (r : Result (Unit {0}) StoreRefusal). (x : List ℕ)
    × (OnOk r (g.E.Entropy.drawn c.init.new.entropy ≡ option_map (λ d. d ++ x) (g.E.Entropy.drawn c.args.entropy.now))
    × Did (CommandEach secret) (λ _ h g. h.acts ≡ [] → MakesAndTells secret c.args.iterations c.args.timestamp.now x h g) a b n m r))
    c.from_residual.ensures.1 (
      [],
      (
        tt,
        did_failed secret InitFits (λ _ h g. h.acts ≡ [] → MakesAndTells secret c.args.iterations c.args.timestamp.now [] h g) a b n m refusal
            c.in_err-init.ensures.untold c.in_err-init.ensures.did,
      ),
    )

pub returns-in_err-unlocked-clause-made : goal.returns-in_err-unlocked-clause-made
returns-in_err-unlocked-clause-made g c =
    let secret = c.args.secret.now in
    let a = g.D.Shelf.told c.args.target.now in
    let b = g.D.Shelf.told c.init.new.depot in
    let d = g.D.Shelf.told c.unlock.new.shelf in
    let n = g.D.Shelf.faults c.args.target.now in
    let m = g.D.Shelf.faults c.init.new.depot in
    let k = g.D.Shelf.faults c.unlock.new.shelf in
    let fault = c.in_err-unlocked.field-0.0 in
    let same = c.in_err-unlocked.ensures.same in
    err_is c.from_residual-in_err-unlocked.result (repo_refusal fault) (λ (r : Result (Unit {0}) StoreRefusal). (x : List ℕ)
    × (OnOk r (g.E.Entropy.drawn c.init.new.entropy ≡ option_map (λ d. d ++ x) (g.E.Entropy.drawn c.args.entropy.now))
    × Did (CommandEach secret) (λ _ h g. h.acts ≡ [] → MakesAndTells secret c.args.iterations c.args.timestamp.now x h g) a d n k r))
    c.from_residual-in_err-unlocked.ensures.1 (
      [],
      (
        tt,
        did_unread secret (λ _ h g. h.acts ≡ [] → MakesAndTells secret c.args.iterations c.args.timestamp.now [] h g) c.in_ok-init.field-0 a b d n m k fault
            c.in_ok-init.ensures.untold c.in_ok-init.ensures.did (same_told {T = Unit {0}} repo_failed b d (Err fault) same)
            (keeps_end {T = Unit {0}} repo_failed b d (Err fault) same)
            c.in_err-unlocked.ensures.cause,
      ),
    )

pub returns-in_err-unlocked-clause-refused : goal.returns-in_err-unlocked-clause-refused
returns-in_err-unlocked-clause-refused g c =
    let secret = c.args.secret.now in
    let a = g.D.Shelf.told c.args.target.now in
    let fault = c.in_err-unlocked.field-0.0 in
    err_is c.from_residual-in_err-unlocked.result (repo_refusal fault)
    (λ (r : Result (Unit {0}) StoreRefusal). IfErr r (λ refusal. IfSome a (λ t. RefusesInit secret c.args.timestamp.now t.history refusal)))
    c.from_residual-in_err-unlocked.ensures.1
    (refuses_reading secret c.args.iterations c.args.timestamp.now c.in_ok-init.ensures.made.0 a (g.D.Shelf.told c.init.new.depot) fault
    c.in_ok-init.ensures.made.1.1 c.in_err-unlocked.ensures.refused)

pub returns-clause-made : goal.returns-clause-made
returns-clause-made g c =
    let secret = c.args.secret.now in
    let b = g.D.Shelf.told c.init.new.depot in
    let d = g.D.Shelf.told c.unlock.new.shelf in
    let u = c.in_ok-unlocked.unlocked in
    let same = c.in_ok-unlocked.ensures.same in
    let made = c.in_ok-init.ensures.made in (
      made.0,
      (
        on_ok (g.E.Entropy.drawn c.init.new.entropy ≡ option_map (λ d. d ++ made.0) (g.E.Entropy.drawn c.args.entropy.now)) c.tell_id.result made.1.0,
        did_tell secret c.args.iterations c.args.timestamp.now made.0 u.config.id c.in_ok-init.field-0 (g.D.Shelf.told c.args.target.now) b d
            (g.D.Shelf.told c.tell_id.new.target) (g.D.Shelf.faults c.args.target.now) (g.D.Shelf.faults c.init.new.depot)
            (g.D.Shelf.faults c.unlock.new.shelf) (g.D.Shelf.faults c.tell_id.new.target) c.tell_id.result c.in_ok-init.ensures.did made.1.1
            c.in_ok-init.ensures.untold (has_id b secret u.config u.iterations (key_view u.key) c.in_ok-unlocked.ensures.unlocked)
            (same_told {T = Unit {0}} repo_failed b d (Ok tt) same)
            (keeps_end {T = Unit {0}} repo_failed b d (Ok tt) same) c.in_ok-unlocked.ensures.cause c.tell_id.ensures.did,
      ),
    )

pub returns-clause-refused : goal.returns-clause-refused
returns-clause-refused g c =
    line_refused c.args.secret.now c.args.timestamp.now (g.D.Shelf.told c.args.target.now) c.tell_id.result c.tell_id.ensures.refused
