use Rattle.std.proofs.Common.{◌≡◌, OnOk, Err, Result, sym, subst, IfErr, IfSome, ap}
use Rattle.ferry_disk.specs.Act.{History}
use Rattle.ferry_disk.specs.Device.{told_files}
use Rattle.ferry_disk.specs.Moments.{Between}
use Rattle.ferry_repo.specs.Opening.{repo_view}
use Rattle.ferry_store.proofs.CauseLemmas.{store_stops}
use Rattle.ferry_store.proofs.CommitLemmas.{checkpointed, did_less}
use Rattle.ferry_store.proofs.StepLemmas.{did_front}
use Rattle.ferry_store.proofs.store.Store.checkpoint.Goals as goal
use Rattle.ferry_store.specs.Adding.{Checkpoints}
use Rattle.ferry_store.specs.Causes.{Stops, StopsAt}
use Rattle.ferry_store.specs.State.{CommitsSound, Did, TakesCommit}
use Rattle.ferry_store.specs.declared.fault.StoreRefusal.{StoreRefusal}
use Rattle.ferry_write.specs.Room.{after_commit}
use Rattle.ferry_write.specs.Session.{OnlyAppends}
use Rattle.ferry_store.proofs.FewLemmas.{few_answered, few_refused}
use Rattle.ferry_store.specs.declared.store.Store.{Store}

pub returns-in-Ok-clause-did : goal.returns-in-Ok-clause-did
returns-in-Ok-clause-did g c =
    let a = g.D.Shelf.told c.args.depot.now in
    let b = g.D.Shelf.told c.commit.new.depot in
    let n = g.D.Shelf.faults c.args.depot.now in
    let m = g.D.Shelf.faults c.commit.new.depot in
    let store = c.args.self.now in
    let session = c.commit.new.session in
    let E = CommitsSound store.session store.counter in
    let Q : Unit {0} → History → History → Type 0 =
    λ _ h k. TakesCommit store.session store.counter session h k × OnlyAppends store.session h k in
    let is = subst (λ (r : Result (Unit {0}) StoreRefusal). OnOk r (session ≡ after_commit store.session)) c.in-Ok.is c.commit.ensures.session in
    did_less E Q (λ _. Checkpoints store _) a b n m _ (λ x h k e. checkpointed store session h k is e.0 e.1)
    (subst (λ (r : Result (Unit {0}) StoreRefusal). Did E Q a b n m r) c.in-Ok.is (c.commit.ensures.did store.counter))

pub returns-in-Err-clause-did : goal.returns-in-Err-clause-did
returns-in-Err-clause-did g c =
    let a = g.D.Shelf.told c.args.depot.now in
    let b = g.D.Shelf.told c.commit.new.depot in
    let n = g.D.Shelf.faults c.args.depot.now in
    let m = g.D.Shelf.faults c.commit.new.depot in
    let store = c.args.self.now in
    let session = c.commit.new.session in
    let E = CommitsSound store.session store.counter in
    let Q : Unit {0} → History → History → Type 0 =
    λ _ h k. TakesCommit store.session store.counter session h k × OnlyAppends store.session h k in
    let R : Unit {0} → History → History → Type 0 = λ _. Checkpoints store c.spend.new.self in
    subst (λ (f : StoreRefusal). Did {T = Unit {0}} E R a b n m (Err f)) (sym c.spend.ensures.same)
    (did_front E Q E R a b n m c.in-Err.refusal (λ h k e. e)
    (subst (λ (r : Result (Unit {0}) StoreRefusal). Did E Q a b n m r) c.in-Err.is (c.commit.ensures.did store.counter)))

pub returns-in-Err-clause-stops : goal.returns-in-Err-clause-stops
returns-in-Err-clause-stops g c fits =
    let a = g.D.Shelf.told c.args.depot.now in
    let b = g.D.Shelf.told c.commit.new.depot in
    let n = g.D.Shelf.faults c.args.depot.now in
    let m = g.D.Shelf.faults c.commit.new.depot in
    let store = c.args.self.now in
    let session = c.commit.new.session in
    let refusal = c.in-Err.refusal in
    let Q : Unit {0} → History → History → Type 0 =
    λ _ h k. TakesCommit store.session store.counter session h k × OnlyAppends store.session h k in
    let did = subst (λ (r : Result (Unit {0}) StoreRefusal). Did (CommitsSound store.session store.counter) Q a b n m r) c.in-Err.is
    (c.commit.ensures.did store.counter) in
    let stops = subst (λ (r : Result (Unit {0}) StoreRefusal). IfErr r (λ f. Between a b (Stops store.session store.counter f))) c.in-Err.is
    (c.commit.ensures.stops store.counter) in
    subst (λ (f : StoreRefusal). IfSome b (λ t. StopsAt t.history.start (told_files t) (repo_view store.repo).keys f)) (sym c.spend.ensures.same)
    (store_stops store refusal a b fits did.ends stops)

pub returns-in-Ok-clause-few : goal.returns-in-Ok-clause-few
returns-in-Ok-clause-few g c =
    few_answered {T = Unit {0}} {U = Unit {0}} 1 c.args.self.now.session.last c.commit.new.session.last c.commit.result tt c.commit.ensures.few

pub returns-in-Err-clause-few : goal.returns-in-Err-clause-few
returns-in-Err-clause-few g c =
    few_refused {T = Unit {0}} {U = Unit {0}} 1 c.args.self.now.session.last c.commit.new.session.last c.spend.new.self.session.last
    c.commit.result c.in-Err.refusal c.spend.result c.in-Err.is c.spend.ensures.same (ap (λ (s : Store). s.session.last) c.spend.ensures.spent)
    c.commit.ensures.few
