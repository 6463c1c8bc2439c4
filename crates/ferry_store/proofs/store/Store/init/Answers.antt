use Rattle.std.proofs.Common.{false, Ok, Err, Result, IfErr, IfSome, refl}
use Rattle.ferry_disk.proofs.DeviceLemmas.{told_same}
use Rattle.ferry_disk.specs.Device.{HasCause}
use Rattle.ferry_repo.specs.Fault.{repo_failed}
use Rattle.ferry_repo.specs.Opening.{OpensFilesTo, repo_view}
use Rattle.ferry_store.proofs.InitLemmas.{still_cause}
use Rattle.ferry_store.proofs.StepLemmas.{err_is, same_told}
use Rattle.ferry_store.proofs.StoreLemmas.{given_still, init_front, init_limit, init_made, init_makes, init_opened, init_uncopied, init_ungiven, init_unopened}
use Rattle.ferry_store.proofs.StoreLemmas.{init_unread, making_refused, memory_refused, open_refused}
use Rattle.ferry_store.proofs.store.Store.init.Goals as goal
use Rattle.ferry_store.specs.Fault.{repo_refusal, source_failed}
use Rattle.ferry_store.specs.State.{Did}
use Rattle.ferry_store.specs.Store.{InitEach, InitFits, RefusesInit}
use Rattle.ferry_store.specs.declared.fault.StoreRefusal.{StoreRefusal}
use Rattle.ferry_store.specs.declared.fault.StoreRefusal.TheVariants.{Memory}
use Rattle.ferry_store.specs.declared.store.Store.{Store}
use Rattle.ferry_stops.proofs.TellLemmas.{told_both, told_kept}
use Rattle.ferry_store.specs.Fault.{depot_failed}

pub returns-in_err-expect_no_commit-clause-did : goal.returns-in_err-expect_no_commit-clause-did
returns-in_err-expect_no_commit-clause-did g c =
    let a = g.D.Shelf.told c.args.depot.now in
    let b = g.D.Shelf.told c.expect_no_commit.new.depot in
    let n = g.D.Shelf.faults c.args.depot.now in
    let m = g.D.Shelf.faults c.expect_no_commit.new.depot in
    let refusal = c.in_err-expect_no_commit.field-0.0 in
    err_is c.from_residual.result refusal
    (λ (r : Result Store StoreRefusal). Did (InitEach c.args.secret.now) InitFits a b n m r) c.from_residual.ensures.1
    (init_unread c.args.secret.now refusal a b n m c.in_err-expect_no_commit.ensures.same c.in_err-expect_no_commit.ensures.cause)

pub returns-in_err-expect_no_commit-clause-entropy : goal.returns-in_err-expect_no_commit-clause-entropy
returns-in_err-expect_no_commit-clause-entropy g c =
    let n = g.E.Entropy.faults c.args.entropy.now in
    let refusal = c.in_err-expect_no_commit.field-0.0 in
    err_is c.from_residual.result refusal (λ (r : Result Store StoreRefusal). HasCause source_failed n n r) c.from_residual.ensures.1
    (still_cause refusal n c.in_err-expect_no_commit.ensures.still)

pub returns-in_err-given-clause-did : goal.returns-in_err-given-clause-did
returns-in_err-given-clause-did g c =
    let a = g.D.Shelf.told c.args.depot.now in
    let b = g.D.Shelf.told c.expect_no_commit.new.depot in
    let n = g.D.Shelf.faults c.args.depot.now in
    let m = g.D.Shelf.faults c.expect_no_commit.new.depot in
    let refusal = c.in_err-given.field-0.0 in
    err_is c.from_residual-in_err-given.result refusal
    (λ (r : Result Store StoreRefusal). Did (InitEach c.args.secret.now) InitFits a b n m r) c.from_residual-in_err-given.ensures.1
    (init_ungiven c.args.secret.now refusal a b n m (given_still c.args.secret.now refusal c.in_err-given.ensures.refused)
    c.in_ok-expect_no_commit.ensures.same c.in_ok-expect_no_commit.ensures.cause)

pub returns-in_err-counter-clause-did : goal.returns-in_err-counter-clause-did
returns-in_err-counter-clause-did g c =
    let a = g.D.Shelf.told c.args.depot.now in
    let b = g.D.Shelf.told c.expect_no_commit.new.depot in
    let d = g.D.Shelf.told c.make_repository.new.depot in
    let n = g.D.Shelf.faults c.args.depot.now in
    let m = g.D.Shelf.faults c.expect_no_commit.new.depot in
    let k = g.D.Shelf.faults c.make_repository.new.depot in
    let refusal = c.in_err-counter.field-0.0 in
    let secret = c.args.secret.now in
    let made = c.in_err-counter.ensures.made in
    err_is c.from_residual-in_err-counter.result refusal (λ (r : Result Store StoreRefusal). Did (InitEach secret) InitFits a d n k r)
    c.from_residual-in_err-counter.ensures.1
    (init_front secret c.args.iterations c.args.timestamp.now made.0 a d n k refusal
    (init_made secret c.args.iterations c.args.timestamp.now made.0 a b d n m k (Err refusal) c.in_ok-expect_no_commit.ensures.none
    c.in_ok-expect_no_commit.ensures.same c.in_ok-expect_no_commit.ensures.cause made.1.1))

pub returns-in_err-repo-clause-did : goal.returns-in_err-repo-clause-did
returns-in_err-repo-clause-did g c =
    let a = g.D.Shelf.told c.args.depot.now in
    let b = g.D.Shelf.told c.expect_no_commit.new.depot in
    let d = g.D.Shelf.told c.make_repository.new.depot in
    let e = g.D.Shelf.told c.open.new.shelf in
    let n = g.D.Shelf.faults c.args.depot.now in
    let m = g.D.Shelf.faults c.expect_no_commit.new.depot in
    let k = g.D.Shelf.faults c.make_repository.new.depot in
    let j = g.D.Shelf.faults c.open.new.shelf in
    let fault = c.in_err-repo.field-0.0 in
    let secret = c.args.secret.now in
    let made = c.in_ok-counter.ensures.made in
    err_is c.from_residual-in_err-repo.result (repo_refusal fault) (λ (r : Result Store StoreRefusal). Did (InitEach secret) InitFits a e n j r)
    c.from_residual-in_err-repo.ensures.1
    (init_unopened secret c.args.iterations c.args.timestamp.now made.0 (c.in_ok-counter.counter, c.in_ok-counter.session) fault a d e n k j
    (init_made secret c.args.iterations c.args.timestamp.now made.0 a b d n m k (Ok (c.in_ok-counter.counter, c.in_ok-counter.session))
    c.in_ok-expect_no_commit.ensures.none c.in_ok-expect_no_commit.ensures.same c.in_ok-expect_no_commit.ensures.cause made.1.1)
    c.in_err-repo.ensures.same c.in_err-repo.ensures.cause)

pub returns-in_err-repo-clause-refused : goal.returns-in_err-repo-clause-refused
returns-in_err-repo-clause-refused g c =
    let a = g.D.Shelf.told c.args.depot.now in
    let b = g.D.Shelf.told c.expect_no_commit.new.depot in
    let d = g.D.Shelf.told c.make_repository.new.depot in
    let n = g.D.Shelf.faults c.args.depot.now in
    let m = g.D.Shelf.faults c.expect_no_commit.new.depot in
    let k = g.D.Shelf.faults c.make_repository.new.depot in
    let fault = c.in_err-repo.field-0.0 in
    let secret = c.args.secret.now in
    let made = c.in_ok-counter.ensures.made in
    err_is c.from_residual-in_err-repo.result (repo_refusal fault)
    (λ (r : Result Store StoreRefusal). IfErr r (λ x. IfSome a (λ t. RefusesInit secret c.args.timestamp.now t.history x)))
    c.from_residual-in_err-repo.ensures.1
    (open_refused secret c.args.iterations c.args.timestamp.now made.0 (c.in_ok-counter.counter, c.in_ok-counter.session) fault a d n k
    (init_made secret c.args.iterations c.args.timestamp.now made.0 a b d n m k (Ok (c.in_ok-counter.counter, c.in_ok-counter.session))
    c.in_ok-expect_no_commit.ensures.none c.in_ok-expect_no_commit.ensures.same c.in_ok-expect_no_commit.ensures.cause made.1.1)
    c.in_err-repo.ensures.refused)

pub returns-in_err-accepted-clause-did : goal.returns-in_err-accepted-clause-did
returns-in_err-accepted-clause-did g c =
    let a = g.D.Shelf.told c.args.depot.now in
    let b = g.D.Shelf.told c.expect_no_commit.new.depot in
    let d = g.D.Shelf.told c.make_repository.new.depot in
    let e = g.D.Shelf.told c.open.new.shelf in
    let n = g.D.Shelf.faults c.args.depot.now in
    let m = g.D.Shelf.faults c.expect_no_commit.new.depot in
    let k = g.D.Shelf.faults c.make_repository.new.depot in
    let j = g.D.Shelf.faults c.open.new.shelf in
    let secret = c.args.secret.now in
    let made = c.in_ok-counter.ensures.made in
    err_is c.from_residual-in_err-accepted.result Memory (λ (r : Result Store StoreRefusal). Did (InitEach secret) InitFits a e n j r)
    c.from_residual-in_err-accepted.ensures.1
    (init_uncopied secret c.args.iterations c.args.timestamp.now made.0 (c.in_ok-counter.counter, c.in_ok-counter.session) c.in_ok-repo.repo Memory a d e n k j
    refl
    (init_made secret c.args.iterations c.args.timestamp.now made.0 a b d n m k (Ok (c.in_ok-counter.counter, c.in_ok-counter.session))
    c.in_ok-expect_no_commit.ensures.none c.in_ok-expect_no_commit.ensures.same c.in_ok-expect_no_commit.ensures.cause made.1.1)
    c.in_ok-repo.ensures.same c.in_ok-repo.ensures.cause)

pub returns-in_err-accepted-clause-refused : goal.returns-in_err-accepted-clause-refused
returns-in_err-accepted-clause-refused g c =
    let a = g.D.Shelf.told c.args.depot.now in
    let secret = c.args.secret.now in
    err_is c.from_residual-in_err-accepted.result Memory
    (λ (r : Result Store StoreRefusal). IfErr r (λ x. IfSome a (λ t. RefusesInit secret c.args.timestamp.now t.history x)))
    c.from_residual-in_err-accepted.ensures.1 (memory_refused secret c.args.timestamp.now a)

pub returns-clause-made : goal.returns-clause-made
returns-clause-made g c =
    let a = g.D.Shelf.told c.args.depot.now in
    let b = g.D.Shelf.told c.expect_no_commit.new.depot in
    let d = g.D.Shelf.told c.make_repository.new.depot in
    let e = g.D.Shelf.told c.open.new.shelf in
    let n = g.D.Shelf.faults c.args.depot.now in
    let m = g.D.Shelf.faults c.expect_no_commit.new.depot in
    let k = g.D.Shelf.faults c.make_repository.new.depot in
    let secret = c.args.secret.now in
    let made = c.in_ok-counter.ensures.made in (
      made.0,
      (
        made.1.0,
        init_makes secret c.args.iterations c.args.timestamp.now made.0 (c.in_ok-counter.counter, c.in_ok-counter.session) a d e n k
            (init_made secret c.args.iterations c.args.timestamp.now made.0 a b d n m k (Ok (c.in_ok-counter.counter, c.in_ok-counter.session))
            c.in_ok-expect_no_commit.ensures.none c.in_ok-expect_no_commit.ensures.same c.in_ok-expect_no_commit.ensures.cause made.1.1)
            (same_told repo_failed d e (Ok c.in_ok-repo.repo) c.in_ok-repo.ensures.same),
      ),
    )

pub returns-clause-did : goal.returns-clause-did
returns-clause-did g c =
    let a = g.D.Shelf.told c.args.depot.now in
    let b = g.D.Shelf.told c.expect_no_commit.new.depot in
    let d = g.D.Shelf.told c.make_repository.new.depot in
    let e = g.D.Shelf.told c.open.new.shelf in
    let n = g.D.Shelf.faults c.args.depot.now in
    let m = g.D.Shelf.faults c.expect_no_commit.new.depot in
    let k = g.D.Shelf.faults c.make_repository.new.depot in
    let j = g.D.Shelf.faults c.open.new.shelf in
    let secret = c.args.secret.now in
    let made = c.in_ok-counter.ensures.made in
    init_opened secret c.args.iterations c.args.timestamp.now made.0
    (record {
      alloc = c.args.alloc;
      repo = c.in_ok-repo.repo;
      session = c.in_ok-counter.session;
      counter = c.in_ok-counter.counter;
      pending = 0;
      opened = c.new.result;
      accepted = c.in_ok-accepted.accepted;
      spent = false;
    }) a d e n k j
    (init_made secret c.args.iterations c.args.timestamp.now made.0 a b d n m k (Ok (c.in_ok-counter.counter, c.in_ok-counter.session))
    c.in_ok-expect_no_commit.ensures.none c.in_ok-expect_no_commit.ensures.same c.in_ok-expect_no_commit.ensures.cause made.1.1)
    c.in_ok-repo.ensures.same c.in_ok-repo.ensures.cause c.in_ok-repo.ensures.repository c.in_ok-repo.ensures.cached c.new.ensures.empty refl

pub returns-clause-limit : goal.returns-clause-limit
returns-clause-limit g c =
    let a = g.D.Shelf.told c.args.depot.now in
    let b = g.D.Shelf.told c.expect_no_commit.new.depot in
    let d = g.D.Shelf.told c.make_repository.new.depot in
    let n = g.D.Shelf.faults c.args.depot.now in
    let m = g.D.Shelf.faults c.expect_no_commit.new.depot in
    let k = g.D.Shelf.faults c.make_repository.new.depot in
    let secret = c.args.secret.now in
    let made = c.in_ok-counter.ensures.made in
    init_limit secret c.args.iterations c.args.timestamp.now made.0
    (record {
      alloc = c.args.alloc;
      repo = c.in_ok-repo.repo;
      session = c.in_ok-counter.session;
      counter = c.in_ok-counter.counter;
      pending = 0;
      opened = c.new.result;
      accepted = c.in_ok-accepted.accepted;
      spent = false;
    }) a d n k
    (init_made secret c.args.iterations c.args.timestamp.now made.0 a b d n m k (Ok (c.in_ok-counter.counter, c.in_ok-counter.session))
    c.in_ok-expect_no_commit.ensures.none c.in_ok-expect_no_commit.ensures.same c.in_ok-expect_no_commit.ensures.cause made.1.1)
    c.in_ok-repo.ensures.repository

pub returns-clause-opened : goal.returns-clause-opened
returns-clause-opened g c =
    told_same (g.D.Shelf.told c.make_repository.new.depot) (g.D.Shelf.told c.open.new.shelf)
    (λ f. OpensFilesTo f c.args.secret.now (repo_view c.in_ok-repo.repo)) c.in_ok-repo.ensures.same c.in_ok-repo.ensures.repository

pub returns-in_err-expect_no_commit-clause-untold : goal.returns-in_err-expect_no_commit-clause-untold
returns-in_err-expect_no_commit-clause-untold g c =
    told_kept depot_failed (g.D.Shelf.told c.args.depot.now) (g.D.Shelf.told c.expect_no_commit.new.depot) c.expect_no_commit.result
    c.expect_no_commit.ensures.same

pub returns-in_err-given-clause-untold : goal.returns-in_err-given-clause-untold
returns-in_err-given-clause-untold g c =
    told_kept depot_failed (g.D.Shelf.told c.args.depot.now) (g.D.Shelf.told c.expect_no_commit.new.depot) c.expect_no_commit.result
    c.expect_no_commit.ensures.same

pub returns-in_err-counter-clause-untold : goal.returns-in_err-counter-clause-untold
returns-in_err-counter-clause-untold g c =
    let a = g.D.Shelf.told c.args.depot.now in
    let b = g.D.Shelf.told c.expect_no_commit.new.depot in
    told_both a b (g.D.Shelf.told c.make_repository.new.depot) (told_kept depot_failed a b c.expect_no_commit.result c.expect_no_commit.ensures.same)
    c.in_err-counter.ensures.untold

pub returns-in_err-repo-clause-untold : goal.returns-in_err-repo-clause-untold
returns-in_err-repo-clause-untold g c =
    let a = g.D.Shelf.told c.args.depot.now in
    let b = g.D.Shelf.told c.expect_no_commit.new.depot in
    let d = g.D.Shelf.told c.make_repository.new.depot in
    let e = g.D.Shelf.told c.open.new.shelf in
    told_both a d e
    (told_both a b d (told_kept depot_failed a b c.expect_no_commit.result c.expect_no_commit.ensures.same) c.in_ok-counter.ensures.untold)
    (told_kept repo_failed d e c.open.result c.open.ensures.same)

pub returns-in_err-accepted-clause-untold : goal.returns-in_err-accepted-clause-untold
returns-in_err-accepted-clause-untold g c =
    let a = g.D.Shelf.told c.args.depot.now in
    let b = g.D.Shelf.told c.expect_no_commit.new.depot in
    let d = g.D.Shelf.told c.make_repository.new.depot in
    let e = g.D.Shelf.told c.open.new.shelf in
    told_both a d e
    (told_both a b d (told_kept depot_failed a b c.expect_no_commit.result c.expect_no_commit.ensures.same) c.in_ok-counter.ensures.untold)
    (told_kept repo_failed d e c.open.result c.open.ensures.same)

pub returns-clause-untold : goal.returns-clause-untold
returns-clause-untold g c =
    let a = g.D.Shelf.told c.args.depot.now in
    let b = g.D.Shelf.told c.expect_no_commit.new.depot in
    let d = g.D.Shelf.told c.make_repository.new.depot in
    let e = g.D.Shelf.told c.open.new.shelf in
    told_both a d e
    (told_both a b d (told_kept depot_failed a b c.expect_no_commit.result c.expect_no_commit.ensures.same) c.in_ok-counter.ensures.untold)
    (told_kept repo_failed d e c.open.result c.open.ensures.same)

pub returns-in_err-counter-clause-refused : goal.returns-in_err-counter-clause-refused
returns-in_err-counter-clause-refused g c =
    let a = g.D.Shelf.told c.args.depot.now in
    let b = g.D.Shelf.told c.expect_no_commit.new.depot in
    let refusal = c.in_err-counter.field-0.0 in
    let secret = c.args.secret.now in
    err_is c.from_residual-in_err-counter.result refusal
    (λ (r : Result Store StoreRefusal). IfErr r (λ x. IfSome a (λ t. RefusesInit secret c.args.timestamp.now t.history x)))
    c.from_residual-in_err-counter.ensures.1
    (making_refused secret c.args.timestamp.now c.in_ok-given.given a b refusal c.in_ok-given.ensures.given c.in_ok-expect_no_commit.ensures.none
    c.in_ok-expect_no_commit.ensures.same c.in_err-counter.ensures.refused)
