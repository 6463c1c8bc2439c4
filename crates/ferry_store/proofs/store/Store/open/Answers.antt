use Rattle.std.proofs.Common.{rules, ◌≡◌, ℕ, false, ap, ◌∙◌, Some, Ok, Err, Result, IfErr, IfSome, refl, subst}
use Rattle.ferry_disk.specs.Device.{told_files}
use Rattle.ferry_disk.specs.Moments.{Between}
use Rattle.ferry_nonce.specs.declared.counter.Counter.{Counter}
use Rattle.ferry_repo.specs.Fault.{repo_failed}
use Rattle.ferry_repo.specs.Opening.{OpensFilesTo, repo_view}
use Rattle.ferry_repo.specs.declared.repo.Repo.{Repo}
use Rattle.ferry_stops.proofs.TellLemmas.{told_both, told_kept}
use Rattle.ferry_store.proofs.OpenLemmas.{begin_leaves, open_begun, open_unbegun, open_uncopied, open_unread, same_leaves}
use Rattle.ferry_store.proofs.UnopenedLemmas.{begin_told, there_told}
use Rattle.ferry_store.proofs.StepLemmas.{after_same, err_is, same_told}
use Rattle.ferry_store.proofs.store.Store.open.Goals as goal
use Rattle.ferry_store.specs.Fault.{repo_refusal}
use Rattle.ferry_store.specs.State.{Begins, BeginsSound, Did}
use Rattle.ferry_store.specs.Store.{OpenEach, OpenFits, RefusesOpen}
use Rattle.ferry_store.specs.declared.fault.StoreRefusal.{StoreRefusal}
use Rattle.ferry_store.specs.declared.fault.StoreRefusal.TheVariants.{Memory}
use Rattle.ferry_store.specs.declared.store.Store.{Store}
use Rattle.ferry_write.specs.Session.{ClearsAll}
use Rattle.ferry_write.specs.declared.session.Session.{Session}
use Rattle.ferry_store.proofs.WritingLemmas.{same_removes}
use Rattle.ferry_write.specs.Front.{OnlyRemoves}

pub returns-in_err-repo-clause-did : goal.returns-in_err-repo-clause-did
returns-in_err-repo-clause-did g c =
    let a = g.D.Shelf.told c.args.depot.now in
    let b = g.D.Shelf.told c.open.new.shelf in
    let n = g.D.Shelf.faults c.args.depot.now in
    let m = g.D.Shelf.faults c.open.new.shelf in
    let fault = c.in_err-repo.field-0.0 in
    err_is c.from_residual.result (repo_refusal fault) (λ (r : Result Store StoreRefusal). Did OpenEach OpenFits a b n m r) c.from_residual.ensures.1
    (open_unread Repo {T = Store} OpenFits fault a b n m c.in_err-repo.ensures.same c.in_err-repo.ensures.cause)

pub returns-in_err-accepted-clause-did : goal.returns-in_err-accepted-clause-did
returns-in_err-accepted-clause-did g c =
    let a = g.D.Shelf.told c.args.depot.now in
    let b = g.D.Shelf.told c.open.new.shelf in
    let n = g.D.Shelf.faults c.args.depot.now in
    let m = g.D.Shelf.faults c.open.new.shelf in
    err_is c.from_residual-in_err-accepted.result Memory (λ (r : Result Store StoreRefusal). Did OpenEach OpenFits a b n m r)
    c.from_residual-in_err-accepted.ensures.1
    (open_uncopied {R = Repo} {T = Store} OpenFits c.in_ok-repo.repo Memory a b n m refl c.in_ok-repo.ensures.same c.in_ok-repo.ensures.cause)

pub returns-in_err-counter-clause-did : goal.returns-in_err-counter-clause-did
returns-in_err-counter-clause-did g c =
    let a = g.D.Shelf.told c.args.depot.now in
    let b = g.D.Shelf.told c.open.new.shelf in
    let d = g.D.Shelf.told c.begin_at.new.depot in
    let n = g.D.Shelf.faults c.args.depot.now in
    let m = g.D.Shelf.faults c.open.new.shelf in
    let k = g.D.Shelf.faults c.begin_at.new.depot in
    let refusal = c.in_err-counter.field-0.0 in
    let repo = c.in_ok-repo.repo in
    let is : c.transaction-transaction.result ≡ (repo_view repo).log.transaction = search rules in
    err_is c.from_residual-in_err-counter.result refusal (λ (r : Result Store StoreRefusal). Did OpenEach OpenFits a d n k r)
    c.from_residual-in_err-counter.ensures.1
    (open_unbegun {R = Repo} {T = Store} (λ f. OpensFilesTo f c.args.secret.now (repo_view repo)) OpenFits repo (repo_view repo).log refusal a b d n m k
    (λ f o. o.opens.unlocks.reads) c.in_ok-repo.ensures.same c.in_ok-repo.ensures.cause c.in_ok-repo.ensures.repository
    c.in_err-counter.ensures.first
    (subst (λ (t : ℕ). Did {T = Counter × Session} (BeginsSound (Some t)) (λ x. Begins (Some t) x.0 x.1) b d m k (Err refusal)) is
    c.in_err-counter.ensures.did))

pub returns-in_err-counter-clause-refused : goal.returns-in_err-counter-clause-refused
returns-in_err-counter-clause-refused g c =
    let a = g.D.Shelf.told c.args.depot.now in
    let b = g.D.Shelf.told c.open.new.shelf in
    let refusal = c.in_err-counter.field-0.0 in
    let repo = c.in_ok-repo.repo in
    err_is c.from_residual-in_err-counter.result refusal
    (λ (r : Result Store StoreRefusal). IfErr r (λ x. IfSome a (λ t. RefusesOpen c.args.secret.now (told_files t) x)))
    c.from_residual-in_err-counter.ensures.1
    (begin_told c.args.secret.now (repo_view repo) refusal a b (same_told repo_failed a b (Ok repo) c.in_ok-repo.ensures.same)
    c.in_ok-repo.ensures.repository c.in_err-counter.ensures.refused)

pub returns-clause-did : goal.returns-clause-did
returns-clause-did g c =
    let a = g.D.Shelf.told c.args.depot.now in
    let b = g.D.Shelf.told c.open.new.shelf in
    let d = g.D.Shelf.told c.begin_at.new.depot in
    let n = g.D.Shelf.faults c.args.depot.now in
    let m = g.D.Shelf.faults c.open.new.shelf in
    let k = g.D.Shelf.faults c.begin_at.new.depot in
    let repo = c.in_ok-repo.repo in
    let counter = c.in_ok-counter.counter in
    let session = c.in_ok-counter.session in
    let is : c.transaction-transaction.result ≡ (repo_view repo).log.transaction = search rules in
    open_begun c.args.secret.now
    (record {
      alloc = c.args.alloc;
      repo = repo;
      session = session;
      counter = counter;
      pending = 0;
      opened = c.new.result;
      accepted = c.in_ok-accepted.accepted;
      spent = false;
    }) a b d n m k c.in_ok-repo.ensures.same
    c.in_ok-repo.ensures.cause c.in_ok-repo.ensures.repository c.in_ok-repo.ensures.cached
    (ap (λ (s : Session). s.after) c.in_ok-counter.ensures.fresh.session_is ∙ ap (λ (t : ℕ). Some t) is) c.new.ensures.empty refl c.in_ok-counter.ensures.first
    (subst (λ (t : ℕ). Between b d (ClearsAll (Some t))) is c.in_ok-counter.ensures.clears)
    (subst (λ (t : ℕ). Did {T = Counter × Session} (BeginsSound (Some t)) (λ x. Begins (Some t) x.0 x.1) b d m k (Ok (counter, session))) is
    c.in_ok-counter.ensures.did)

pub returns-in_err-repo-clause-untold : goal.returns-in_err-repo-clause-untold
returns-in_err-repo-clause-untold g c =
    told_kept repo_failed (g.D.Shelf.told c.args.depot.now) (g.D.Shelf.told c.open.new.shelf) c.open.result c.open.ensures.same

pub returns-in_err-accepted-clause-untold : goal.returns-in_err-accepted-clause-untold
returns-in_err-accepted-clause-untold g c =
    told_kept repo_failed (g.D.Shelf.told c.args.depot.now) (g.D.Shelf.told c.open.new.shelf) c.open.result c.open.ensures.same

pub returns-in_err-counter-clause-untold : goal.returns-in_err-counter-clause-untold
returns-in_err-counter-clause-untold g c =
    let a = g.D.Shelf.told c.args.depot.now in
    let b = g.D.Shelf.told c.open.new.shelf in
    told_both a b (g.D.Shelf.told c.begin_at.new.depot) (told_kept repo_failed a b c.open.result c.open.ensures.same) c.in_err-counter.ensures.untold

pub returns-clause-untold : goal.returns-clause-untold
returns-clause-untold g c =
    let a = g.D.Shelf.told c.args.depot.now in
    let b = g.D.Shelf.told c.open.new.shelf in
    told_both a b (g.D.Shelf.told c.begin_at.new.depot) (told_kept repo_failed a b c.open.result c.open.ensures.same) c.in_ok-counter.ensures.untold

pub returns-clause-numbered : goal.returns-clause-numbered
returns-clause-numbered g c =
    let a = g.D.Shelf.told c.args.depot.now in
    let b = g.D.Shelf.told c.open.new.shelf in
    there_told a b (same_told repo_failed a b (Ok c.in_ok-repo.repo) c.in_ok-repo.ensures.same) c.in_ok-counter.ensures.there

pub returns-in_err-repo-clause-kept : goal.returns-in_err-repo-clause-kept
returns-in_err-repo-clause-kept g c =
    let a = g.D.Shelf.told c.args.depot.now in
    let b = g.D.Shelf.told c.open.new.shelf in
    same_leaves c.args.secret.now a b (same_told repo_failed a b c.open.result c.open.ensures.same)

pub returns-in_err-accepted-clause-kept : goal.returns-in_err-accepted-clause-kept
returns-in_err-accepted-clause-kept g c =
    let a = g.D.Shelf.told c.args.depot.now in
    let b = g.D.Shelf.told c.open.new.shelf in
    same_leaves c.args.secret.now a b (same_told repo_failed a b (Ok c.in_ok-repo.repo) c.in_ok-repo.ensures.same)

pub returns-in_err-counter-clause-kept : goal.returns-in_err-counter-clause-kept
returns-in_err-counter-clause-kept g c =
    let a = g.D.Shelf.told c.args.depot.now in
    let b = g.D.Shelf.told c.open.new.shelf in
    let d = g.D.Shelf.told c.begin_at.new.depot in
    begin_leaves c.args.secret.now (repo_view c.in_ok-repo.repo) a b d c.in_ok-repo.ensures.repository
    (same_told repo_failed a b (Ok c.in_ok-repo.repo) c.in_ok-repo.ensures.same) c.in_err-counter.ensures.leaves

pub returns-clause-kept : goal.returns-clause-kept
returns-clause-kept g c =
    let a = g.D.Shelf.told c.args.depot.now in
    let b = g.D.Shelf.told c.open.new.shelf in
    let d = g.D.Shelf.told c.begin_at.new.depot in
    begin_leaves c.args.secret.now (repo_view c.in_ok-repo.repo) a b d c.in_ok-repo.ensures.repository
    (same_told repo_failed a b (Ok c.in_ok-repo.repo) c.in_ok-repo.ensures.same) c.in_ok-counter.ensures.leaves

pub returns-in_err-repo-clause-removes : goal.returns-in_err-repo-clause-removes
returns-in_err-repo-clause-removes g c =
    let a = g.D.Shelf.told c.args.depot.now in
    let b = g.D.Shelf.told c.open.new.shelf in
    same_removes a b (same_told repo_failed a b c.open.result c.open.ensures.same)

pub returns-in_err-accepted-clause-removes : goal.returns-in_err-accepted-clause-removes
returns-in_err-accepted-clause-removes g c =
    let a = g.D.Shelf.told c.args.depot.now in
    let b = g.D.Shelf.told c.open.new.shelf in
    same_removes a b (same_told repo_failed a b c.open.result c.open.ensures.same)

pub returns-in_err-counter-clause-removes : goal.returns-in_err-counter-clause-removes
returns-in_err-counter-clause-removes g c =
    let a = g.D.Shelf.told c.args.depot.now in
    let b = g.D.Shelf.told c.open.new.shelf in
    after_same OnlyRemoves a b (g.D.Shelf.told c.begin_at.new.depot) (same_told repo_failed a b c.open.result c.open.ensures.same)
    c.in_err-counter.ensures.removes

pub returns-clause-removes : goal.returns-clause-removes
returns-clause-removes g c =
    let a = g.D.Shelf.told c.args.depot.now in
    let b = g.D.Shelf.told c.open.new.shelf in
    after_same OnlyRemoves a b (g.D.Shelf.told c.begin_at.new.depot) (same_told repo_failed a b c.open.result c.open.ensures.same)
    c.in_ok-counter.ensures.removes
