use Rattle.std.proofs.Common.{Result, IfErr, ℕ, ap}
use Rattle.ferry_disk.specs.Act.{History}
use Rattle.ferry_disk.specs.Moments.{Between}
use Rattle.ferry_store.proofs.CallLemmas.{commit_ends, committed_err, committed_ok}
use Rattle.ferry_store.proofs.CauseLemmas.{fault_of, only_appends, write_stops}
use Rattle.ferry_store.proofs.CommitLemmas.{did_beside}
use Rattle.ferry_store.proofs.StepLemmas.{err_is}
use Rattle.ferry_store.proofs.state.commit.Goals as goal
use Rattle.ferry_store.specs.Causes.{Stops}
use Rattle.ferry_store.specs.Fault.{write_refusal}
use Rattle.ferry_store.specs.State.{CommitsSound, Did, TakesCommit}
use Rattle.ferry_store.specs.declared.fault.StoreRefusal.{StoreRefusal}
use Rattle.ferry_write.specs.Session.{OnlyAppends}
use Rattle.ferry_store.proofs.FewLemmas.{IsUsedUp, few_commit, few_spent}
use Rattle.ferry_store.specs.Limits.{BeginsFew}
use Rattle.ferry_store.proofs.WritingLemmas.{commit_writes}

pub returns-in_err-commit-clause-did : goal.returns-in_err-commit-clause-did
returns-in_err-commit-clause-did g c counter =
    let a = g.D.Shelf.told c.args.depot.now in
    let b = g.D.Shelf.told c.commit.new.depot in
    let n = g.D.Shelf.faults c.args.depot.now in
    let m = g.D.Shelf.faults c.commit.new.depot in
    let session = c.args.session.now in
    let fault = c.in_err-commit.field-0.0 in
    let Q : Unit {0} → History → History → Type 0 = λ _ h k. TakesCommit session counter c.commit.new.self h k × OnlyAppends session h k in
    err_is c.from_residual.result (write_refusal fault) (λ (r : Result (Unit {0}) StoreRefusal). Did (CommitsSound session counter) Q a b n m r)
    c.from_residual.ensures.1
    (committed_err {T = Unit {0}} session counter Q fault a b n m c.in_err-commit.ensures.moments c.in_err-commit.ensures.gains
    c.in_err-commit.ensures.beside c.in_err-commit.ensures.cause c.in_err-commit.ensures.ends)

pub returns-clause-did : goal.returns-clause-did
returns-clause-did g c counter =
    let a = g.D.Shelf.told c.args.depot.now in
    let b = g.D.Shelf.told c.commit.new.depot in
    let n = g.D.Shelf.faults c.args.depot.now in
    let m = g.D.Shelf.faults c.commit.new.depot in
    let session = c.args.session.now in
    let now = c.commit.new.self in
    did_beside {T = Unit {0}} (CommitsSound session counter) (λ _. TakesCommit session counter now) (OnlyAppends session) a b n m tt
    c.in_ok-commit.ensures.stays
    (committed_ok {T = Unit {0}} session now counter tt a b n m c.in_ok-commit.ensures.moments c.in_ok-commit.ensures.committed
    c.in_ok-commit.ensures.gains c.in_ok-commit.ensures.rows c.in_ok-commit.ensures.beside c.in_ok-commit.ensures.done c.in_ok-commit.ensures.cause
    c.in_ok-commit.ensures.ends (commit_ends session now c.in_ok-commit.ensures.ok))

pub returns-in_err-commit-clause-stops : goal.returns-in_err-commit-clause-stops
returns-in_err-commit-clause-stops g c counter =
    let a = g.D.Shelf.told c.args.depot.now in
    let b = g.D.Shelf.told c.commit.new.depot in
    let session = c.args.session.now in
    let fault = c.in_err-commit.field-0.0 in
    err_is c.from_residual.result (write_refusal fault) (λ (r : Result (Unit {0}) StoreRefusal). IfErr r (λ f. Between a b (Stops session counter f)))
    c.from_residual.ensures.1
    (write_stops session counter fault a b (λ is. c.in_err-commit.ensures.numbers.0 (ap (fault_of {T = ℕ}) is))
    (only_appends session counter a b c.in_err-commit.ensures.stays))

pub returns-in_err-commit-clause-few : goal.returns-in_err-commit-clause-few
returns-in_err-commit-clause-few g c =
    let session = c.args.session.now in
    let now = c.commit.new.self in
    let fault = c.in_err-commit.field-0.0 in
    err_is c.from_residual.result (write_refusal fault)
    (λ (r : Result (Unit {0}) StoreRefusal). BeginsFew 1 session.last now.last (IsUsedUp {T = Unit {0}} r)) c.from_residual.ensures.1
    (few_spent {T = Unit {0}} session now fault c.in_err-commit.ensures.err (λ is. c.in_err-commit.ensures.numbers.0 (ap (fault_of {T = ℕ}) is)))

pub returns-clause-few : goal.returns-clause-few
returns-clause-few g c = few_commit {T = Unit {0}} c.args.session.now c.commit.new.self tt c.in_ok-commit.ensures.ok

pub returns-in_err-commit-clause-writes : goal.returns-in_err-commit-clause-writes
returns-in_err-commit-clause-writes g c counter =
    commit_writes c.args.session.now counter (g.D.Shelf.told c.args.depot.now) (g.D.Shelf.told c.commit.new.depot) c.in_err-commit.ensures.writes

pub returns-clause-writes : goal.returns-clause-writes
returns-clause-writes g c counter =
    commit_writes c.args.session.now counter (g.D.Shelf.told c.args.depot.now) (g.D.Shelf.told c.commit.new.depot) c.in_ok-commit.ensures.writes
