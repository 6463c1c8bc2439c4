use Rattle.std.proofs.Common.{◌≡◌, Ok, Err, Result, ap}
use Rattle.ferry_nonce.specs.Fault.{nonce_failed}
use Rattle.ferry_nonce.specs.declared.counter.Counter.{Counter}
use Rattle.ferry_stops.proofs.TellLemmas.{told_both}
use Rattle.ferry_store.proofs.CallLemmas.{begin_ends, begins_here, begun_err, begun_ok, begun_settled, nonce_is, number_there, numbered_leaves, read_first}
use Rattle.ferry_store.proofs.CallLemmas.{read_refused, unread_leaves}
use Rattle.ferry_store.proofs.StepLemmas.{after_same, err_is, same_told}
use Rattle.ferry_store.proofs.state.begin_at.Goals as goal
use Rattle.ferry_store.specs.Fault.{nonce_refusal, write_refusal}
use Rattle.ferry_store.specs.State.{Begins, BeginsSound, Did}
use Rattle.ferry_store.specs.declared.fault.StoreRefusal.{StoreRefusal}
use Rattle.ferry_write.specs.Session.{ClearsAll, SettlesFirst}
use Rattle.ferry_write.specs.declared.session.Session.{Session}
use Rattle.ferry_store.proofs.WritingLemmas.{same_removes}
use Rattle.ferry_write.specs.Front.{OnlyRemoves}

pub returns-in_err-counter-clause-did : goal.returns-in_err-counter-clause-did
returns-in_err-counter-clause-did g c =
    let a = g.D.Shelf.told c.args.depot.now in
    let b = g.D.Shelf.told c.open.new.depot in
    let n = g.D.Shelf.faults c.args.depot.now in
    let m = g.D.Shelf.faults c.open.new.depot in
    let fault = c.in_err-counter.field-0.0 in
    err_is c.from_residual.result (nonce_refusal fault)
    (λ (r : Result (Counter × Session) StoreRefusal). Did (BeginsSound c.args.after) (λ x. Begins c.args.after x.0 x.1) a b n m r) c.from_residual.ensures.1
    (read_refused {T = Counter × Session} nonce_failed fault (nonce_refusal fault) (BeginsSound c.args.after) (λ x. Begins c.args.after x.0 x.1) a b n m
    (nonce_is fault)
    (begins_here c.args.after) c.in_err-counter.ensures.same c.in_err-counter.ensures.cause)

pub returns-in_err-counter-clause-first : goal.returns-in_err-counter-clause-first
returns-in_err-counter-clause-first g c =
    read_first {T = Counter} nonce_failed (g.D.Shelf.told c.args.depot.now) (g.D.Shelf.told c.open.new.depot) (Err c.in_err-counter.field-0.0)
    c.in_err-counter.ensures.same

pub returns-in_err-session-clause-did : goal.returns-in_err-session-clause-did
returns-in_err-session-clause-did g c =
    let a = g.D.Shelf.told c.args.depot.now in
    let b = g.D.Shelf.told c.open.new.depot in
    let d = g.D.Shelf.told c.begin.new.depot in
    let n = g.D.Shelf.faults c.args.depot.now in
    let m = g.D.Shelf.faults c.open.new.depot in
    let k = g.D.Shelf.faults c.begin.new.depot in
    let fault = c.in_err-session.field-0.0 in
    err_is c.from_residual-in_err-session.result (write_refusal fault)
    (λ (r : Result (Counter × Session) StoreRefusal). Did (BeginsSound c.args.after) (λ x. Begins c.args.after x.0 x.1) a d n k r)
    c.from_residual-in_err-session.ensures.1
    (begun_err c.args.after c.in_ok-counter.counter fault a b d n m k c.in_ok-counter.ensures.same c.in_ok-counter.ensures.cause
    c.in_err-session.ensures.moments c.in_err-session.ensures.gains c.in_err-session.ensures.beside c.in_err-session.ensures.cause
    c.in_err-session.ensures.ends)

pub returns-in_err-session-clause-first : goal.returns-in_err-session-clause-first
returns-in_err-session-clause-first g c =
    let a = g.D.Shelf.told c.args.depot.now in
    let b = g.D.Shelf.told c.open.new.depot in
    after_same SettlesFirst a b (g.D.Shelf.told c.begin.new.depot)
    (same_told nonce_failed a b (Ok c.in_ok-counter.counter) c.in_ok-counter.ensures.same) c.in_err-session.ensures.first

pub returns-clause-did : goal.returns-clause-did
returns-clause-did g c =
    begun_ok c.args.after c.in_ok-counter.counter c.in_ok-session.session (g.D.Shelf.told c.args.depot.now) (g.D.Shelf.told c.open.new.depot)
    (g.D.Shelf.told c.begin.new.depot) (g.D.Shelf.faults c.args.depot.now) (g.D.Shelf.faults c.open.new.depot) (g.D.Shelf.faults c.begin.new.depot)
    c.in_ok-counter.ensures.same c.in_ok-counter.ensures.cause c.in_ok-counter.ensures.opened c.in_ok-counter.ensures.counts
    c.in_ok-session.ensures.moments c.in_ok-session.ensures.gains c.in_ok-session.ensures.beside c.in_ok-session.ensures.begun c.in_ok-session.ensures.rows
    c.in_ok-session.ensures.acts c.in_ok-session.ensures.cause c.in_ok-session.ensures.ends
    (begin_ends c.in_ok-session.session c.args.after (ap (λ (s : Session). s.last) c.in_ok-session.ensures.fresh)
    (ap (λ (s : Session). s.after) c.in_ok-session.ensures.fresh))

pub returns-clause-settled : goal.returns-clause-settled
returns-clause-settled g c =
    begun_settled c.args.after c.in_ok-session.session (g.D.Shelf.told c.open.new.depot) (g.D.Shelf.told c.begin.new.depot) c.in_ok-session.ensures.acts
    c.in_ok-session.ensures.ends

pub returns-clause-first : goal.returns-clause-first
returns-clause-first g c =
    let a = g.D.Shelf.told c.args.depot.now in
    let b = g.D.Shelf.told c.open.new.depot in
    after_same SettlesFirst a b (g.D.Shelf.told c.begin.new.depot)
    (same_told nonce_failed a b (Ok c.in_ok-counter.counter) c.in_ok-counter.ensures.same) c.in_ok-session.ensures.first

pub returns-clause-clears : goal.returns-clause-clears
returns-clause-clears g c =
    let a = g.D.Shelf.told c.args.depot.now in
    let b = g.D.Shelf.told c.open.new.depot in
    after_same (ClearsAll c.args.after) a b (g.D.Shelf.told c.begin.new.depot)
    (same_told nonce_failed a b (Ok c.in_ok-counter.counter) c.in_ok-counter.ensures.same) c.in_ok-session.ensures.acts

pub returns-in_err-session-clause-untold : goal.returns-in_err-session-clause-untold
returns-in_err-session-clause-untold g c =
    told_both (g.D.Shelf.told c.args.depot.now) (g.D.Shelf.told c.open.new.depot) (g.D.Shelf.told c.begin.new.depot) c.in_ok-counter.ensures.untold
    c.in_err-session.ensures.untold

pub returns-clause-untold : goal.returns-clause-untold
returns-clause-untold g c =
    told_both (g.D.Shelf.told c.args.depot.now) (g.D.Shelf.told c.open.new.depot) (g.D.Shelf.told c.begin.new.depot) c.in_ok-counter.ensures.untold
    c.in_ok-session.ensures.untold

pub returns-clause-there : goal.returns-clause-there
returns-clause-there g c =
    number_there c.args.committed c.in_ok-counter.counter (g.D.Shelf.told c.args.depot.now) c.in_ok-counter.ensures.opened c.in_ok-counter.ensures.missing

pub returns-in_err-counter-clause-leaves : goal.returns-in_err-counter-clause-leaves
returns-in_err-counter-clause-leaves g c =
    let a = g.D.Shelf.told c.args.depot.now in
    let b = g.D.Shelf.told c.open.new.depot in
    unread_leaves c.args.committed a b (same_told {T = Counter} nonce_failed a b (Err c.in_err-counter.field-0.0) c.in_err-counter.ensures.same)

pub returns-in_err-session-clause-leaves : goal.returns-in_err-session-clause-leaves
returns-in_err-session-clause-leaves g c =
    let a = g.D.Shelf.told c.args.depot.now in
    let b = g.D.Shelf.told c.open.new.depot in
    numbered_leaves c.args.committed (λ h g. g ≡ h) _ a b (g.D.Shelf.told c.begin.new.depot)
    (number_there c.args.committed c.in_ok-counter.counter a c.in_ok-counter.ensures.opened c.in_ok-counter.ensures.missing)
    (same_told nonce_failed a b (Ok c.in_ok-counter.counter) c.in_ok-counter.ensures.same) c.in_err-session.ensures.first

pub returns-clause-leaves : goal.returns-clause-leaves
returns-clause-leaves g c =
    let a = g.D.Shelf.told c.args.depot.now in
    let b = g.D.Shelf.told c.open.new.depot in
    numbered_leaves c.args.committed (λ h g. g ≡ h) _ a b (g.D.Shelf.told c.begin.new.depot)
    (number_there c.args.committed c.in_ok-counter.counter a c.in_ok-counter.ensures.opened c.in_ok-counter.ensures.missing)
    (same_told nonce_failed a b (Ok c.in_ok-counter.counter) c.in_ok-counter.ensures.same) c.in_ok-session.ensures.first

pub returns-in_err-counter-clause-removes : goal.returns-in_err-counter-clause-removes
returns-in_err-counter-clause-removes g c =
    let a = g.D.Shelf.told c.args.depot.now in
    let b = g.D.Shelf.told c.open.new.depot in
    same_removes a b (same_told {T = Counter} nonce_failed a b (Err c.in_err-counter.field-0.0) c.in_err-counter.ensures.same)

pub returns-in_err-session-clause-removes : goal.returns-in_err-session-clause-removes
returns-in_err-session-clause-removes g c =
    let a = g.D.Shelf.told c.args.depot.now in
    let b = g.D.Shelf.told c.open.new.depot in
    after_same OnlyRemoves a b (g.D.Shelf.told c.begin.new.depot)
    (same_told nonce_failed a b (Ok c.in_ok-counter.counter) c.in_ok-counter.ensures.same) c.in_err-session.ensures.removes

pub returns-clause-removes : goal.returns-clause-removes
returns-clause-removes g c =
    let a = g.D.Shelf.told c.args.depot.now in
    let b = g.D.Shelf.told c.open.new.depot in
    after_same OnlyRemoves a b (g.D.Shelf.told c.begin.new.depot)
    (same_told nonce_failed a b (Ok c.in_ok-counter.counter) c.in_ok-counter.ensures.same) c.in_ok-session.ensures.removes
