use Rattle.ferry_store.proofs.TypeLemmas.{told_mode}
use Rattle.std.proofs.Common.{◌≡◌, inl, inr, true, OnOk, Result, subst, IfErr, IfSome, sym, ap}
use Rattle.ferry_disk.specs.Device.{told_files}
use Rattle.ferry_disk.specs.Moments.{Between}
use Rattle.ferry_repo.specs.Opening.{repo_view}
use Rattle.ferry_store.proofs.AddLemmas.{learnt_known, put_did}
use Rattle.ferry_store.proofs.CauseLemmas.{store_stops}
use Rattle.ferry_store.proofs.store.Store.add_new.Goals as goal
use Rattle.ferry_store.specs.Causes.{Stops, StopsAt}
use Rattle.ferry_store.specs.Content.{HasPut, Learns}
use Rattle.ferry_store.specs.Piece.{content_in}
use Rattle.ferry_store.specs.State.{Did, KeepsSound}
use Rattle.ferry_store.specs.declared.fault.StoreRefusal.{StoreRefusal}
use Rattle.ferry_store.proofs.FewLemmas.{few_answered, few_refused}
use Rattle.ferry_store.specs.declared.content.Added.{Added}
use Rattle.ferry_store.specs.declared.store.Store.{Store}
use Rattle.ferry_store.proofs.WritingLemmas.{new_writes}

pub returns-in-Ok-clause-did : goal.returns-in-Ok-clause-did
returns-in-Ok-clause-did g c =
    let a = g.D.Shelf.told c.args.depot.now in
    let b = g.D.Shelf.told c.put_content-put.new.depot in
    let n = g.D.Shelf.faults c.args.depot.now in
    let m = g.D.Shelf.faults c.put_content-put.new.depot in
    let store = c.args.self.now in
    let repo = c.put_content-put.new.repo in
    let session = c.put_content-put.new.session in
    let counter = c.put_content-put.new.counter in
    let content = content_in (repo_view store.repo).keys c.args.is_blob c.args.buffer.now in
    put_did store repo session counter c.saturating_add-self.result content c.args.id a b n m c.in-Ok.field-0 c.requires.prepared.named c.requires.new
    c.put_content-put.ensures.cached
    (subst (λ (r : Result (Unit {0}) StoreRefusal). OnOk r (session.after ≡ store.session.after)) c.in-Ok.is c.put_content-put.ensures.after)
    c.saturating_add-self.ensures
    (subst (λ (r : Result (Unit {0}) StoreRefusal). Did (KeepsSound store.session store.counter)
    (λ _. HasPut (repo_view store.repo) store.session store.counter c.args.id content (repo_view repo) session counter) a b n m r) c.in-Ok.is
    c.put_content-put.ensures.did)

pub returns-in-Ok-clause-known : goal.returns-in-Ok-clause-known
returns-in-Ok-clause-known g c =
    let store = c.args.self.now in
    let repo = c.put_content-put.new.repo in
    inr (inl (learnt_known (repo_view store.repo) (repo_view repo) c.args.id
    (subst (λ (r : Result (Unit {0}) StoreRefusal). OnOk r (Learns (repo_view store.repo) c.args.id true (repo_view repo))) c.in-Ok.is
    c.put_content-put.ensures.learns)))

pub returns-in-Err-clause-stops : goal.returns-in-Err-clause-stops
returns-in-Err-clause-stops g c =
    let a = g.D.Shelf.told c.args.depot.now in
    let b = g.D.Shelf.told c.put_content-put.new.depot in
    let n = g.D.Shelf.faults c.args.depot.now in
    let m = g.D.Shelf.faults c.put_content-put.new.depot in
    let store = c.args.self.now in
    let repo = c.put_content-put.new.repo in
    let session = c.put_content-put.new.session in
    let counter = c.put_content-put.new.counter in
    let refusal = c.in-Err.refusal in
    let did = subst (λ (r : Result (Unit {0}) StoreRefusal). Did (KeepsSound store.session store.counter)
    (λ _. HasPut (repo_view store.repo) store.session store.counter c.args.id (content_in (repo_view store.repo).keys c.args.is_blob c.args.buffer.now)
    (repo_view repo) session counter) a b n m r) c.in-Err.is
    c.put_content-put.ensures.did in
    let stops = subst (λ (r : Result (Unit {0}) StoreRefusal). IfErr r (λ f. Between a b (Stops store.session store.counter f))) c.in-Err.is
    c.put_content-put.ensures.stops in
    subst (λ (f : StoreRefusal). IfSome b (λ t. StopsAt t.history.start (told_files t) (repo_view store.repo).keys f)) (sym c.spend.ensures.same)
    (store_stops store refusal a b c.requires.fits did.ends stops)

pub returns-in-Ok-clause-few : goal.returns-in-Ok-clause-few
returns-in-Ok-clause-few g c =
    few_answered {T = Unit {0}} {U = Added} 1 c.args.self.now.session.last c.put_content-put.new.session.last c.put_content-put.result _
    c.put_content-put.ensures.few

pub returns-in-Err-clause-few : goal.returns-in-Err-clause-few
returns-in-Err-clause-few g c =
    few_refused {T = Unit {0}} {U = Added} 1 c.args.self.now.session.last c.put_content-put.new.session.last c.spend.new.self.session.last
    c.put_content-put.result c.in-Err.refusal c.spend.result c.in-Err.is c.spend.ensures.same (ap (λ (s : Store). s.session.last) c.spend.ensures.spent)
    c.put_content-put.ensures.few

pub returns-in-Ok-clause-writes : goal.returns-in-Ok-clause-writes
returns-in-Ok-clause-writes g c =
    let store = c.args.self.now in
    new_writes store c.args.id (content_in (repo_view store.repo).keys c.args.is_blob c.args.buffer.now) (g.D.Shelf.told c.args.depot.now)
    (g.D.Shelf.told c.put_content-put.new.depot) c.requires.prepared.named c.requires.new c.put_content-put.ensures.writes

pub returns-in-Err-clause-writes : goal.returns-in-Err-clause-writes
returns-in-Err-clause-writes g c =
    let store = c.args.self.now in
    new_writes store c.args.id (content_in (repo_view store.repo).keys c.args.is_blob c.args.buffer.now) (g.D.Shelf.told c.args.depot.now)
    (g.D.Shelf.told c.put_content-put.new.depot) c.requires.prepared.named c.requires.new c.put_content-put.ensures.writes

pub put_content-put-requires-clause-mode : goal.put_content-put-requires-clause-mode
put_content-put-requires-clause-mode g c = told_mode c.args.self.now (g.D.Shelf.told c.args.depot.now) c.requires.fits
