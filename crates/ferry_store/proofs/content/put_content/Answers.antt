use Rattle.ferry_store.specs.Types.{FitsMode}
use Rattle.std.proofs.Common.{◌≡◌, ℕ, inr, List, Result, sym, ap, ◌∙◌, subst, IfErr, refl, Ok, arith, IfSome}
use Rattle.ferry_blob.specs.Blob.{OpensTo, content_id, sealed}
use Rattle.ferry_blob.specs.declared.mode.Mode.{Mode}
use Rattle.ferry_disk.specs.Moments.{Between}
use Rattle.ferry_mac.specs.declared.keys.Keys.{Keys}
use Rattle.ferry_repo.specs.Opening.{mode_of, repo_view}
use Rattle.ferry_stops.specs.Tells.{TellsNothing}
use Rattle.ferry_store.proofs.CauseLemmas.{memory_stops}
use Rattle.ferry_store.proofs.ContentLemmas.{content_put}
use Rattle.ferry_store.proofs.StepLemmas.{err_is}
use Rattle.ferry_store.proofs.content.put_content.Goals as goal
use Rattle.ferry_store.specs.Causes.{Stops}
use Rattle.ferry_store.specs.Content.{blob_for}
use Rattle.ferry_store.specs.Piece.{content_in}
use Rattle.ferry_store.specs.declared.fault.StoreRefusal.{StoreRefusal}
use Rattle.ferry_store.specs.declared.fault.StoreRefusal.TheVariants.{Memory}
use Rattle.ferry_store.proofs.FewLemmas.{IsUsedUp, few_answered, few_later, few_same}
use Rattle.ferry_store.specs.Limits.{BeginsFew}
use Rattle.ferry_log.specs.declared.place.Place.{Place}
use Rattle.ferry_store.proofs.WritingLemmas.{content_writes}

pub returns-clause-did : goal.returns-clause-did
returns-clause-did g c =
    let a = g.D.Shelf.told c.args.depot.now in
    let b = g.D.Shelf.told c.put_object.new.depot in
    let n = g.D.Shelf.faults c.args.depot.now in
    let m = g.D.Shelf.faults c.put_object.new.depot in
    let repo = repo_view c.args.repo.now in
    let session = c.args.session.now in
    let counter = c.args.counter.now in
    let id = c.args.id.now in
    let content = content_in repo.keys c.args.is_blob c.args.buffer.now in
    let place = c.in_ok-place.place in
    let buffer = c.args.buffer.now in
    let keys = c.keys.result.now in
    let mode = c.mode-mode.result in
    let read = content_in keys c.args.is_blob buffer in
    let inside : read ≡ content = ap (λ (k : Keys). content_in k c.args.is_blob buffer) c.keys.ensures.keys in
    let same : sealed keys mode counter.free read ≡ blob_for repo counter content =
    ap (λ (k : Keys). sealed k mode counter.free read) c.keys.ensures.keys
    ∙ (ap (λ (m : Mode). sealed repo.keys m counter.free read) c.mode-mode.ensures.mode
    ∙ ap (λ (x : List ℕ). sealed repo.keys (mode_of repo.config) counter.free x) inside) in
    let named : id ≡ content_id keys read =
    c.requires.prepared.named ∙ (ap (λ (k : Keys). content_id k content) (sym c.keys.ensures.keys) ∙ ap (content_id keys) (sym inside)) in
    let at_keys : OpensTo repo.keys id (blob_for repo counter content) read =
    subst (λ (k : Keys). OpensTo k id (blob_for repo counter content) read) c.keys.ensures.keys
    (subst (λ (x : List ℕ). OpensTo keys id x read) same (c.in_ok-place.ensures.opens id (inr named))) in
    content_put repo (repo_view c.learn.new.self) session c.put_object.new.session counter c.put_object.new.counter id content
    (sealed keys mode counter.free read) place a b n m same
    (subst (λ (x : List ℕ). OpensTo repo.keys id (blob_for repo counter content) x) inside at_keys)
    c.in_ok-learn.ensures.learnt c.in_ok-place.ensures.did c.in_ok-place.ensures.placed

pub returns-clause-opens : goal.returns-clause-opens
returns-clause-opens g c =
    let repo = repo_view c.args.repo.now in
    let counter = c.args.counter.now in
    let id = c.args.id.now in
    let buffer = c.args.buffer.now in
    let content = content_in repo.keys c.args.is_blob buffer in
    let keys = c.keys.result.now in
    let mode = c.mode-mode.result in
    let read = content_in keys c.args.is_blob buffer in
    let inside : read ≡ content = ap (λ (k : Keys). content_in k c.args.is_blob buffer) c.keys.ensures.keys in
    let same : sealed keys mode counter.free read ≡ blob_for repo counter content =
    ap (λ (k : Keys). sealed k mode counter.free read) c.keys.ensures.keys
    ∙ (ap (λ (m : Mode). sealed repo.keys m counter.free read) c.mode-mode.ensures.mode
    ∙ ap (λ (x : List ℕ). sealed repo.keys (mode_of repo.config) counter.free x) inside) in
    let named : id ≡ content_id keys read =
    c.requires.prepared.named ∙ (ap (λ (k : Keys). content_id k content) (sym c.keys.ensures.keys) ∙ ap (content_id keys) (sym inside)) in
    let opens : OpensTo keys id (blob_for repo counter content) read =
    subst (λ (b : List ℕ). OpensTo keys id b read) same (c.in_ok-place.ensures.opens id (inr named)) in
    subst (OpensTo repo.keys id (blob_for repo counter content)) inside
    (subst (λ (k : Keys). OpensTo k id (blob_for repo counter content) read) c.keys.ensures.keys opens)

pub returns-in_err-learn-clause-stops : goal.returns-in_err-learn-clause-stops
returns-in_err-learn-clause-stops g c =
    let a = g.D.Shelf.told c.args.depot.now in
    let b = g.D.Shelf.told c.put_object.new.depot in
    let session = c.args.session.now in
    let counter = c.args.counter.now in
    err_is c.from_residual-in_err-learn.result Memory (λ (r : Result (Unit {0}) StoreRefusal). IfErr r (λ f. Between a b (Stops session counter f)))
    c.from_residual-in_err-learn.ensures.1 (memory_stops session counter Memory TellsNothing a b refl c.in_ok-place.ensures.untold)

pub returns-in_err-place-clause-few : goal.returns-in_err-place-clause-few
returns-in_err-place-clause-few g c =
    let last = c.args.session.now.last in
    let now = c.put_object.new.session.last in
    let f = c.in_err-place.field-0.0 in
    err_is c.from_residual.result f (λ (r : Result (Unit {0}) StoreRefusal). BeginsFew 1 last now (IsUsedUp {T = Unit {0}} r)) c.from_residual.ensures.1
    (few_same {T = Place} {U = Unit {0}} 1 1 last now f (omega arith) c.in_err-place.ensures.few)

pub returns-in_err-learn-clause-few : goal.returns-in_err-learn-clause-few
returns-in_err-learn-clause-few g c =
    let last = c.args.session.now.last in
    let now = c.put_object.new.session.last in
    err_is c.from_residual-in_err-learn.result Memory (λ (r : Result (Unit {0}) StoreRefusal). BeginsFew 1 last now (IsUsedUp {T = Unit {0}} r))
    c.from_residual-in_err-learn.ensures.1 (few_later {T = Unit {0}} 1 last now _ Memory refl c.in_ok-place.ensures.few)

pub returns-clause-few : goal.returns-clause-few
returns-clause-few g c =
    few_answered {T = Place} {U = Unit {0}} 1 c.args.session.now.last c.put_object.new.session.last (Ok c.in_ok-place.place) tt c.in_ok-place.ensures.few

pub returns-in_err-place-clause-writes : goal.returns-in_err-place-clause-writes
returns-in_err-place-clause-writes g c =
    content_writes (repo_view c.args.repo.now) c.args.session.now c.args.counter.now c.keys.result.now c.mode-mode.result c.args.id.now c.args.buffer.now
    c.args.is_blob (g.D.Shelf.told c.args.depot.now) (g.D.Shelf.told c.put_object.new.depot) c.keys.ensures.keys c.mode-mode.ensures.mode
    c.requires.prepared.named c.in_err-place.ensures.writes

pub returns-in_err-learn-clause-writes : goal.returns-in_err-learn-clause-writes
returns-in_err-learn-clause-writes g c =
    content_writes (repo_view c.args.repo.now) c.args.session.now c.args.counter.now c.keys.result.now c.mode-mode.result c.args.id.now c.args.buffer.now
    c.args.is_blob (g.D.Shelf.told c.args.depot.now) (g.D.Shelf.told c.put_object.new.depot) c.keys.ensures.keys c.mode-mode.ensures.mode
    c.requires.prepared.named c.in_ok-place.ensures.writes

pub returns-clause-writes : goal.returns-clause-writes
returns-clause-writes g c =
    content_writes (repo_view c.args.repo.now) c.args.session.now c.args.counter.now c.keys.result.now c.mode-mode.result c.args.id.now c.args.buffer.now
    c.args.is_blob (g.D.Shelf.told c.args.depot.now) (g.D.Shelf.told c.put_object.new.depot) c.keys.ensures.keys c.mode-mode.ensures.mode
    c.requires.prepared.named c.in_ok-place.ensures.writes

pub put_object-requires-clause-mode : goal.put_object-requires-clause-mode
put_object-requires-clause-mode g c =
    subst (λ (k : Mode). IfSome (g.D.Shelf.told c.args.depot.now) (λ t. FitsMode t.history k)) (sym c.mode-mode.ensures.mode) c.requires.mode
