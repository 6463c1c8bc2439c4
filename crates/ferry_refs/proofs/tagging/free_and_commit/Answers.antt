use Rattle.std.proofs.Common.{Result, IfErr, ap}
use Rattle.std.proofs.lemmas.Result.{IfErr-weaker}
use Rattle.ferry_manifest.specs.Manifest.Writing.{manifest_text}
use Rattle.ferry_next.specs.Next.{written_at}
use Rattle.ferry_refs.proofs.CommitLemmas.{leaves_both}
use Rattle.ferry_refs.proofs.DropLemmas.{dropped_writing, untold_then}
use Rattle.ferry_refs.proofs.FreeLemmas.{free_commit, free_drops, free_none, free_refused, freed_next, salt_drawn}
use Rattle.ferry_refs.proofs.tagging.free_and_commit.Goals as goal
use Rattle.ferry_refs.specs.TagSteps.{Frees, FreesSound, RefusesFreeing}
use Rattle.ferry_repo.specs.Opening.{RepoState, repo_view}
use Rattle.ferry_store.proofs.StepLemmas.{err_is}
use Rattle.ferry_store.specs.Commit.{Commits, accepted_in, manifest_entry}
use Rattle.ferry_store.specs.Content.{blob_for}
use Rattle.ferry_store.specs.Standing.{with_manifest}
use Rattle.ferry_store.specs.State.{Did}
use Rattle.ferry_store.specs.declared.fault.StoreRefusal.{StoreRefusal}

pub returns-in_err-drop_chunks-clause-did : goal.returns-in_err-drop_chunks-clause-did
returns-in_err-drop_chunks-clause-did g c =
    let store = c.args.store.now in
    let now = c.drop_chunks.new.store in
    let a = g.D.Shelf.told c.args.depot.now in
    let b = g.D.Shelf.told c.drop_chunks.new.depot in
    let n = g.D.Shelf.faults c.args.depot.now in
    let m = g.D.Shelf.faults c.drop_chunks.new.depot in
    let time = c.args.time.now in
    let ids = c.args.ids.now in
    let refusal = c.in_err-drop_chunks.field-0.0 in
    err_is c.from_residual.result refusal
    (λ (r : Result (Unit {0}) StoreRefusal). Did (FreesSound time ids store) (λ _. Frees ids store now) a b n m r)
    c.from_residual.ensures.1 (free_none {T = Unit {0}} {U = Unit {0}} store now now time ids a b n m refusal c.in_err-drop_chunks.ensures.did)

pub commit-requires-clause-fits : goal.commit-requires-clause-fits
commit-requires-clause-fits g c =
    dropped_writing c.args.store.now c.drop_chunks.new.store c.args.ids.now (g.D.Shelf.told c.args.depot.now) (g.D.Shelf.told c.drop_chunks.new.depot)
    (g.D.Shelf.faults c.args.depot.now) (g.D.Shelf.faults c.drop_chunks.new.depot) c.requires.fits c.in_ok-drop_chunks.ensures.did

pub returns-clause-did : goal.returns-clause-did
returns-clause-did g c =
    let store = c.args.store.now in
    let now = c.drop_chunks.new.store in
    let last = c.commit.new.self in
    let a = g.D.Shelf.told c.args.depot.now in
    let b = g.D.Shelf.told c.drop_chunks.new.depot in
    let e = g.D.Shelf.told c.commit.new.depot in
    let n = g.D.Shelf.faults c.args.depot.now in
    let m = g.D.Shelf.faults c.drop_chunks.new.depot in
    let k = g.D.Shelf.faults c.commit.new.depot in
    let time = c.args.time.now in
    let repo = repo_view now.repo in
    let manifest = written_at (accepted_in now) time in
    let salt = c.commit.ensures.committed.0 in
    free_commit store now last time c.args.ids.now (blob_for repo now.counter (manifest_text repo.keys salt manifest)) (with_manifest repo manifest)
    (freed_next store now time c.drop_chunks.ensures.rest) {T = Unit {0}} {U = Unit {0}} (λ s. Commits now (manifest_entry repo now.counter manifest salt) s)
    a b e n m k tt c.commit.result c.in_ok-drop_chunks.ensures.did c.commit.ensures.committed.1.2 c.commit.ensures.without

pub returns-clause-untold : goal.returns-clause-untold
returns-clause-untold g c =
    untold_then (g.D.Shelf.told c.args.depot.now) (g.D.Shelf.told c.drop_chunks.new.depot) (g.D.Shelf.told c.commit.new.depot)
    c.drop_chunks.ensures.untold c.commit.ensures.untold

pub returns-clause-keeps : goal.returns-clause-keeps
returns-clause-keeps g c =
    IfErr-weaker c.commit.result _ _
    (λ refusal keeps still some. leaves_both c.args.store.now c.drop_chunks.new.store c.args.ids.now (g.D.Shelf.told c.args.depot.now)
    (g.D.Shelf.told c.drop_chunks.new.depot) (g.D.Shelf.told c.commit.new.depot) (g.D.Shelf.faults c.args.depot.now)
    (g.D.Shelf.faults c.drop_chunks.new.depot) tt c.in_ok-drop_chunks.ensures.did (keeps still some))
    c.commit.ensures.keeps

pub returns-in_err-drop_chunks-clause-refused : goal.returns-in_err-drop_chunks-clause-refused
returns-in_err-drop_chunks-clause-refused g c =
    let store = c.args.store.now in
    let keys = (repo_view store.repo).keys in
    let manifest = written_at (accepted_in store) c.args.time.now in
    let refusal = c.in_err-drop_chunks.field-0.0 in
    err_is c.from_residual.result refusal (λ (r : Result (Unit {0}) StoreRefusal). IfErr r (RefusesFreeing keys manifest))
    c.from_residual.ensures.1 (free_drops keys manifest refusal c.in_err-drop_chunks.ensures.refused)

pub returns-clause-refused : goal.returns-clause-refused
returns-clause-refused g c =
    let store = c.args.store.now in
    let now = c.drop_chunks.new.store in
    let time = c.args.time.now in
    let made = c.commit.ensures.committed in
    let keys = (repo_view store.repo).keys in
    let text = manifest_text (repo_view now.repo).keys made.0 (written_at (accepted_in now) time) in
    free_refused now keys (written_at (accepted_in store) time) made.0 text c.commit.result made.1.0
    (ap (λ (r : RepoState). manifest_text r.keys made.0 r.manifest) (freed_next store now time c.drop_chunks.ensures.rest)) made.1.3

pub returns-clause-drawn : goal.returns-clause-drawn
returns-clause-drawn g c =
    let made = c.commit.ensures.committed in
    salt_drawn c.commit.result made.0 (g.E.Entropy.drawn c.args.entropy.now) (g.E.Entropy.drawn c.commit.new.entropy) made.1.0 made.1.1
