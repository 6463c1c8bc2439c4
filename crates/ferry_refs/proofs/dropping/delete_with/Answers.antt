use Rattle.std.proofs.Common.{◌≡◌, Result, IfErr, ap}
use Rattle.std.proofs.lemmas.Result.{IfErr-weaker}
use Rattle.ferry_store.proofs.StepLemmas.{err_is}
use Rattle.ferry_store.specs.Commit.{Commits, accepted_in, manifest_entry}
use Rattle.ferry_store.specs.Content.{blob_for}
use Rattle.ferry_manifest.specs.Manifest.Writing.{manifest_text}
use Rattle.ferry_next.specs.Next.{written_at}
use Rattle.ferry_repo.specs.Opening.{RepoState, repo_view}
use Rattle.ferry_refs.specs.DeleteSteps.{DeletesWith, RefusesWith, SoundWith}
use Rattle.ferry_refs.specs.Deleting.{next_without}
use Rattle.ferry_store.specs.Standing.{with_manifest}
use Rattle.ferry_store.specs.State.{Did}
use Rattle.ferry_store.specs.declared.fault.StoreRefusal.{StoreRefusal}
use Rattle.ferry_refs.proofs.CommitLemmas.{commit_refused, did_named, drops_refused, leaves_both, next_is, with_commit, with_none}
use Rattle.ferry_refs.proofs.DropLemmas.{dropped_writing, untold_then}
use Rattle.ferry_refs.proofs.dropping.delete_with.Goals as goal

pub returns-in_err-drop_chunks-clause-did : goal.returns-in_err-drop_chunks-clause-did
returns-in_err-drop_chunks-clause-did g c =
    let store = c.args.store.now in
    let now = c.drop_chunks.new.store in
    let a = g.D.Shelf.told c.args.depot.now in
    let b = g.D.Shelf.told c.drop_chunks.new.depot in
    let n = g.D.Shelf.faults c.args.depot.now in
    let m = g.D.Shelf.faults c.drop_chunks.new.depot in
    let name = c.args.name.now in
    let time = c.args.time.now in
    let ids = c.args.ids.now in
    let refusal = c.in_err-drop_chunks.field-0.0 in
    err_is c.from_residual.result refusal
    (λ (r : Result (Unit {0}) StoreRefusal). Did (SoundWith name time ids store) (λ _. DeletesWith name time ids store now) a b n m r)
    c.from_residual.ensures.1 (with_none {T = Unit {0}} {U = Unit {0}} store now now name time ids a b n m refusal c.in_err-drop_chunks.ensures.did)

pub commit-requires-clause-fits : goal.commit-requires-clause-fits
commit-requires-clause-fits g c =
    let store = c.args.store.now in
    let middle = c.drop_chunks.new.store in
    let now = c.drop_name.new.self in
    let a = g.D.Shelf.told c.args.depot.now in
    let b = g.D.Shelf.told c.drop_chunks.new.depot in
    let n = g.D.Shelf.faults c.args.depot.now in
    let m = g.D.Shelf.faults c.drop_chunks.new.depot in
    dropped_writing store now c.args.ids.now a b n m c.requires.fits
    (did_named store middle now c.args.ids.now a b n m tt c.drop_name.ensures.rest c.in_ok-drop_chunks.ensures.did)

pub returns-clause-did : goal.returns-clause-did
returns-clause-did g c =
    let store = c.args.store.now in
    let middle = c.drop_chunks.new.store in
    let now = c.drop_name.new.self in
    let last = c.commit.new.self in
    let a = g.D.Shelf.told c.args.depot.now in
    let b = g.D.Shelf.told c.drop_chunks.new.depot in
    let e = g.D.Shelf.told c.commit.new.depot in
    let n = g.D.Shelf.faults c.args.depot.now in
    let m = g.D.Shelf.faults c.drop_chunks.new.depot in
    let k = g.D.Shelf.faults c.commit.new.depot in
    let name = c.args.name.now in
    let time = c.args.time.now in
    let ids = c.args.ids.now in
    let repo = repo_view now.repo in
    let manifest = written_at (accepted_in now) time in
    let salt = c.commit.ensures.committed.0 in
    with_commit store now last name time ids (blob_for repo now.counter (manifest_text repo.keys salt manifest)) (with_manifest repo manifest)
    (next_is store middle now name time c.requires.settled c.drop_chunks.ensures.rest c.drop_name.ensures.rest c.drop_name.ensures.dropped)
    {T = Unit {0}} {U = Unit {0}} (λ s. Commits now (manifest_entry repo now.counter manifest salt) s) a b e n m k tt c.commit.result c.commit.ensures.repo
    (did_named store middle now ids a b n m tt c.drop_name.ensures.rest c.in_ok-drop_chunks.ensures.did) c.commit.ensures.committed.1.2
    c.commit.ensures.without

pub returns-clause-untold : goal.returns-clause-untold
returns-clause-untold g c =
    untold_then (g.D.Shelf.told c.args.depot.now) (g.D.Shelf.told c.drop_chunks.new.depot) (g.D.Shelf.told c.commit.new.depot)
    c.drop_chunks.ensures.untold c.commit.ensures.untold

pub returns-clause-keeps : goal.returns-clause-keeps
returns-clause-keeps g c =
    let store = c.args.store.now in
    let middle = c.drop_chunks.new.store in
    let now = c.drop_name.new.self in
    let a = g.D.Shelf.told c.args.depot.now in
    let b = g.D.Shelf.told c.drop_chunks.new.depot in
    let e = g.D.Shelf.told c.commit.new.depot in
    let n = g.D.Shelf.faults c.args.depot.now in
    let m = g.D.Shelf.faults c.drop_chunks.new.depot in
    IfErr-weaker c.commit.result _ _
    (λ refusal keeps still some. leaves_both store now c.args.ids.now a b e n m tt
    (did_named store middle now c.args.ids.now a b n m tt c.drop_name.ensures.rest c.in_ok-drop_chunks.ensures.did) (keeps still some))
    c.commit.ensures.keeps

pub returns-in_err-drop_chunks-clause-refused : goal.returns-in_err-drop_chunks-clause-refused
returns-in_err-drop_chunks-clause-refused g c =
    let repo = repo_view c.args.store.now.repo in
    let b = g.D.Shelf.told c.drop_chunks.new.depot in
    let refusal = c.in_err-drop_chunks.field-0.0 in
    err_is c.from_residual.result refusal (λ (r : Result (Unit {0}) StoreRefusal). IfErr r (RefusesWith repo c.args.name.now c.args.time.now b))
    c.from_residual.ensures.1 (drops_refused repo c.args.name.now c.args.time.now b refusal c.in_err-drop_chunks.ensures.refused)

pub returns-clause-refused : goal.returns-clause-refused
returns-clause-refused g c =
    let store = c.args.store.now in
    let middle = c.drop_chunks.new.store in
    let now = c.drop_name.new.self in
    let a = g.D.Shelf.told c.args.depot.now in
    let b = g.D.Shelf.told c.drop_chunks.new.depot in
    let e = g.D.Shelf.told c.commit.new.depot in
    let n = g.D.Shelf.faults c.args.depot.now in
    let m = g.D.Shelf.faults c.drop_chunks.new.depot in
    let name = c.args.name.now in
    let time = c.args.time.now in
    let made = c.commit.ensures.committed in
    let text = manifest_text (repo_view now.repo).keys made.0 (written_at (accepted_in now) time) in
    let same : text ≡ manifest_text (repo_view store.repo).keys made.0 (next_without (repo_view store.repo).manifest name time) =
    ap (λ (r : RepoState). manifest_text r.keys made.0 r.manifest)
    (next_is store middle now name time c.requires.settled c.drop_chunks.ensures.rest c.drop_name.ensures.rest c.drop_name.ensures.dropped) in
    commit_refused (repo_view store.repo) name time now c.commit.new.self made.0 text made.1.0 same b e c.commit.result
    (dropped_writing store now c.args.ids.now a b n m c.requires.fits
    (did_named store middle now c.args.ids.now a b n m tt c.drop_name.ensures.rest c.in_ok-drop_chunks.ensures.did))
    made.1.2.ends made.1.3 c.commit.ensures.kept
