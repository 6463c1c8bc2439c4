use Rattle.std.proofs.Common.{◌≡◌, ◌≤◌, [], length, Result, refl, sym, ◌∙◌, ap, subst, arith, rules}
use Rattle.ferry_piece.proofs.FaultLemmas.{target_stops}
use Rattle.ferry_carry.proofs.GrowNamedLemmas.{commit_fits}
use Rattle.ferry_carry.proofs.NamingManifestLemmas.{commit_limit, commit_most, no_larger}
use Rattle.ferry_carry.proofs.NamingManifestLemmas.{commit_works, commit_works_err}
use Rattle.ferry_piece.proofs.WorkLemmas.{err_is}
use Rattle.ferry_carry.proofs.naming.commit.Goals as goal
use Rattle.ferry_piece.specs.Fault.{target_fault}
use Rattle.ferry_carry.specs.Flight.{NamesArchive}
use Rattle.ferry_piece.specs.declared.fault.CarryFault.{CarryFault}
use Rattle.ferry_base.specs.Limits.{content_limit}
use Rattle.ferry_manifest.specs.Manifest.Text.{ManifestText}
use Rattle.ferry_manifest.specs.Manifest.Writing.{manifest_text}
use Rattle.ferry_next.specs.Next.{written_at}
use Rattle.ferry_repo.specs.Opening.{RepoState, repo_view}
use Rattle.ferry_store.proofs.WritingLemmas.{told_writing}
use Rattle.ferry_store.specs.Commit.{CommitsEntry, accepted_in, manifest_entry}
use Rattle.ferry_store.specs.Content.{blob_for}
use Rattle.ferry_store.specs.Standing.{with_manifest}
use Rattle.ferry_carry.proofs.StandLemmas.{commit_stands}
use Rattle.ferry_piece.proofs.AddingLemmas.{held_unspent}
use Rattle.ferry_piece.proofs.FewLemmas.{begun_err, begun_ok}
use Rattle.ferry_carry.specs.Calls.{LeavesUnnamed}
use Rattle.ferry_carry.specs.States.{target_state}

pub commit-requires-clause-fits : goal.commit-requires-clause-fits
commit-requires-clause-fits g c = told_writing c.args.store.now (g.D.Shelf.told c.args.depot.now) c.requires.target.fits

pub returns-in_err-commit-clause-works : goal.returns-in_err-commit-clause-works
returns-in_err-commit-clause-works g c accepted named one =
    let a = g.D.Shelf.told c.args.depot.now in
    let b = g.D.Shelf.told c.commit.new.depot in
    let n = g.D.Shelf.faults c.args.depot.now in
    let m = g.D.Shelf.faults c.commit.new.depot in
    let store = c.args.store.now in
    let now = c.commit.new.self in
    let made = c.in_err-commit.ensures.committed in
    let writes = c.commit.ensures.writes in
    let text = written_at (accepted_in store) c.args.timestamp.now in
    let blob = blob_for (repo_view store.repo) store.counter (manifest_text (repo_view store.repo).keys made.0 text) in
    let refusal = c.in_err-commit.field-0.0 in
    err_is c.from_residual.result (target_fault refusal) (λ (r : Result (Unit {0}) CarryFault). NamesArchive accepted named text (target_state a n store)
    (target_state b m now) r)
    c.from_residual.ensures.1 (commit_works_err accepted named store now text blob a b n m refusal c.requires.target.accepts refl one
    c.commit.ensures.untold made.1.2 writes.0 writes.1)

pub returns-clause-works : goal.returns-clause-works
returns-clause-works g c accepted named one =
    let a = g.D.Shelf.told c.args.depot.now in
    let b = g.D.Shelf.told c.commit.new.depot in
    let n = g.D.Shelf.faults c.args.depot.now in
    let m = g.D.Shelf.faults c.commit.new.depot in
    let store = c.args.store.now in
    let now = c.commit.new.self in
    let made = c.in_ok-commit.ensures.committed in
    let writes = c.commit.ensures.writes in
    let text = written_at (accepted_in store) c.args.timestamp.now in
    let blob = blob_for (repo_view store.repo) store.counter (manifest_text (repo_view store.repo).keys made.0 text) in
    let repo : repo_view now.repo ≡ with_manifest (repo_view store.repo) text = c.in_ok-commit.ensures.repo in
    let manifest : (repo_view now.repo).manifest ≡ text = ap (λ (r : RepoState). r.manifest) repo in
    commit_works accepted named store now text blob a b n m c.requires.target.accepts (commit_most store now text repo c.requires.target.accepts) refl
    manifest
    (c.in_ok-commit.ensures.accepted ∙ sym manifest) one c.commit.ensures.untold made.1.2 writes.0 writes.1

pub returns-clause-salt : goal.returns-clause-salt
returns-clause-salt g c =
    let made = c.in_ok-commit.ensures.committed in
    let store = c.args.store.now in
    let keys = (repo_view store.repo).keys in
    let small = no_larger (length (manifest_text keys made.0 (written_at (accepted_in store) c.args.timestamp.now))) made.1.4.large.always in (
      made.0,
      (
        (made.1.0, made.1.1),
        subst (λ (m : ManifestText). length (manifest_text keys made.0 m) ≤ content_limit) (sym c.in_ok-commit.ensures.accepted) small,
      ),
    )

pub returns-in_err-commit-clause-refused : goal.returns-in_err-commit-clause-refused
returns-in_err-commit-clause-refused g c =
    let a = g.D.Shelf.told c.args.depot.now in
    let b = g.D.Shelf.told c.commit.new.depot in
    let store = c.args.store.now in
    let now = c.commit.new.self in
    let keys = (repo_view store.repo).keys in
    let made = c.in_err-commit.ensures.committed in
    let writes = c.commit.ensures.writes in
    let text = written_at (accepted_in store) c.args.timestamp.now in
    let refusal = c.in_err-commit.field-0.0 in
    err_is c.from_residual.result (target_fault refusal) (λ (r : Result (Unit {0}) CarryFault). LeavesUnnamed text store a b now r) c.from_residual.ensures.1
    (record {
      stands = commit_stands store a b refusal c.commit.ensures.untold c.in_err-commit.ensures.keeps writes.0 writes.1;
      held = λ at most. held_unspent (Unit {0}) at most store now [] a b refusal c.in_err-commit.ensures.kept;
      stops = target_stops b keys refusal c.in_err-commit.ensures.stops;
      limit = commit_limit store keys text made.0 refusal made.1.0 made.1.3;
      few = begun_err {T = Unit {0}} {U = Unit {0}} 2 2 store now refusal (omega arith) c.in_err-commit.ensures.few;
    })

pub returns-clause-target : goal.returns-clause-target
returns-clause-target g c = record {
  all = record {
    most = search rules;
    accepted = search rules;
    pending = search rules;
    packable = search rules;
    fits =
        let store = c.args.store.now in
        let now = c.commit.new.self in
        let made = c.in_ok-commit.ensures.committed in
        let text = written_at (accepted_in store) c.args.timestamp.now in
        let entry = manifest_entry (repo_view store.repo) store.counter text made.0 in
        let blob = blob_for (repo_view store.repo) store.counter (manifest_text (repo_view store.repo).keys made.0 text) in
        commit_fits (CommitsEntry (with_manifest (repo_view store.repo) text) store.session store.counter entry) store now blob
        (g.D.Shelf.told c.args.depot.now) (g.D.Shelf.told c.commit.new.depot) (g.D.Shelf.faults c.args.depot.now) (g.D.Shelf.faults c.commit.new.depot)
        c.requires.target.fits made.1.2;
    unspent = search rules;
  };
  named = search rules;
}

pub returns-clause-refused : goal.returns-clause-refused
returns-clause-refused g c = record {
  stands = search rules;
  held = search rules;
  stops = search rules;
  limit = search rules;
  few =
      begun_ok {T = Unit {0}} {U = Unit {0}} 2 2 c.args.store.now c.commit.new.self tt tt (omega arith) c.in_ok-commit.ensures.few;
}
