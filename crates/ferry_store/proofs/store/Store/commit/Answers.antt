use Rattle.std.proofs.Common.{◌≡◌, sym, ap, ◌∙◌, subst, IfSome, ℕ, List, Option, Ok, Err, refl}
use Rattle.ferry_disk.proofs.MomentLemmas.{between_map}
use Rattle.ferry_disk.specs.Device.{told_files}
use Rattle.ferry_manifest.specs.Manifest.Text.{ManifestText, manifest_view}
use Rattle.ferry_manifest.specs.Manifest.Writing.{manifest_text}
use Rattle.ferry_next.specs.Next.{written_at}
use Rattle.ferry_repo.specs.Opening.{cached_in, repo_view}
use Rattle.ferry_repo.specs.declared.repo.Repo.{Repo}
use Rattle.ferry_store.proofs.CauseLemmas.{writing_stops}
use Rattle.ferry_store.proofs.DropLemmas.{committed_without}
use Rattle.ferry_store.proofs.LimitLemmas.{manifest_ok_as}
use Rattle.ferry_store.proofs.RenewLemmas.{store_committed, with_commit}
use Rattle.ferry_store.proofs.StepLemmas.{did_as}
use Rattle.ferry_store.proofs.store.Store.commit.Goals as goal
use Rattle.ferry_store.specs.Causes.{StopsAt}
use Rattle.ferry_store.specs.Commit.{Commits, CommitsEntry, HasCommitted, accepted_in, manifest_entry}
use Rattle.ferry_store.specs.Content.{blob_for}
use Rattle.ferry_store.specs.Dropping.{CommitsWithout}
use Rattle.ferry_store.specs.Standing.{with_manifest}
use Rattle.ferry_store.specs.declared.fault.StoreRefusal.{StoreRefusal}
use Rattle.ferry_store.specs.declared.store.Store.{Store}
use Rattle.ferry_write.specs.Script.{AllDone}
use Rattle.ferry_store.proofs.FewLemmas.{IsUsedUp, few_answered, few_refused}
use Rattle.ferry_store.specs.Limits.{BeginsFew}
use Rattle.ferry_manifest.specs.declared.manifest.Manifest.{Manifest}

pub returns-in-Ok-clause-committed : goal.returns-in-Ok-clause-committed
returns-in-Ok-clause-committed g c =
    let a = g.D.Shelf.told c.args.depot.now in
    let b = g.D.Shelf.told c.commit_accepted.new.depot in
    let n = g.D.Shelf.faults c.args.depot.now in
    let m = g.D.Shelf.faults c.commit_accepted.new.depot in
    let store = c.args.self.now in
    let middle = c.commit_accepted.new.self in
    let now = c.take_manifest.new.self in
    let made = c.in-Ok.ensures.committed in
    let salt = made.0 in
    let text = written_at (accepted_in store) c.args.timestamp.now in
    let blob = blob_for (repo_view store.repo) store.counter (manifest_text (repo_view store.repo).keys salt text) in
    let entry = manifest_entry (repo_view store.repo) store.counter text salt in
    let next = with_manifest (repo_view store.repo) text in
    let E = CommitsEntry next store.session store.counter entry in
    let rest = c.in-Ok.ensures.rest in
    let same : middle.repo ≡ store.repo = ap (λ (s : Store). s.repo) rest in
    let view : repo_view now.repo ≡ next =
    c.take_manifest.ensures.repo
    ∙ (ap (λ (r : Repo). record (repo_view r) { manifest = manifest_view c.in-Ok.manifest }) same
    ∙ ap (λ (t : ManifestText). record (repo_view store.repo) { manifest = t }) c.in-Ok.ensures.manifest) in
    let cached : cached_in now.repo ≡ cached_in store.repo = c.take_manifest.ensures.cached ∙ ap cached_in same in
    let is : now ≡ with_commit store now.repo middle.session middle.counter now.accepted =
    c.take_manifest.ensures.taken ∙ ap (λ (s : Store). record s { repo = now.repo; accepted = now.accepted; pending = 0 }) rest in (
      salt,
      (
        made.1.0,
        made.1.1,
        did_as E (λ _. HasCommitted next store.session store.counter entry middle.session middle.counter) E (λ _. Commits store entry now) a b n m
            _ tt (λ h k e. e)
            (λ h k done.
            subst (λ (s : Store). Commits store entry s h k) (sym is)
            (store_committed store now.repo middle.session middle.counter now.accepted blob text h k view cached done))
            made.1.2,
        tt,
        manifest_ok_as store.session store.counter _ _ tt made.1.4,
      ),
    )

pub returns-in-Ok-clause-without : goal.returns-in-Ok-clause-without
returns-in-Ok-clause-without g c =
    let a = g.D.Shelf.told c.args.depot.now in
    let b = g.D.Shelf.told c.commit_accepted.new.depot in
    let store = c.args.self.now in
    let middle = c.commit_accepted.new.self in
    let now = c.take_manifest.new.self in
    let made = c.in-Ok.ensures.committed in
    let text = written_at (accepted_in store) c.args.timestamp.now in
    let blob = blob_for (repo_view store.repo) store.counter (manifest_text (repo_view store.repo).keys made.0 text) in
    let entry = manifest_entry (repo_view store.repo) store.counter text made.0 in
    let next = with_manifest (repo_view store.repo) text in
    let rest = c.in-Ok.ensures.rest in
    let same : middle.repo ≡ store.repo = ap (λ (s : Store). s.repo) rest in
    let view : repo_view now.repo ≡ next =
    c.take_manifest.ensures.repo
    ∙ (ap (λ (r : Repo). record (repo_view r) { manifest = manifest_view c.in-Ok.manifest }) same
    ∙ ap (λ (t : ManifestText). record (repo_view store.repo) { manifest = t }) c.in-Ok.ensures.manifest) in
    let cached : cached_in now.repo ≡ cached_in store.repo = c.take_manifest.ensures.cached ∙ ap cached_in same in
    let is : now ≡ with_commit store now.repo middle.session middle.counter now.accepted =
    c.take_manifest.ensures.taken ∙ ap (λ (s : Store). record s { repo = now.repo; accepted = now.accepted; pending = 0 }) rest in
    between_map a b (λ h k. AllDone h k × HasCommitted next store.session store.counter entry middle.session middle.counter h k) (CommitsWithout store now)
    (λ h k done.
    subst (λ (s : Store). CommitsWithout store s h k) (sym is)
    (committed_without store now.repo middle.session middle.counter now.accepted blob text h k view cached done.1))
    made.1.2.end

pub returns-in-Err-clause-stops : goal.returns-in-Err-clause-stops
returns-in-Err-clause-stops g c =
    let a = g.D.Shelf.told c.args.depot.now in
    let b = g.D.Shelf.told c.commit_accepted.new.depot in
    let store = c.args.self.now in
    let made = c.in-Err.ensures.committed in
    subst (λ (f : StoreRefusal). IfSome b (λ t. StopsAt t.history.start (told_files t) (repo_view store.repo).keys f)) (sym c.spend.ensures.same)
    (writing_stops store c.in-Err.refusal a b c.requires.fits made.1.2.ends c.in-Err.ensures.stops)

pub returns-in-Ok-clause-few : goal.returns-in-Ok-clause-few
returns-in-Ok-clause-few g c =
    let last = c.args.self.now.session.last in
    let middle = c.commit_accepted.new.self.session.last in
    subst (λ (l : Option ℕ). BeginsFew 2 last l (IsUsedUp {T = Unit {0}} (Ok tt))) (sym (ap (λ (s : Store). s.session.last) c.take_manifest.ensures.taken))
    (few_answered {T = Manifest × List ℕ} {U = Unit {0}} 2 last middle _ tt c.in-Ok.ensures.few)

pub returns-in-Err-clause-few : goal.returns-in-Err-clause-few
returns-in-Err-clause-few g c =
    few_refused {T = Manifest × List ℕ} {U = Unit {0}} 2 c.args.self.now.session.last c.commit_accepted.new.self.session.last
    c.spend.new.self.session.last (Err c.in-Err.refusal) c.in-Err.refusal c.spend.result refl c.spend.ensures.same
    (ap (λ (s : Store). s.session.last) c.spend.ensures.spent) c.in-Err.ensures.few
