use Rattle.std.proofs.Common.{◌≡◌, ℕ, List, None, IfSome, option_map, is_some, true, false, refl, sym, ◌∙◌, ap, subst, inl, inr}
use Rattle.ferry_disk.specs.Device.{told_files}
use Rattle.ferry_disk.proofs.DeviceLemmas.{told_then, told_with}
use Rattle.ferry_manifest.specs.declared.manifest.ArchiveRef.{ArchiveRef}
use Rattle.ferry_repo.specs.Archives.{archive_named}
use Rattle.ferry_repo.specs.Opening.{OpensFilesTo, repo_view, cached_in}
use Rattle.ferry_view.specs.Items.{IsFile, IsFileText, RefusesFile}
use Rattle.ferry_view.specs.Output.{IsOfArchive, ShowsAll, ShowsSome}
use Rattle.ferry_view.specs.declared.fault.ViewFault.{ViewFault}
use Rattle.ferry_view.specs.declared.fault.ViewFault.TheVariants as View
use Rattle.ferry_status.specs.Devices.{written}
use Rattle.ferry_top.specs.Items.{LacksPath, RefusesShowing, ShowsAsRead, ShowsWhole}
use Rattle.ferry_status.specs.Output.{PrintsAsRead}
use Rattle.ferry_status.specs.declared.status.Status.{Status}
use Rattle.ferry_top.proofs.ItemsLemmas.{all_shown, fits_later, named_there, not_named, not_shown}
use Rattle.ferry_top.proofs.items.extract.Goals as goal

pub extract-requires : goal.extract-requires
extract-requires g c =
    let told = g.S.Shelf.told in
    record {
      fits = fits_later (told c.args.source.now) (told c.open.new.shelf) c.args.secret.now (repo_view c.in-Ok.repo) (cached_in c.in-Ok.repo)
          c.in-Ok.ensures.same c.in-Ok.ensures.cached c.in-Ok.ensures.repository;
    }

pub returns-in-Ok-extract-clause-out : goal.returns-in-Ok-extract-clause-out
returns-in-Ok-extract-clause-out g c =
    let told = g.S.Shelf.told in
    let pass = c.args.secret.now in
    let name = c.args.name in
    let path = c.args.path in
    let repo = repo_view c.in-Ok.repo in
    let later = told c.open.new.shelf in
    let before = written (g.K.Sink.written c.args.out.now) (g.K.Sink.faults c.args.out.now) in
    let after = written (g.K.Sink.written c.extract.new.out) (g.K.Sink.faults c.extract.new.out) in
    let all = subst (λ (p : List ℕ). ShowsAll (λ f text. IsFile f repo name p text) later before.bytes after.bytes) c.as_slice-3.ensures
    (subst (λ (n : List ℕ). ShowsAll (λ f text. IsFile f repo n c.as_slice-3.result.now text) later before.bytes after.bytes) c.as_slice-2.ensures
    c.in-Ok-extract.ensures.ok) in
    all_shown (λ f r text. IsFile f r name path text) (ShowsAsRead pass (λ f r. IsFileText f r name path))
    (RefusesShowing pass (λ f r. RefusesFile f r name path))
    (LacksPath pass name path) (told c.args.source.now) later pass repo before after
    (record { same = c.in-Ok.ensures.same; opens = c.in-Ok.ensures.repository }) all c.in-Ok-extract.ensures.cause

pub returns-in-Err-extract-clause-out : goal.returns-in-Err-extract-clause-out
returns-in-Err-extract-clause-out g c =
    let told = g.S.Shelf.told in
    let pass = c.args.secret.now in
    let name = c.args.name in
    let path = c.args.path in
    let repo = repo_view c.in-Ok.repo in
    let source = told c.args.source.now in
    let later = told c.open.new.shelf in
    let fault = c.in-Err-extract.fault in
    let before = written (g.K.Sink.written c.args.out.now) (g.K.Sink.faults c.args.out.now) in
    let after = written (g.K.Sink.written c.extract.new.out) (g.K.Sink.faults c.extract.new.out) in
    let some = subst (λ (p : List ℕ). ShowsSome (λ f text. IsFileText f repo name p text) later before.bytes after.bytes) c.as_slice-3.ensures
    (subst (λ (n : List ℕ). ShowsSome (λ f text. IsFileText f repo n c.as_slice-3.result.now text) later before.bytes after.bytes) c.as_slice-2.ensures
    c.in-Err-extract.ensures.err) in
    let all =
    subst (λ (p : List ℕ). IsOfArchive fault → ShowsAll (λ f text. IsFileText f repo name p text) later before.bytes after.bytes) c.as_slice-3.ensures
    (subst (λ (n : List ℕ). IsOfArchive fault → ShowsAll (λ f text. IsFileText f repo n c.as_slice-3.result.now text) later before.bytes after.bytes)
    c.as_slice-2.ensures c.in-Err-extract.ensures.all) in
    let refused : IfSome later (λ t. RefusesFile (told_files t) repo name path fault) =
    subst (λ (p : List ℕ). IfSome later (λ t. RefusesFile (told_files t) repo name p fault)) c.as_slice-3.ensures
    (subst (λ (n : List ℕ). IfSome later (λ t. RefusesFile (told_files t) repo n c.as_slice-3.result.now fault)) c.as_slice-2.ensures
    c.in-Err-extract.ensures.refused) in
    let named_id : c.record_id.result ≡ option_map (λ (a : ArchiveRef). a.id) (archive_named name repo.manifest.archives) =
    c.record_id.ensures.id ∙ ap (λ n. option_map (λ (a : ArchiveRef). a.id) (archive_named n repo.manifest.archives)) c.as_slice.ensures in
    let named : archive_named name repo.manifest.archives ≡ None → ⊥ =
    named_there (archive_named name repo.manifest.archives) c.record_id.result named_id (let yes : is_some c.record_id.result ≡ true = cc in yes) in
    subst (λ (s : Status). PrintsAsRead (ShowsWhole pass (λ f r. IsFile f r name path)) (ShowsAsRead pass (λ f r. IsFileText f r name path))
    (RefusesShowing pass (λ f r. RefusesFile f r name path))
    (LacksPath pass name path) source before s after) (sym c.of_view.ensures)
    (not_shown (ShowsWhole pass (λ f r. IsFile f r name path)) (λ f r text. IsFileText f r name path text) (λ f r. RefusesFile f r name path)
    (LacksPath pass name path) source
    later pass repo before after fault path (record { same = c.in-Ok.ensures.same; opens = c.in-Ok.ensures.repository }) some all refused
    c.in-Err-extract.ensures.cause
    (λ e. told_with source later (λ f. OpensFilesTo f pass repo) (λ f. RefusesFile f repo name path View.NotFound) (λ f. LacksPath pass name path f path)
    c.in-Ok.ensures.same
    (λ f opens r. elim r [
      | inl none ↦ absurd (named none)
      | inr lacks ↦ inr (refl, record { repo = repo; opens = opens; holds = lacks })
    ])
    c.in-Ok.ensures.repository (subst (λ (x : ViewFault). IfSome later (λ t. RefusesFile (told_files t) repo name path x)) e refused)))

pub returns-in-Err-2-clause-out : goal.returns-in-Err-2-clause-out
returns-in-Err-2-clause-out g c =
    let told = g.S.Shelf.told in
    let pass = c.args.secret.now in
    let name = c.args.name in
    let path = c.args.path in
    let repo = repo_view c.in-Ok.repo in
    let source = told c.args.source.now in
    let later = told c.open.new.shelf in
    let fault = c.in-Err-extract.fault in
    let before = written (g.K.Sink.written c.args.out.now) (g.K.Sink.faults c.args.out.now) in
    let after = written (g.K.Sink.written c.extract.new.out) (g.K.Sink.faults c.extract.new.out) in
    let some = subst (λ (p : List ℕ). ShowsSome (λ f text. IsFileText f repo name p text) later before.bytes after.bytes) c.as_slice-3.ensures
    (subst (λ (n : List ℕ). ShowsSome (λ f text. IsFileText f repo n c.as_slice-3.result.now text) later before.bytes after.bytes) c.as_slice-2.ensures
    c.in-Err-extract.ensures.err) in
    let all =
    subst (λ (p : List ℕ). IsOfArchive fault → ShowsAll (λ f text. IsFileText f repo name p text) later before.bytes after.bytes) c.as_slice-3.ensures
    (subst (λ (n : List ℕ). IsOfArchive fault → ShowsAll (λ f text. IsFileText f repo n c.as_slice-3.result.now text) later before.bytes after.bytes)
    c.as_slice-2.ensures c.in-Err-extract.ensures.all) in
    let refused : IfSome later (λ t. RefusesFile (told_files t) repo name path fault) =
    subst (λ (p : List ℕ). IfSome later (λ t. RefusesFile (told_files t) repo name p fault)) c.as_slice-3.ensures
    (subst (λ (n : List ℕ). IfSome later (λ t. RefusesFile (told_files t) repo n c.as_slice-3.result.now fault)) c.as_slice-2.ensures
    c.in-Err-extract.ensures.refused) in
    let named_id : c.record_id.result ≡ option_map (λ (a : ArchiveRef). a.id) (archive_named name repo.manifest.archives) =
    c.record_id.ensures.id ∙ ap (λ n. option_map (λ (a : ArchiveRef). a.id) (archive_named n repo.manifest.archives)) c.as_slice.ensures in
    let none : archive_named name repo.manifest.archives ≡ None =
    not_named (archive_named name repo.manifest.archives) c.record_id.result named_id (let no : is_some c.record_id.result ≡ false = cc in no) in
    subst (λ (s : Status). PrintsAsRead (ShowsWhole pass (λ f r. IsFile f r name path)) (ShowsAsRead pass (λ f r. IsFileText f r name path))
    (RefusesShowing pass (λ f r. RefusesFile f r name path))
    (LacksPath pass name path) source before s after) (sym c.of_view-in-Err-2.ensures)
    (not_shown (ShowsWhole pass (λ f r. IsFile f r name path)) (λ f r text. IsFileText f r name path text) (λ f r. RefusesFile f r name path)
    (LacksPath pass name path) source
    later pass repo before after fault name (record { same = c.in-Ok.ensures.same; opens = c.in-Ok.ensures.repository }) some all refused
    c.in-Err-extract.ensures.cause
    (λ e. told_then source (λ f. OpensFilesTo f pass repo) (λ f. LacksPath pass name path f name)
    (λ f opens. inl (refl, record { repo = repo; opens = opens; holds = none })) c.in-Ok.ensures.repository))
