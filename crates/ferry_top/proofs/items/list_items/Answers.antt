use Rattle.std.proofs.Common.{◌≡◌, ℕ, List, None, IfSome, refl, sym, subst}
use Rattle.ferry_disk.specs.Device.{told_files}
use Rattle.ferry_disk.proofs.DeviceLemmas.{told_then}
use Rattle.ferry_repo.specs.Archives.{archive_named}
use Rattle.ferry_repo.specs.Opening.{repo_view, cached_in}
use Rattle.ferry_view.specs.Items.{IsItemListing, IsItemText, RefusesItems}
use Rattle.ferry_view.specs.Output.{IsOfArchive, ShowsAll, ShowsSome}
use Rattle.ferry_view.specs.declared.fault.ViewFault.{ViewFault}
use Rattle.ferry_status.specs.Devices.{written}
use Rattle.ferry_top.specs.Items.{LacksArchive, RefusesShowing, ShowsAsRead, ShowsWhole}
use Rattle.ferry_status.specs.Output.{PrintsAsRead}
use Rattle.ferry_status.specs.declared.status.Status.{Status}
use Rattle.ferry_status.specs.Opened.{OpensWith}
use Rattle.ferry_top.proofs.ItemsLemmas.{all_shown, fits_later, not_shown, opens_with}
use Rattle.ferry_top.proofs.items.list_items.Goals as goal

pub list_items-requires : goal.list_items-requires
list_items-requires g c =
    let told = g.S.Shelf.told in
    record {
      fits = fits_later (told c.args.source.now) (told c.open.new.shelf) c.args.secret.now (repo_view c.in-Ok.repo) (cached_in c.in-Ok.repo)
          c.in-Ok.ensures.same c.in-Ok.ensures.cached c.in-Ok.ensures.repository;
    }

pub returns-in-Ok-list_items-clause-out : goal.returns-in-Ok-list_items-clause-out
returns-in-Ok-list_items-clause-out g c =
    let told = g.S.Shelf.told in
    let pass = c.args.secret.now in
    let name = c.args.name in
    let repo = repo_view c.in-Ok.repo in
    let later = told c.open.new.shelf in
    let before = written (g.K.Sink.written c.args.out.now) (g.K.Sink.faults c.args.out.now) in
    let after = written (g.K.Sink.written c.list_items.new.out) (g.K.Sink.faults c.list_items.new.out) in
    let all = subst (λ (n : List ℕ). ShowsAll (λ f text. IsItemListing f repo n text) later before.bytes after.bytes) c.as_slice.ensures
    c.in-Ok-list_items.ensures.ok in
    all_shown (λ f r text. IsItemListing f r name text) (ShowsAsRead pass (λ f r. IsItemText f r name)) (RefusesShowing pass (λ f r. RefusesItems f r name))
    (LacksArchive pass name) (told c.args.source.now) later pass repo before after
    (record { same = c.in-Ok.ensures.same; opens = c.in-Ok.ensures.repository }) all c.in-Ok-list_items.ensures.cause

pub returns-in-Err-list_items-clause-out : goal.returns-in-Err-list_items-clause-out
returns-in-Err-list_items-clause-out g c =
    let told = g.S.Shelf.told in
    let pass = c.args.secret.now in
    let name = c.args.name in
    let repo = repo_view c.in-Ok.repo in
    let source = told c.args.source.now in
    let later = told c.open.new.shelf in
    let fault = c.in-Err-list_items.fault in
    let before = written (g.K.Sink.written c.args.out.now) (g.K.Sink.faults c.args.out.now) in
    let after = written (g.K.Sink.written c.list_items.new.out) (g.K.Sink.faults c.list_items.new.out) in
    let some = subst (λ (n : List ℕ). ShowsSome (λ f text. IsItemText f repo n text) later before.bytes after.bytes) c.as_slice.ensures
    c.in-Err-list_items.ensures.err in
    let all = subst (λ (n : List ℕ). IsOfArchive fault → ShowsAll (λ f text. IsItemText f repo n text) later before.bytes after.bytes) c.as_slice.ensures
    c.in-Err-list_items.ensures.all in
    let refused : IfSome later (λ t. RefusesItems (told_files t) repo name fault) =
    subst (λ (n : List ℕ). IfSome later (λ t. RefusesItems (told_files t) repo n fault)) c.as_slice.ensures c.in-Err-list_items.ensures.refused in
    subst (λ (s : Status). PrintsAsRead (ShowsWhole pass (λ f r. IsItemListing f r name)) (ShowsAsRead pass (λ f r. IsItemText f r name))
    (RefusesShowing pass (λ f r. RefusesItems f r name))
    (LacksArchive pass name) source before s after) (sym c.of_view.ensures)
    (not_shown (ShowsWhole pass (λ f r. IsItemListing f r name)) (λ f r text. IsItemText f r name text) (λ f r. RefusesItems f r name) (LacksArchive pass name)
    source later pass repo
    before after fault name (record { same = c.in-Ok.ensures.same; opens = c.in-Ok.ensures.repository }) some all refused c.in-Err-list_items.ensures.cause
    (λ e. told_then source (OpensWith pass (λ f r. archive_named name r.manifest.archives ≡ None)) (λ f. LacksArchive pass name f name)
    (λ f h. (refl, h))
    (opens_with source later pass repo (λ f r. archive_named name r.manifest.archives ≡ None) c.in-Ok.ensures.same c.in-Ok.ensures.repository
    (subst (λ (x : ViewFault). IfSome later (λ t. RefusesItems (told_files t) repo name x)) e refused))))
