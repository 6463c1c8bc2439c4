use Rattle.std.proofs.Common.{rules, ◌≡◌, ℕ, List, Result, refl, subst}
use Rattle.ferry_carry.proofs.NamingManifestLemmas.{names_nothing}
use Rattle.ferry_piece.proofs.WorkLemmas.{err_is}
use Rattle.ferry_carry.proofs.flight.Flight.name_record.Goals as goal
use Rattle.ferry_carry.specs.Accepting.{named_next}
use Rattle.ferry_carry.specs.Flight.{NamesArchive}
use Rattle.ferry_repo.specs.Opening.{repo_view}
use Rattle.ferry_carry.specs.Naming.{entry_for}
use Rattle.ferry_carry.specs.Time.{time_for}
use Rattle.ferry_manifest.specs.declared.manifest.ArchiveRef.{ArchiveRef}
use Rattle.ferry_next.specs.Next.{next_manifest, written_at}
use Rattle.ferry_piece.specs.Adding.{BeginsSegments}
use Rattle.ferry_piece.specs.declared.fault.CarryFault.{CarryFault}
use Rattle.ferry_piece.specs.declared.fault.CarryFault.TheVariants.{Memory}
use Rattle.ferry_store.specs.Commit.{accepted_in}
use Rattle.ferry_piece.proofs.FewLemmas.{begun_nothing, memory_unused}
use Rattle.ferry_carry.specs.States.{target_state}

pub returns-in_err-entry-clause-works : goal.returns-in_err-entry-clause-works
returns-in_err-entry-clause-works g c =
    let store = c.args.store.now in
    let a = g.D.Shelf.told c.args.depot.now in
    let n = g.D.Shelf.faults c.args.depot.now in
    let entry = entry_for c.args.self.now.named c.args.id in
    let next = named_next c.args.self.now.options.timestamp (repo_view c.args.source.now) store c.args.self.now.named c.args.id in
    err_is c.from_residual.result Memory (λ (r : Result (Unit {0}) CarryFault). NamesArchive (accepted_in store) entry next (target_state a n store)
    (target_state a n store) r)
    c.from_residual.ensures.1 (names_nothing entry next store store a n Memory c.requires.target.accepts refl)

pub returns-in_err-time-clause-works : goal.returns-in_err-time-clause-works
returns-in_err-time-clause-works g c =
    let store = c.args.store.now in
    let a = g.D.Shelf.told c.args.depot.now in
    let n = g.D.Shelf.faults c.args.depot.now in
    let entry = entry_for c.args.self.now.named c.args.id in
    let next = named_next c.args.self.now.options.timestamp (repo_view c.args.source.now) store c.args.self.now.named c.args.id in
    err_is c.from_residual-in_err-time.result Memory (λ (r : Result (Unit {0}) CarryFault). NamesArchive (accepted_in store) entry next (target_state a n
    store) (target_state a n store) r)
    c.from_residual-in_err-time.ensures.1 (names_nothing entry next store store a n Memory c.requires.target.accepts refl)

pub returns-clause-works : goal.returns-clause-works
returns-clause-works g c =
    let store = c.args.store.now in
    let source = repo_view c.args.source.now in
    let named = c.args.self.now.named in
    let a = g.D.Shelf.told c.args.depot.now in
    let b = g.D.Shelf.told c.commit_named.new.depot in
    let n = g.D.Shelf.faults c.args.depot.now in
    let m = g.D.Shelf.faults c.commit_named.new.depot in
    let accepted = accepted_in store in
    let entry : c.in_ok-entry.entry ≡ entry_for named c.args.id = c.in_ok-entry.ensures.entry in
    let time : c.deref.result.now ≡ time_for c.args.self.now.options.timestamp source.manifest.timestamp (repo_view store.repo).manifest.timestamp =
    search rules in
    subst (λ (t : List ℕ). NamesArchive accepted (entry_for named c.args.id) (written_at (next_manifest accepted (entry_for named c.args.id)
    source.manifest.item_keys) t) (target_state a n store) (target_state b m c.commit_named.new.store) c.commit_named.result) time
    (subst (λ (e : ArchiveRef). NamesArchive accepted e (written_at (next_manifest accepted e source.manifest.item_keys) c.deref.result.now) (target_state
    a n store) (target_state b m c.commit_named.new.store) c.commit_named.result) entry c.commit_named.ensures.works)

pub returns-in_err-entry-clause-refused : goal.returns-in_err-entry-clause-refused
returns-in_err-entry-clause-refused g c = record {
  stands = search rules;
  held = search rules;
  stops = search rules;
  limit = search rules;
  few =
      let store = c.args.store.now in
      err_is c.from_residual.result Memory (λ (r : Result (Unit {0}) CarryFault). BeginsSegments 2 store store r) c.from_residual.ensures.1
      (begun_nothing {T = Unit {0}} 2 store Memory memory_unused);
}

pub returns-in_err-time-clause-refused : goal.returns-in_err-time-clause-refused
returns-in_err-time-clause-refused g c = record {
  stands = search rules;
  held = search rules;
  stops = search rules;
  limit = search rules;
  few =
      let store = c.args.store.now in
      err_is c.from_residual-in_err-time.result Memory (λ (r : Result (Unit {0}) CarryFault). BeginsSegments 2 store store r)
      c.from_residual-in_err-time.ensures.1 (begun_nothing {T = Unit {0}} 2 store Memory memory_unused);
}
