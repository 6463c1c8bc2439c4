use Rattle.std.proofs.Common.{rules, ◌≡◌, ◌≤◌, ℕ, List, [], length, Result, IfErr, OnOk, sym, refl, ap, subst, Err}
use Rattle.ferry_carry.specs.Refusals.{LimitsManifest}
use Rattle.ferry_mac.specs.declared.keys.Keys.{Keys}
use Rattle.ferry_next.specs.Next.{next_manifest, written_at}
use Rattle.ferry_carry.proofs.GrowNamedLemmas.{accepts_one, names_next}
use Rattle.ferry_carry.proofs.HeldLemmas.{held_accepted}
use Rattle.ferry_carry.proofs.NamingManifestLemmas.{named_behind, names_nothing}
use Rattle.ferry_piece.proofs.WorkLemmas.{err_is}
use Rattle.ferry_carry.proofs.naming.commit_named.Goals as goal
use Rattle.ferry_carry.specs.Flight.{NamesArchive}
use Rattle.ferry_base.specs.Limits.{content_limit}
use Rattle.ferry_carry.specs.Grow.{KeepsNames}
use Rattle.ferry_carry.specs.Naming.{Draws}
use Rattle.ferry_manifest.specs.Manifest.Writing.{manifest_text}
use Rattle.ferry_piece.specs.Adding.{HoldsRefused, BeginsSegments}
use Rattle.ferry_piece.specs.Puts.{AtEnd}
use Rattle.ferry_piece.specs.declared.fault.CarryFault.{CarryFault}
use Rattle.ferry_piece.specs.declared.fault.CarryFault.TheVariants.{Memory}
use Rattle.ferry_manifest.specs.Manifest.Text.{ManifestText}
use Rattle.ferry_repo.specs.Opening.{repo_view}
use Rattle.ferry_store.proofs.UseLemmas.{fits_named}
use Rattle.ferry_store.specs.Commit.{accepted_in}
use Rattle.ferry_store.specs.declared.store.Store.{Store}
use Rattle.ferry_carry.proofs.StandLemmas.{StandsAll, accepted_stands, memory_apart}
use Rattle.std.proofs.lemmas.Result.{IfErr-weaker}
use Rattle.ferry_piece.proofs.FewLemmas.{begun_from, begun_kept, begun_nothing, memory_unused}
use Rattle.ferry_carry.specs.States.{target_state}

pub returns-in_err-name_archive-clause-works : goal.returns-in_err-name_archive-clause-works
returns-in_err-name_archive-clause-works g c =
    let a = g.D.Shelf.told c.args.depot.now in
    let n = g.D.Shelf.faults c.args.depot.now in
    let store = c.args.store.now in
    let now = c.name_archive.new.self in
    let is : c.in_err-name_archive.field-0.0 ≡ _ = c.in_err-name_archive.ensures.refused in
    let next = written_at (next_manifest (accepted_in store) c.args.entry (repo_view c.args.source.now).manifest.item_keys) c.args.timestamp.now in
    err_is c.from_residual.result Memory (λ (r : Result (Unit {0}) CarryFault). NamesArchive (accepted_in store) c.args.entry next (target_state a n store)
    (target_state a n now) r)
    (search rules) (names_nothing c.args.entry next store now a n Memory c.requires.target.accepts refl)

pub returns-clause-works : goal.returns-clause-works
returns-clause-works g c =
    let store = c.args.store.now in
    let middle = c.name_archive.new.self in
    let same : (repo_view middle.repo).manifest ≡ (repo_view store.repo).manifest =
    ap (λ (s : Store). (repo_view s.repo).manifest) c.in_ok-name_archive.ensures.rest in
    let now = c.commit.new.store in
    let time = c.args.timestamp.now in
    let next = next_manifest (accepted_in store) c.args.entry (repo_view c.args.source.now).manifest.item_keys in
    let named : accepted_in middle ≡ next = search rules in
    named_behind (accepted_in store) c.args.entry (written_at next time) store middle now (g.D.Shelf.told c.args.depot.now)
    (g.D.Shelf.told c.commit.new.depot) (g.D.Shelf.faults c.args.depot.now) (g.D.Shelf.faults c.commit.new.depot) c.commit.result
    c.in_ok-name_archive.ensures.rest
    (subst (λ (m : ManifestText). NamesArchive (accepted_in store) c.args.entry (written_at m time) (target_state (g.D.Shelf.told c.args.depot.now)
    (g.D.Shelf.faults c.args.depot.now) middle) (target_state (g.D.Shelf.told c.commit.new.depot) (g.D.Shelf.faults c.commit.new.depot) now)
    c.commit.result) named
    (c.commit.ensures.works (accepted_in store) c.args.entry
    (accepts_one store middle c.args.entry _ same c.in_ok-name_archive.ensures.named c.requires.target.accepts)))

pub returns-clause-salt : goal.returns-clause-salt
returns-clause-salt g c =
    let keys : (repo_view c.name_archive.new.self.repo).keys ≡ (repo_view c.args.store.now.repo).keys =
    ap (λ (s : Store). (repo_view s.repo).keys) c.in_ok-name_archive.ensures.rest in
    subst (λ (k : Keys). OnOk c.commit.result ((salt : List ℕ) × (Draws salt (g.E.Entropy.drawn c.args.entropy.now) (g.E.Entropy.drawn c.commit.new.entropy)
    × (length (manifest_text k salt (accepted_in c.commit.new.store)) ≤ content_limit)))) keys c.commit.ensures.salt

pub returns-clause-refused : goal.returns-clause-refused
returns-clause-refused g c = record {
  stands =
      let a = g.D.Shelf.told c.args.depot.now in
      let b = g.D.Shelf.told c.commit.new.depot in
      let store = c.args.store.now in
      let middle = c.name_archive.new.self in
      IfErr-weaker c.commit.result (StandsAll middle a b) (StandsAll store a b)
      (λ fault stands work most. accepted_stands AtEnd most store middle [] a b c.in_ok-name_archive.ensures.rest (stands work most))
      c.commit.ensures.refused.stands;
  held = λ at most.
      held_accepted {T = Unit {0}} at most c.args.store.now c.name_archive.new.self c.commit.new.store [] (g.D.Shelf.told c.args.depot.now)
      (g.D.Shelf.told c.commit.new.depot) c.commit.result c.in_ok-name_archive.ensures.rest (c.commit.ensures.refused.held at most);
  stops = search rules;
  limit =
      let store = c.args.store.now in
      let middle = c.name_archive.new.self in
      let time = c.args.timestamp.now in
      let keys : (repo_view middle.repo).keys ≡ (repo_view store.repo).keys =
      ap (λ (s : Store). (repo_view s.repo).keys) c.in_ok-name_archive.ensures.rest in
      let named : accepted_in middle ≡ next_manifest (accepted_in store) c.args.entry (repo_view c.args.source.now).manifest.item_keys = search rules in
      subst (λ (k : Keys). IfErr c.commit.result (LimitsManifest k (written_at (next_manifest (accepted_in store) c.args.entry
      (repo_view c.args.source.now).manifest.item_keys) time))) keys
      (subst (λ (m : ManifestText). IfErr c.commit.result (LimitsManifest (repo_view middle.repo).keys (written_at m time)))
      named c.commit.ensures.refused.limit);
  few =
      begun_from {T = Unit {0}} c.args.store.now c.name_archive.new.self c.commit.new.store 2 c.commit.result
      (ap (λ (s : Store). s.session) c.in_ok-name_archive.ensures.rest) c.commit.ensures.refused.few;
}

pub returns-in_err-name_archive-clause-refused : goal.returns-in_err-name_archive-clause-refused
returns-in_err-name_archive-clause-refused g c = record {
  stands =
      let a = g.D.Shelf.told c.args.depot.now in
      let is : c.in_err-name_archive.field-0.0 ≡ _ = c.in_err-name_archive.ensures.refused in
      err_is c.from_residual.result Memory (λ (r : Result (Unit {0}) CarryFault). IfErr r (StandsAll c.args.store.now a a)) (search rules)
      (λ work. memory_apart work);
  held = λ at most.
      let a = g.D.Shelf.told c.args.depot.now in
      let store = c.args.store.now in
      let now = c.name_archive.new.self in
      let is : c.in_err-name_archive.field-0.0 ≡ _ = c.in_err-name_archive.ensures.refused in
      err_is c.from_residual.result Memory (λ (r : Result (Unit {0}) CarryFault). HoldsRefused at most store [] now a a r) (search rules)
      (λ spares. absurd spares);
  stops = search rules;
  limit = search rules;
  few =
      let store = c.args.store.now in
      let now = c.name_archive.new.self in
      let is : c.in_err-name_archive.field-0.0 ≡ _ = c.in_err-name_archive.ensures.refused in
      err_is c.from_residual.result Memory (λ (r : Result (Unit {0}) CarryFault). BeginsSegments 2 store now r) (search rules)
      (begun_kept {T = Unit {0}} store store now 2 (Err Memory) (ap (λ (s : Store). s.session) c.name_archive.ensures.rest)
      (begun_nothing {T = Unit {0}} 2 store Memory memory_unused));
}

pub commit-requires : goal.commit-requires
commit-requires g c = record {
  target = record {
    unspent = search rules;
    fits =
        fits_named c.args.store.now c.name_archive.new.self (g.D.Shelf.told c.args.depot.now) c.in_ok-name_archive.ensures.rest c.requires.target.fits;
    packable = search rules;
    accepts =
        let store = c.args.store.now in
        let now = c.name_archive.new.self in
        let keys = (repo_view c.args.source.now).manifest.item_keys in
        let same : (repo_view now.repo).manifest ≡ (repo_view store.repo).manifest =
        ap (λ (s : Store). (repo_view s.repo).manifest) c.in_ok-name_archive.ensures.rest in
        let next = names_next (repo_view store.repo).manifest (accepted_in store) c.args.entry keys c.requires.unnamed c.requires.target.accepts in
        subst (λ (m : ManifestText). KeepsNames m (accepted_in now)) (sym same)
        (subst (KeepsNames (repo_view store.repo).manifest) (sym c.in_ok-name_archive.ensures.named) next);
  };
}
