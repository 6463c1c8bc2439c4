use Rattle.std.proofs.Common.{◌≡◌, ◌≢◌, ◌⊎◌, inl, ◌≤◌, List, [], ◌++◌, Bool, true, false, rules}
use Rattle.std.proofs.Common.{None, Result, Ok, Err, IsSome, refl, ◌∙◌, ap, subst, sym, IfErr, IfSome}
use Rattle.ferry_carry.proofs.FlownLemmas.{TakesOn, taken_err, takes_end, takes_last, takes_more, takes_none, takes_refused}
use Rattle.ferry_carry.proofs.FlyLemmas.{origin_same}
use Rattle.ferry_carry.proofs.AcceptingLemmas.{flown_large, flown_named, flown_present}
use Rattle.ferry_carry.proofs.ChunkLemmas.{flown_tags}
use Rattle.ferry_carry.proofs.TagLemmas.{match_err}
use Rattle.ferry_carry.specs.Naming.{TagsDrawn}
use Rattle.ferry_piece.specs.Adding.{IsNoChunk}
use Rattle.ferry_carry.proofs.GrowNamedLemmas.{accepts_on}
use Rattle.ferry_carry.proofs.GrowsLemmas.{most_here, most_then}
use Rattle.ferry_carry.proofs.FlightLemmas.{settled_committed}
use Rattle.ferry_carry.proofs.ThereLemmas.{tells_named, tells_present}
use Rattle.ferry_piece.proofs.WorkLemmas.{err_is}
use Rattle.ferry_carry.proofs.chosen.fly.Goals as goal
use Rattle.ferry_carry.specs.Flight.{TakesTurn, flown_from, archive_adds}
use Rattle.ferry_piece.specs.Puts.{Addition}
use Rattle.ferry_carry.specs.Accepting.{HasLargeNext}
use Rattle.ferry_piece.specs.declared.fault.CarryFault.{CarryFault}
use Rattle.ferry_piece.specs.declared.fault.CarryFault.TheVariants.{Target}
use Rattle.ferry_carry.specs.declared.flight.Turn.{Turn}
use Rattle.ferry_carry.specs.declared.flight.Turn.TheVariants.{Named}
use Rattle.ferry_carry.specs.declared.options.Options.{Options}
use Rattle.ferry_manifest.specs.declared.manifest.ArchiveRef.{ArchiveRef}
use Rattle.ferry_manifest.specs.Manifest.Text.{ManifestText}
use Rattle.ferry_repo.specs.Archives.{archive_named}
use Rattle.ferry_repo.specs.Opening.{cached_in, repo_view}
use Rattle.ferry_store.specs.Commit.{accepted_in}
use Rattle.ferry_store.specs.declared.fault.StoreRefusal.TheVariants.{TooLarge}
use Rattle.ferry_carry.proofs.CauseLemmas.{name_refused}
use Rattle.ferry_carry.specs.Refusals.{RefusesName, WhereTold}
use Rattle.ferry_carry.proofs.MetLemmas.{stops_by, turn_by}
use Rattle.ferry_carry.proofs.TurnLemmas.{stops_flight}
use Rattle.ferry_compare.specs.Compare.{seen}
use Rattle.ferry_carry.specs.States.{target_state}

pub loop-init : goal.loop-init
loop-init g c = record {
  flight = c.requires.flight;
  named = refl;
  options = refl;
  source_fits = c.requires.both.source;
  unspent = c.requires.both.target.unspent;
  fits = c.requires.both.target.fits;
  packable = c.requires.both.target.packable;
  settled = c.requires.both.target.settled;
  accepted = refl;
  repo = refl;
  alike = refl;
  faults = refl;
  drawn = refl;
  undrawn = refl;
  most = most_here c.args.store.now;
  pending = c.requires.both.target.pending;
  works = λ fits.
      takes_none (g.S.Shelf.told c.args.shelf.now) (repo_view c.args.source.now)
      (flown_from (g.S.Shelf.told c.args.shelf.now) (repo_view c.args.source.now) c.args.flight.now) c.args.flight.now.named.name c.args.store.now
      c.args.flight.now (g.D.Shelf.told c.args.depot.now) (g.D.Shelf.faults c.args.depot.now) fits
      (accepts_on c.args.store.now c.args.store.now c.requires.both.target.settled);
}

pub returns-in_err-step-clause-works : goal.returns-in_err-step-clause-works
returns-in_err-step-clause-works g c =
    let invariant = c.loop.invariant in
    let store = c.args.store.now in
    let middle = c.loop.store in
    let now = c.step.new.store in
    let told = g.S.Shelf.told c.args.shelf.now in
    let later = g.S.Shelf.told c.loop.shelf in
    let source = repo_view c.args.source.now in
    let after = repo_view c.loop.source in
    let a = g.D.Shelf.told c.args.depot.now in
    let b = g.D.Shelf.told c.loop.depot in
    let d = g.D.Shelf.told c.step.new.depot in
    let n = g.D.Shelf.faults c.args.depot.now in
    let m = g.D.Shelf.faults c.loop.depot in
    let k = g.D.Shelf.faults c.step.new.depot in
    let from = flown_from told source c.args.flight.now in
    let other = flown_from later after c.loop.flight in
    let name = c.args.flight.now.named.name in
    let called = c.loop.flight.named.name in
    let same : other ≡ from =
    origin_same told later source after c.args.flight.now.options c.loop.flight.options invariant.alike invariant.repo invariant.options in
    let names = ap (λ (e : ArchiveRef). e.name) invariant.named in
    let fault = c.in_err-step.field-0.0 in
    λ fits.
    let before = invariant.works fits in
    let stepped = c.in_err-step.ensures.works (seen b (repo_view middle.repo)) before.fits in (
      before.more ++ stepped.0,
      (
        stepped.1.0,
        (
          taken_err from name fits.added (before.more ++ stepped.0) stepped.1.0 store now _ a d n k c.from_residual.result fault c.from_residual.ensures.1
              (takes_refused later (g.S.Shelf.told c.step.new.shelf) after (repo_view c.step.new.source) from other name called fits.added stepped.0
              stepped.1.0 store middle now c.loop.flight _ a b d n m k fault same names invariant.accepted invariant.most.keys
              (accepts_on middle middle invariant.settled) invariant.unspent before
              (turn_by _ _ _ _ c.loop.flight.work (target_state b m middle) (target_state d k now) _ (Err fault) c.in_err-step.ensures.reads stepped.1.1.0)),
          match_err {T = Bool} _
              (λ (f : CarryFault). IsNoChunk f ⊎ WhereTold from a (λ _. TagsDrawn (repo_view store.repo).keys (fits.added ++ (before.more ++ stepped.0))
              (g.E.Entropy.drawn c.args.entropy.now) (g.E.Entropy.drawn c.step.new.entropy)))
              c.from_residual.result fault c.from_residual.ensures.1
              (flown_tags later after from name fits.added stepped.0 store middle c.loop.flight a b n m (g.E.Entropy.drawn c.args.entropy.now)
              (g.E.Entropy.drawn c.loop.entropy) (g.E.Entropy.drawn c.step.new.entropy) fault same invariant.most.keys invariant.undrawn before
              stepped.1.1.1),
        ),
      ),
    )

pub returns-in-Named-clause-works : goal.returns-in-Named-clause-works
returns-in-Named-clause-works g c =
    let invariant = c.loop.invariant in
    let store = c.args.store.now in
    let middle = c.loop.store in
    let now = c.step.new.store in
    let told = g.S.Shelf.told c.args.shelf.now in
    let later = g.S.Shelf.told c.loop.shelf in
    let source = repo_view c.args.source.now in
    let after = repo_view c.loop.source in
    let a = g.D.Shelf.told c.args.depot.now in
    let b = g.D.Shelf.told c.loop.depot in
    let d = g.D.Shelf.told c.step.new.depot in
    let n = g.D.Shelf.faults c.args.depot.now in
    let m = g.D.Shelf.faults c.loop.depot in
    let k = g.D.Shelf.faults c.step.new.depot in
    let from = flown_from told source c.args.flight.now in
    let other = flown_from later after c.loop.flight in
    let name = c.args.flight.now.named.name in
    let called = c.loop.flight.named.name in
    let same : other ≡ from =
    origin_same told later source after c.args.flight.now.options c.loop.flight.options invariant.alike invariant.repo invariant.options in
    let names = ap (λ (e : ArchiveRef). e.name) invariant.named in
    let last = g.S.Shelf.told c.step.new.shelf in
    let then = repo_view c.step.new.source in
    let flight = c.step.new.self in
    λ fits.
    let before = invariant.works fits in
    let stepped = c.in_ok-step.ensures.works (seen b (repo_view middle.repo)) before.fits in
    let records = stepped.1.0 in
    let turn = subst (λ (t : Turn). TakesTurn (seen last then) other (archive_adds called before.fits.added stepped.0 records) (target_state b m middle)
    (target_state d k now) (seen d (repo_view now.repo)) flight (Ok t)) c.in-Named.is
    (turn_by _ _ _ _ c.loop.flight.work (target_state b m middle) (target_state d k now) _ _ c.in_ok-step.ensures.reads stepped.1.1.0) in (
      before.more ++ stepped.0,
      (
        records,
        (
          takes_last later last after then from other name called fits.added stepped.0 records store middle now c.loop.flight flight a b d n m k true same
              names invariant.accepted invariant.most.keys (ap (λ (e : ArchiveRef). e.name) (c.step.ensures.turn.turn.name ∙ invariant.named)) before turn,
          flown_named told c.args.flight.now.options c.loop.flight.options source after store middle now c.args.flight.now.named c.loop.flight.named records
              (g.E.Entropy.drawn c.args.entropy.now) (g.E.Entropy.drawn c.loop.entropy) (g.E.Entropy.drawn c.step.new.entropy) invariant.settled
              invariant.options invariant.repo invariant.named invariant.accepted invariant.most.keys c.requires.flight.stands.named
              (c.in_ok-step.ensures.turn.turn.new (ap Ok c.in-Named.is)) invariant.undrawn (stepped.1.1.1 c.in-Named.is),
        ),
      ),
    )

pub returns-in-Present-clause-works : goal.returns-in-Present-clause-works
returns-in-Present-clause-works g c =
    let invariant = c.loop.invariant in
    let store = c.args.store.now in
    let middle = c.loop.store in
    let now = c.step.new.store in
    let told = g.S.Shelf.told c.args.shelf.now in
    let later = g.S.Shelf.told c.loop.shelf in
    let source = repo_view c.args.source.now in
    let after = repo_view c.loop.source in
    let a = g.D.Shelf.told c.args.depot.now in
    let b = g.D.Shelf.told c.loop.depot in
    let d = g.D.Shelf.told c.step.new.depot in
    let n = g.D.Shelf.faults c.args.depot.now in
    let m = g.D.Shelf.faults c.loop.depot in
    let k = g.D.Shelf.faults c.step.new.depot in
    let from = flown_from told source c.args.flight.now in
    let other = flown_from later after c.loop.flight in
    let name = c.args.flight.now.named.name in
    let called = c.loop.flight.named.name in
    let same : other ≡ from =
    origin_same told later source after c.args.flight.now.options c.loop.flight.options invariant.alike invariant.repo invariant.options in
    let names = ap (λ (e : ArchiveRef). e.name) invariant.named in
    let last = g.S.Shelf.told c.step.new.shelf in
    let then = repo_view c.step.new.source in
    let flight = c.step.new.self in
    λ fits.
    let before = invariant.works fits in
    let stepped = c.in_ok-step.ensures.works (seen b (repo_view middle.repo)) before.fits in
    let records = stepped.1.0 in
    let turn = subst (λ (t : Turn). TakesTurn (seen last then) other (archive_adds called before.fits.added stepped.0 records) (target_state b m middle)
    (target_state d k now) (seen d (repo_view now.repo)) flight (Ok t)) c.in-Present.is
    (turn_by _ _ _ _ c.loop.flight.work (target_state b m middle) (target_state d k now) _ _ c.in_ok-step.ensures.reads stepped.1.1.0) in (
      before.more ++ stepped.0,
      (
        records,
        (
          takes_last later last after then from other name called fits.added stepped.0 records store middle now c.loop.flight flight a b d n m k false same
              names invariant.accepted invariant.most.keys (ap (λ (e : ArchiveRef). e.name) (c.step.ensures.turn.turn.name ∙ invariant.named)) before turn,
          flown_present from name store now records (g.E.Entropy.drawn c.args.entropy.now) (g.E.Entropy.drawn c.step.new.entropy)
              (subst (λ (m : ManifestText). IsSome (archive_named name m.archives)) invariant.accepted
              (subst (λ (e : ArchiveRef). IsSome (archive_named e.name (accepted_in middle).archives)) invariant.named
              (c.in_ok-step.ensures.turn.turn.there (ap Ok c.in-Present.is)))) (c.in_ok-step.ensures.turn.turn.still (ap Ok c.in-Present.is) ∙
              invariant.accepted)
              (c.in_ok-step.ensures.draws.undrawn (subst (λ (t : Turn). t ≢ Named) (sym c.in-Present.is) (λ is. let no : ⊥ = cc in no)) ∙ invariant.undrawn)
              turn.lists.0.0,
        ),
      ),
    )

pub loop-preserved : goal.loop-preserved
loop-preserved g c =
    let invariant = c.loop.invariant in
    let store = c.args.store.now in
    let middle = c.loop.store in
    let now = c.step.new.store in
    let told = g.S.Shelf.told c.args.shelf.now in
    let later = g.S.Shelf.told c.loop.shelf in
    let source = repo_view c.args.source.now in
    let after = repo_view c.loop.source in
    let a = g.D.Shelf.told c.args.depot.now in
    let b = g.D.Shelf.told c.loop.depot in
    let d = g.D.Shelf.told c.step.new.depot in
    let n = g.D.Shelf.faults c.args.depot.now in
    let m = g.D.Shelf.faults c.loop.depot in
    let k = g.D.Shelf.faults c.step.new.depot in
    let from = flown_from told source c.args.flight.now in
    let other = flown_from later after c.loop.flight in
    let name = c.args.flight.now.named.name in
    let called = c.loop.flight.named.name in
    let same : other ≡ from =
    origin_same told later source after c.args.flight.now.options c.loop.flight.options invariant.alike invariant.repo invariant.options in
    let names = ap (λ (e : ArchiveRef). e.name) invariant.named in
    let last = g.S.Shelf.told c.step.new.shelf in
    let then = repo_view c.step.new.source in
    let flight = c.step.new.self in
    let ensures = c.in_ok-step.ensures in
    let turned : (start : List Addition) (before : TakesOn later after from name start store middle c.loop.flight a b n m)
    → TakesOn last then from name start store now flight a d n k =
    λ start before.
    let stepped = ensures.works (seen b (repo_view middle.repo)) before.fits in
    takes_more later last after then from other name called start stepped.0 stepped.1.0 store middle now c.loop.flight flight a b d n m k same names
    (accepts_on middle middle invariant.settled) before
    (subst (λ (t : Turn). TakesTurn (seen last then) other (archive_adds called before.fits.added stepped.0 stepped.1.0) (target_state b m middle)
    (target_state d
    k now) (seen d (repo_view now.repo)) flight (Ok t)) c.in-More.is
    (turn_by _ _ _ _ c.loop.flight.work (target_state b m middle) (target_state d k now) _ _ ensures.reads stepped.1.1.0)) in
    record {
      flight = (turned c.requires.flight.added (invariant.works c.requires.flight)).fits;
      named = ensures.turn.turn.name ∙ invariant.named;
      options = ensures.turn.turn.options ∙ invariant.options;
      source_fits = ensures.turn.source.fits;
      unspent = ensures.turn.target.unspent;
      fits = ensures.turn.target.fits;
      packable = ensures.turn.target.packable;
      settled = ensures.turn.target.settled invariant.settled;
      accepted = ensures.turn.turn.more (ap Ok c.in-More.is) ∙ invariant.accepted;
      repo = ensures.turn.source.kept ∙ invariant.repo;
      alike = ensures.turn.source.same ∙ invariant.alike;
      faults = ensures.turn.source.cause ∙ invariant.faults;
      drawn = ensures.draws.entropy ∙ invariant.drawn;
      undrawn = ensures.draws.undrawn (subst (λ (t : Turn). t ≢ Named) (sym c.in-More.is) (λ is. let no : ⊥ = cc in no)) ∙ invariant.undrawn;
      most = most_then store middle now invariant.most ensures.turn.target.most_kept;
      pending = subst (λ (o : Options). now.pending ≤ o.checkpoint) invariant.options ensures.turn.target.pending;
      works = λ fits. turned fits.added (invariant.works fits);
    }

pub returns-in-Named-clause-word : goal.returns-in-Named-clause-word
returns-in-Named-clause-word g c =
    let invariant = c.loop.invariant in
    let name = c.args.flight.now.named.name in
    tells_named (accepted_in c.args.store.now) name
    (subst (λ (m : ManifestText). archive_named name m.archives ≡ None) invariant.accepted
    (subst (λ (e : ArchiveRef). archive_named e.name (accepted_in c.loop.store).archives ≡ None) invariant.named
    (c.in_ok-step.ensures.turn.turn.new (ap Ok c.in-Named.is))))

pub returns-in-Present-clause-word : goal.returns-in-Present-clause-word
returns-in-Present-clause-word g c =
    let invariant = c.loop.invariant in
    let name = c.args.flight.now.named.name in
    tells_present (accepted_in c.args.store.now) name
    (subst (λ (m : ManifestText). IsSome (archive_named name m.archives)) invariant.accepted
    (subst (λ (e : ArchiveRef). IsSome (archive_named e.name (accepted_in c.loop.store).archives)) invariant.named
    (c.in_ok-step.ensures.turn.turn.there (ap Ok c.in-Present.is))))

pub returns-clause-works : goal.returns-clause-works
returns-clause-works g c =
    let invariant = c.loop.invariant in
    let told = g.S.Shelf.told c.args.shelf.now in
    let later = g.S.Shelf.told c.loop.shelf in
    let source = repo_view c.args.source.now in
    let after = repo_view c.loop.source in
    let flight = c.args.flight.now in
    λ fits.
    let before = invariant.works fits in (
      before.more,
      (
        [],
        (
          takes_end later after (cached_in c.loop.source) (flown_from told source flight) flight.named.name fits.added c.args.store.now c.loop.store
              c.loop.flight (g.D.Shelf.told c.args.depot.now) (g.D.Shelf.told c.loop.depot) (g.D.Shelf.faults c.args.depot.now) (g.D.Shelf.faults
              c.loop.depot)
              (origin_same told later source after flight.options c.loop.flight.options invariant.alike invariant.repo invariant.options)
              (ap (λ (e : ArchiveRef). e.name) invariant.named) invariant.accepted invariant.most.keys invariant.source_fits
              (accepts_on c.loop.store c.loop.store invariant.settled) before,
          inl tt,
        ),
      ),
    )

pub returns-in_err-step-clause-refused : goal.returns-in_err-step-clause-refused
returns-in_err-step-clause-refused g c =
    let b = g.D.Shelf.told c.loop.depot in
    let middle = c.loop.store in
    let stops = stops_by (flown_from (g.S.Shelf.told c.loop.shelf) (repo_view c.loop.source) c.loop.flight) c.loop.flight.work
    (target_state b (g.D.Shelf.faults c.loop.depot) middle) (target_state (g.D.Shelf.told c.step.new.depot) (g.D.Shelf.faults c.step.new.depot)
    c.step.new.store) c.loop.flight.named (Err c.in_err-step.field-0.0) c.in_err-step.ensures.reads
    (c.in_err-step.ensures.refused (seen b (repo_view middle.repo)) c.loop.invariant.flight) in
    stops_flight {T = Bool} _ _ _ _ _ _ c.from_residual.result
    (let invariant = c.loop.invariant in
    let store = c.args.store.now in
    let now = c.step.new.store in
    let a = g.D.Shelf.told c.args.depot.now in
    let b = g.D.Shelf.told c.loop.depot in
    let d = g.D.Shelf.told c.step.new.depot in
    let from = flown_from (g.S.Shelf.told c.args.shelf.now) (repo_view c.args.source.now) c.args.flight.now in
    let other = flown_from (g.S.Shelf.told c.loop.shelf) (repo_view c.loop.source) c.loop.flight in
    let name = c.args.flight.now.named.name in
    let same : other ≡ from =
    origin_same (g.S.Shelf.told c.args.shelf.now) (g.S.Shelf.told c.loop.shelf) (repo_view c.args.source.now) (repo_view c.loop.source)
    c.args.flight.now.options c.loop.flight.options invariant.alike invariant.repo invariant.options in
    let fault = c.in_err-step.field-0.0 in
    err_is c.from_residual.result fault (λ (r : Result Bool CarryFault). IfErr r (RefusesName from a store d now name)) c.from_residual.ensures.1
    (name_refused {T = Turn} from other a b d _ store c.loop.store now name c.loop.flight.named.name (Err fault) same
    (ap (λ (e : ArchiveRef). e.name) invariant.named) (invariant.works c.requires.flight).works.each invariant.most
    stops.refused))
    (let invariant = c.loop.invariant in
    let flight = c.args.flight.now in
    let store = c.args.store.now in
    let source = repo_view c.args.source.now in
    let d = g.D.Shelf.told c.step.new.depot in
    let fault = c.in_err-step.field-0.0 in
    err_is c.from_residual.result fault
    (λ (r : Result Bool CarryFault). IfErr r (λ (f : CarryFault). f ≡ Target TooLarge
    → IfSome d (λ _. HasLargeNext flight.options.timestamp source.manifest (repo_view store.repo).keys (accepted_in store) flight.named.name)))
    c.from_residual.ensures.1
    (flown_large d flight.options.timestamp c.loop.flight.options.timestamp source (repo_view c.loop.source) store c.loop.store flight.named
    c.loop.flight.named fault invariant.settled (ap (λ (o : Options). o.timestamp) invariant.options) invariant.repo invariant.named invariant.accepted
    invariant.most.keys c.requires.flight.stands.named stops.limit))

pub step-requires-clause-flight : goal.step-requires-clause-flight
step-requires-clause-flight g c = (seen (g.D.Shelf.told c.loop.depot) (repo_view c.loop.store.repo), c.loop.invariant.flight)

pub step-requires-clause-both : goal.step-requires-clause-both
step-requires-clause-both g c = record {
  source = search rules;
  target =
      record {
        pending =
            let invariant = c.loop.invariant in
            subst (λ (o : Options). c.loop.store.pending ≤ o.checkpoint) (sym invariant.options) invariant.pending;
        unspent = search rules;
        fits = search rules;
        packable = search rules;
        accepts =
            accepts_on c.loop.store c.loop.store c.loop.invariant.settled;
        committed =
            settled_committed c.loop.store c.loop.flight.named.name c.loop.invariant.settled;
      };
}
