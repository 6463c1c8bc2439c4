use Rattle.std.proofs.Common.{◌≡◌, ℕ, List, ◌<◌, ◌≤◌, ◌+◌, Result, Ok, Err, length, take, drop, get_or, refl, ◌∙◌, ap, arith, IfErr, IfSome, inr}
use Rattle.ferry_carry.proofs.AcceptingLemmas.{one_large}
use Rattle.ferry_carry.proofs.FlyLemmas.{origin_kept}
use Rattle.ferry_carry.proofs.GrowNamedLemmas.{accepts_on}
use Rattle.ferry_carry.proofs.GrowsLemmas.{most_here, most_then}
use Rattle.ferry_carry.proofs.NextLemmas.{next_of}
use Rattle.ferry_carry.proofs.ReportNamesLemmas.{reports_all, reports_front, reports_more}
use Rattle.ferry_carry.proofs.ReportLemmas.{reports_begin}
use Rattle.ferry_carry.proofs.SmallLemmas.{ids_sized}
use Rattle.ferry_piece.proofs.WorkLemmas.{err_is}
use Rattle.ferry_carry.proofs.chosen.Order.carry_all.Goals as goal
use Rattle.ferry_carry.specs.Accepting.{HasLargeNext, LimitsNames}
use Rattle.ferry_carry.specs.Carrying.{origin}
use Rattle.ferry_carry.specs.Flight.{origin_of}
use Rattle.ferry_carry.specs.Telling.{CarriesNames, Reports, StopsBehind, TellsNames}
use Rattle.ferry_piece.specs.declared.fault.CarryFault.{CarryFault}
use Rattle.ferry_piece.specs.declared.fault.CarryFault.TheVariants.{Target}
use Rattle.ferry_repo.specs.Opening.{RepoState, repo_view}
use Rattle.ferry_carry.proofs.CauseLemmas.{name_refused, one_refused, split_at, told_still}
use Rattle.ferry_carry.specs.Refusals.{IsChunk, RefusesOne, StopsAtChunk, is_of_telling}
use Rattle.ferry_carry.specs.Naming.{record_ids}
use Rattle.ferry_carry.proofs.ChunkLemmas.{chunk_then}
use Rattle.ferry_carry.proofs.ThereLemmas.{extends_next}
use Rattle.ferry_disk.proofs.MomentLemmas.{between_map}
use Rattle.ferry_store.specs.Commit.{accepted_in}
use Rattle.ferry_store.specs.declared.fault.StoreRefusal.TheVariants.{TooLarge}
use Rattle.ferry_write.specs.Script.{AllDone}
use Rattle.ferry_carry.proofs.StandLemmas.{stops_behind}
use Rattle.ferry_piece.specs.Fault.{IsOfWork}
use Rattle.ferry_carry.proofs.TurnLemmas.{stops_names}
use Rattle.ferry_carry.specs.States.{target_state, drawn_from}

pub loop-place-init : goal.loop-place-init
loop-place-init g c = record {
  source_fits = c.requires.both.source;
  unspent = c.requires.both.target.unspent;
  fits = c.requires.both.target.fits;
  packable = c.requires.both.target.packable;
  settled = c.requires.both.target.settled;
  repo = refl;
  alike = refl;
  faults = refl;
  drawn = refl;
  pending = c.requires.both.target.pending;
  ended = λ none. none;
  most = most_here c.args.store.now;
  matched = c.requires.matched;
  works = reports_begin
      (origin_of (g.S.Shelf.told c.args.shelf.now) (repo_view c.args.source.now) c.args.self.now.options.now)
      c.args.store.now c.args.carried.now (g.D.Shelf.told c.args.depot.now) (g.D.Shelf.faults c.args.depot.now) (g.E.Entropy.drawn c.args.entropy.now)
      (accepts_on c.args.store.now c.args.store.now c.requires.both.target.settled) c.requires.uncounted;
}

pub loop-place-preserved : goal.loop-place-preserved
loop-place-preserved g c =
    let invariant = c.loop-place.invariant in
    let ensures = c.in_ok-carry_one.ensures in
    let store = c.args.store.now in
    let now = c.carry_one.new.store in
    let done : now.pending ≡ 0 = omega (arith, ensures.both.target.pending) in
    let block = c.args.self.now.options.now.block in
    let most = c.args.self.now.options.now.checkpoint in
    let time = c.args.self.now.options.now.timestamp in
    let lt : c.loop-place.place < length c.args.self.now.names.now = omega arith in
    let name = c.as_slice-name.result.now in
    let named : name ≡ get_or c.args.self.now.names.now c.loop-place.place _ = c.as_slice-name.ensures in
    let told = g.S.Shelf.told c.args.shelf.now in
    let later = g.S.Shelf.told c.loop-place.shelf in
    let source = repo_view c.args.source.now in
    let after = repo_view c.loop-place.source in
    record {
      source_fits = ensures.both.source.fits;
      unspent = ensures.both.target.unspent;
      fits = ensures.both.target.fits;
      packable = ensures.both.target.packable;
      settled = ensures.both.target.settled;
      repo = ensures.both.source.kept ∙ invariant.repo;
      alike = ensures.both.source.same ∙ invariant.alike;
      faults = ensures.both.source.cause ∙ invariant.faults;
      drawn = ensures.both.entropy ∙ invariant.drawn;
      pending = omega (arith, ensures.both.target.pending);
      ended = λ none. done;
      matched = c.in_ok-carry_one.ensures.matched;
      most = most_then store c.loop-place.store now invariant.most ensures.both.target.most_kept;
      works = (
        reports_more (origin told source block most time) (origin later after block most time) c.args.self.now.names.now c.loop-place.place name _
            store c.loop-place.store now c.args.carried.now c.loop-place.carried c.carry_one.new.carried
            (g.D.Shelf.told c.args.depot.now) (g.D.Shelf.told c.loop-place.depot) (g.D.Shelf.told c.carry_one.new.depot)
            (g.D.Shelf.faults c.args.depot.now) (g.D.Shelf.faults c.loop-place.depot) (g.D.Shelf.faults c.carry_one.new.depot)
            (g.E.Entropy.drawn c.args.entropy.now) (g.E.Entropy.drawn c.loop-place.entropy) (g.E.Entropy.drawn c.carry_one.new.entropy) (Ok tt)
            (origin_kept told later source after block block most most time time invariant.alike invariant.repo refl refl refl) lt named
            c.requires.both.target.settled
            (accepts_on c.loop-place.store c.loop-place.store invariant.settled) c.requires.both.target.fits invariant.most.keys invariant.unspent
            invariant.works.0 invariant.works.1 ensures.works,
        inr done,
      );
    }

pub returns-in_err-carry_one-clause-works : goal.returns-in_err-carry_one-clause-works
returns-in_err-carry_one-clause-works g c =
    let invariant = c.loop-place.invariant in
    let store = c.args.store.now in
    let now = c.carry_one.new.store in
    let a = g.D.Shelf.told c.args.depot.now in
    let d = g.D.Shelf.told c.carry_one.new.depot in
    let n = g.D.Shelf.faults c.args.depot.now in
    let k = g.D.Shelf.faults c.carry_one.new.depot in
    let fault = c.in_err-carry_one.field-0.0 in
    let block = c.args.self.now.options.now.block in
    let most = c.args.self.now.options.now.checkpoint in
    let time = c.args.self.now.options.now.timestamp in
    let names = c.args.self.now.names.now in
    let lt : c.loop-place.place < length names = omega arith in
    let name = c.as_slice-name.result.now in
    let named : name ≡ get_or c.args.self.now.names.now c.loop-place.place _ = c.as_slice-name.ensures in
    let told = g.S.Shelf.told c.args.shelf.now in
    let later = g.S.Shelf.told c.loop-place.shelf in
    let source = repo_view c.args.source.now in
    let after = repo_view c.loop-place.source in
    let from = origin told source block most time in
    let carried = c.args.carried.now in
    let last = c.carry_one.new.carried in
    let x = g.E.Entropy.drawn c.args.entropy.now in
    let z = g.E.Entropy.drawn c.carry_one.new.entropy in
    err_is c.from_residual.result fault (λ (r : Result (Unit {0}) CarryFault). Reports from names (target_state a n store) (target_state d k now) carried
    last (drawn_from x z) r)
    c.from_residual.ensures.1
    (reports_front from names (c.loop-place.place + 1) store now carried last a d n k x z fault
    (reports_more from (origin later after block most time) names c.loop-place.place name _ store c.loop-place.store
    now carried c.loop-place.carried last a (g.D.Shelf.told c.loop-place.depot) d n (g.D.Shelf.faults c.loop-place.depot) k x
    (g.E.Entropy.drawn c.loop-place.entropy) z (Err fault)
    (origin_kept told later source after block block most most time time invariant.alike invariant.repo refl refl refl) lt
    named c.requires.both.target.settled (accepts_on c.loop-place.store c.loop-place.store invariant.settled) c.requires.both.target.fits invariant.most.keys
    invariant.unspent invariant.works.0 invariant.works.1 c.in_err-carry_one.ensures.works))

pub returns-clause-works : goal.returns-clause-works
returns-clause-works g c =
    let invariant = c.loop-place.invariant in
    let names = c.args.self.now.names.now in
    let le : length names ≤ c.loop-place.place = omega arith in
    reports_all
    (origin_of (g.S.Shelf.told c.args.shelf.now) (repo_view c.args.source.now) c.args.self.now.options.now) names
    c.loop-place.place c.args.store.now c.loop-place.store c.args.carried.now c.loop-place.carried (g.D.Shelf.told c.args.depot.now)
    (g.D.Shelf.told c.loop-place.depot) (g.D.Shelf.faults c.args.depot.now) (g.D.Shelf.faults c.loop-place.depot) (g.E.Entropy.drawn c.args.entropy.now)
    (g.E.Entropy.drawn c.loop-place.entropy) le invariant.works.0

pub returns-in_err-carry_one-clause-refused : goal.returns-in_err-carry_one-clause-refused
returns-in_err-carry_one-clause-refused g c =
    let invariant = c.loop-place.invariant in
    let store = c.args.store.now in
    let now = c.carry_one.new.store in
    let a = g.D.Shelf.told c.args.depot.now in
    let b = g.D.Shelf.told c.loop-place.depot in
    let d = g.D.Shelf.told c.carry_one.new.depot in
    let fault = c.in_err-carry_one.field-0.0 in
    let block = c.args.self.now.options.now.block in
    let most = c.args.self.now.options.now.checkpoint in
    let time = c.args.self.now.options.now.timestamp in
    let names = c.args.self.now.names.now in
    let lt : c.loop-place.place < length names = omega arith in
    let name = c.as_slice-name.result.now in
    let named : name ≡ get_or names c.loop-place.place _ = c.as_slice-name.ensures in
    let told = g.S.Shelf.told c.args.shelf.now in
    let later = g.S.Shelf.told c.loop-place.shelf in
    let source = repo_view c.args.source.now in
    let after = repo_view c.loop-place.source in
    let from = origin told source block most time in
    let accepted = accepted_in store in
    let done = take c.loop-place.place names in
    let told_all = between_map a b (λ h g. AllDone h g × (CarriesNames from done invariant.works.0.records invariant.works.0.added store c.loop-place.store
    h g
    × TellsNames accepted done h g)) (TellsNames accepted done) (λ h g e. e.1.1) invariant.works.0.works.end in
    err_is c.from_residual.result fault (λ (r : Result (Unit {0}) CarryFault). IfErr r (RefusesOne from a store d now names)) c.from_residual.ensures.1
    (one_refused from a d store now names done name (drop (c.loop-place.place + 1) names) fault (split_at names c.loop-place.place name _ lt named)
    (λ still. told_still accepted done a b d told_all (c.in_err-carry_one.ensures.stops.untold still))
    (name_refused {T = Unit {0}} from (origin later after block most time) a b d _ store c.loop-place.store now name name (Err fault)
    (origin_kept told later source after block block most most time time invariant.alike invariant.repo refl refl refl) refl invariant.works.0.works.each
    invariant.most
    c.in_err-carry_one.ensures.refused))

pub returns-in_err-carry_one-clause-stops : goal.returns-in_err-carry_one-clause-stops
returns-in_err-carry_one-clause-stops g c =
    stops_names {T = Unit {0}} _ _ _ _ _ _ _ c.from_residual.result
    (let invariant = c.loop-place.invariant in
    let store = c.args.store.now in
    let now = c.carry_one.new.store in
    let a = g.D.Shelf.told c.args.depot.now in
    let b = g.D.Shelf.told c.loop-place.depot in
    let d = g.D.Shelf.told c.carry_one.new.depot in
    let fault = c.in_err-carry_one.field-0.0 in
    let block = c.args.self.now.options.now.block in
    let given = c.args.self.now.options.now.timestamp in
    let names = c.args.self.now.names.now in
    let lt : c.loop-place.place < length names = omega arith in
    let name = c.as_slice-name.result.now in
    let named : name ≡ get_or c.args.self.now.names.now c.loop-place.place _ = c.as_slice-name.ensures in
    let source = repo_view c.args.source.now in
    let after = repo_view c.loop-place.source in
    let keys = (repo_view store.repo).keys in
    let from = origin (g.S.Shelf.told c.args.shelf.now) source block c.args.self.now.options.now.checkpoint given in
    let accepted = accepted_in store in
    let done = take c.loop-place.place names in
    let told_all = between_map a b (λ h g. AllDone h g × (CarriesNames from done invariant.works.0.records invariant.works.0.added store c.loop-place.store
    h g
    × TellsNames accepted done h g)) (TellsNames accepted done) (λ h g e. e.1.1) invariant.works.0.works.end in
    err_is c.from_residual.result fault
    (λ (r : Result (Unit {0}) CarryFault). IfErr r (λ (f : CarryFault). f ≡ Target TooLarge
    → IfSome a (λ b. IfSome d (λ t. LimitsNames given source.manifest keys accepted names (λ told. TellsNames accepted told b.history t.history)))))
    c.from_residual.ensures.1
    (λ is.
    let large : IfSome d (λ _. HasLargeNext given after.manifest (repo_view c.loop-place.store.repo).keys (accepted_in c.loop-place.store) name) =
    c.in_err-carry_one.ensures.stops.limit is in
    one_large d given source.manifest after.manifest keys (repo_view c.loop-place.store.repo).keys a names done name
    (drop (c.loop-place.place + 1) names) _ accepted (accepted_in c.loop-place.store) (ap (λ (r : RepoState). r.manifest) invariant.repo) invariant.most.keys
    (split_at names c.loop-place.place name _ lt named) (ids_sized keys invariant.works.0.records)
    (next_of given source.manifest keys accepted done invariant.works.0.records (accepted_in c.loop-place.store) invariant.works.0.accepts.0)
    (told_still accepted done a b d told_all (c.in_err-carry_one.ensures.stops.untold (ap is_of_telling is))) large))
    (let invariant = c.loop-place.invariant in
    let store = c.args.store.now in
    let middle = c.loop-place.store in
    let a = g.D.Shelf.told c.args.depot.now in
    let b = g.D.Shelf.told c.loop-place.depot in
    let d = g.D.Shelf.told c.carry_one.new.depot in
    let fault = c.in_err-carry_one.field-0.0 in
    let block = c.args.self.now.options.now.block in
    let most = c.args.self.now.options.now.checkpoint in
    let time = c.args.self.now.options.now.timestamp in
    let names = c.args.self.now.names.now in
    let place = c.loop-place.place in
    let lt : place < length names = omega arith in
    let name = c.as_slice-name.result.now in
    let named : name ≡ get_or names place _ = c.as_slice-name.ensures in
    let told = g.S.Shelf.told c.args.shelf.now in
    let later = g.S.Shelf.told c.loop-place.shelf in
    let source = repo_view c.args.source.now in
    let after = repo_view c.loop-place.source in
    let from = origin told source block most time in
    let keys = (repo_view store.repo).keys in
    let accepted = accepted_in store in
    let done = take place names in
    let x = g.E.Entropy.drawn c.args.entropy.now in
    let y = g.E.Entropy.drawn c.loop-place.entropy in
    let z = g.E.Entropy.drawn c.carry_one.new.entropy in
    let works = invariant.works.0 in
    let told_all = between_map a b (λ h g. AllDone h g × (CarriesNames from done works.records works.added store middle h g
    × TellsNames accepted done h g)) (TellsNames accepted done) (λ h g e. e.1.1) works.works.end in
    err_is c.from_residual.result fault
    (λ (r : Result (Unit {0}) CarryFault). IfErr r (λ (f : CarryFault). (id : List ℕ) → IsChunk id f
    → IfSome a (λ u. IfSome d (λ v. IfSome from.files (λ _. StopsAtChunk from keys accepted names (λ l. TellsNames accepted l u.history v.history) x z id)))))
    c.from_residual.ensures.1
    (λ id is.
    chunk_then told source block most time (origin later after block most time) store middle names done (drop (place + 1) names) name id works.records
    works.added a b d x y z (origin_kept told later source after block block most most time time invariant.alike invariant.repo refl refl refl)
    invariant.most.keys (split_at names place name _ lt named)
    (extends_next time source.manifest accepted (accepted_in middle) done (record_ids keys works.records)
    (next_of time source.manifest keys accepted done works.records (accepted_in middle) works.accepts.0)) works.accepts.1 works.works.end
    (told_still accepted done a b d told_all (c.in_err-carry_one.ensures.stops.untold (ap is_of_telling is.1))) (c.in_err-carry_one.ensures.stops.chunk id
    is)))
    (let invariant = c.loop-place.invariant in
    let store = c.args.store.now in
    let middle = c.loop-place.store in
    let a = g.D.Shelf.told c.args.depot.now in
    let b = g.D.Shelf.told c.loop-place.depot in
    let d = g.D.Shelf.told c.carry_one.new.depot in
    let fault = c.in_err-carry_one.field-0.0 in
    let block = c.args.self.now.options.now.block in
    let most = c.args.self.now.options.now.checkpoint in
    let time = c.args.self.now.options.now.timestamp in
    let names = c.args.self.now.names.now in
    let place = c.loop-place.place in
    let lt : place < length names = omega arith in
    let name = c.as_slice-name.result.now in
    let named : name ≡ get_or names place _ = c.as_slice-name.ensures in
    let told = g.S.Shelf.told c.args.shelf.now in
    let later = g.S.Shelf.told c.loop-place.shelf in
    let source = repo_view c.args.source.now in
    let after = repo_view c.loop-place.source in
    let from = origin told source block most time in
    err_is c.from_residual.result fault (λ (r : Result (Unit {0}) CarryFault). IfErr r (λ (f : CarryFault). IsOfWork f → StopsBehind from names store a d))
    c.from_residual.ensures.1
    (λ work. stops_behind from (origin later after block most time) names (take place names) name (drop (place + 1) names) store middle
    c.args.carried.now c.loop-place.carried a b d (g.D.Shelf.faults c.args.depot.now) (g.D.Shelf.faults c.loop-place.depot)
    (g.E.Entropy.drawn c.args.entropy.now) (g.E.Entropy.drawn c.loop-place.entropy)
    (origin_kept told later source after block block most most time time invariant.alike invariant.repo refl refl refl) (split_at names place name _ lt named)
    c.requires.both.target.settled (accepts_on middle middle invariant.settled) invariant.most.keys invariant.works.0
    invariant.works.1 (c.in_err-carry_one.ensures.stops.stands work)))
