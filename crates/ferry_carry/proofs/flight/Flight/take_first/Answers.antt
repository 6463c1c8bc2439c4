use Rattle.std.proofs.Common.{rules, ◌≡◌, inr, MatchResult, [], ◌∷◌, Result, Err, refl, sym, IfErr, IsSome, OnOk, List, ℕ, ap, subst, arith}
use Rattle.ferry_piece.proofs.AddingLemmas.{stops_unbroken}
use Rattle.ferry_carry.proofs.FlightLemmas.{read_rest}
use Rattle.ferry_carry.proofs.BegunLemmas.{begins_none, fills_begin, fills_there}
use Rattle.ferry_carry.proofs.FlyLemmas.{flies_err, flies_fault, origin_kept, record_unbroken}
use Rattle.ferry_carry.proofs.UnnamedLemmas.{stands_within}
use Rattle.ferry_carry.proofs.UnnamedLemmas.{turned_behind, turned_err}
use Rattle.ferry_carry.proofs.GrowsLemmas.{most_from}
use Rattle.ferry_carry.proofs.HeldLemmas.{held_nothing, held_within}
use Rattle.ferry_carry.proofs.OverFlightLemmas.{ended_matched}
use Rattle.ferry_carry.proofs.LeftLemmas.{left_here, left_read, left_usable, lefts_then}
use Rattle.ferry_carry.proofs.ProgressEndLemmas.{begin_copied}
use Rattle.ferry_carry.proofs.WorkLemmas.{carried_nothing}
use Rattle.ferry_piece.proofs.WorkLemmas.{err_is}
use Rattle.ferry_carry.proofs.flight.Flight.take_first.Goals as goal
use Rattle.ferry_carry.specs.Flight.{FitsComparing, TakesTurn, flown_from, archive_adds, matched_in}
use Rattle.ferry_piece.specs.Puts.{AtBegin, border_behind}
use Rattle.ferry_piece.specs.declared.fault.CarryFault.{CarryFault}
use Rattle.ferry_carry.specs.Turns.{FliesOn, StopsTurn}
use Rattle.ferry_carry.specs.declared.flight.Flight.{Flight}
use Rattle.ferry_carry.specs.declared.options.Options.{Options}
use Rattle.ferry_carry.specs.declared.flight.Turn.{Turn}
use Rattle.ferry_carry.specs.declared.flight.Turn.TheVariants.{Named}
use Rattle.ferry_carry.proofs.MetLemmas.{stops_read, turn_read}
use Rattle.ferry_compare.specs.Compare.{comparison_view, met_behind, seen}
use Rattle.ferry_compare.specs.declared.comparison.Comparison.{Comparison}
use Rattle.ferry_repo.specs.Archives.{archive_named}
use Rattle.ferry_repo.specs.Opening.{RepoState, repo_view}
use Rattle.ferry_store.specs.Commit.{accepted_in}
use Rattle.ferry_carry.proofs.CauseLemmas.{begin_refused, comparing_refused, name_refused}
use Rattle.ferry_carry.proofs.TagLemmas.{TagsOr, match_err, tags_none, unnamed_all}
use Rattle.ferry_carry.specs.Accepting.{NamesNew}
use Rattle.ferry_carry.specs.Carrying.{Origin, origin}
use Rattle.ferry_piece.specs.Gather.{KeepsStanding}
use Rattle.ferry_carry.specs.Refusals.{IsLimited, Leaves, RefusesName, RefusesBegin}
use Rattle.ferry_carry.proofs.NamingManifestLemmas.{begin_limit, pieces_limit, rest_limit}
use Rattle.std.proofs.lemmas.Result.{IfErr-weaker}
use Rattle.ferry_piece.proofs.GatherLemmas.{stands_here}
use Rattle.ferry_store.proofs.StepLemmas.{here_each}
use Rattle.ferry_piece.proofs.FewLemmas.{begun_nothing, begun_same}
use Rattle.ferry_carry.proofs.TurnLemmas.{stops_turn, turn_refused, turn_limit, turn_left, flies_read}
use Rattle.ferry_carry.specs.States.{target_state}

pub returns-in_err-copy-clause-works : goal.returns-in_err-copy-clause-works
returns-in_err-copy-clause-works g c =
    let a = g.D.Shelf.told c.args.depot.now in
    let n = g.D.Shelf.faults c.args.depot.now in
    let store = c.args.store.now in
    let fault = c.in_err-copy.field-0.0 in
    let from = flown_from (g.S.Shelf.told c.args.shelf.now) (repo_view c.args.source.now) c.args.self.now in
    let name = c.args.self.now.named.name in
    let at = border_behind AtBegin [] in (
      [],
      (
        [],
        (
          turned_err _ _ from name [] [] [] store store _ _ a a n n c.from_residual-in_err-copy.result fault c.from_residual-in_err-copy.ensures.1 (record {
            flies = flies_err {T = Turn} [] from name [] [] store store store a a n n fault
                (carried_nothing {T = Turn} [] from (name ∷ []) [] [] store store a n fault c.requires.both.target.accepts
                c.in_err-copy.ensures.spares.still);
            begins = begins_none a from (repo_view store.repo).keys (accepted_in store) name;
            stands = λ _. stands_within at from.most store [] a a (here_each (KeepsStanding from.most store []) a (λ h. stands_here from.most store [] h));
            last = stops_unbroken a (repo_view store.repo).keys [] fault
                (record_unbroken (g.S.Shelf.told c.args.shelf.now) (repo_view c.args.source.now) c.args.self.now.named.id fault
                c.in_err-copy.ensures.refused);
            held = held_nothing at from.most store a fault;
            fills = fills_begin a (g.S.Shelf.told c.args.shelf.now) (repo_view c.args.source.now) from.block from.most from.time (repo_view store.repo).keys
                (accepted_in store) c.args.self.now.named fault c.requires.flight.named c.in_err-copy.ensures.refused;
            lists = tt;
            few = begun_nothing {T = Turn} 2 store fault (λ e.
                subst (RefusesBegin (g.S.Shelf.told c.args.shelf.now) (repo_view c.args.source.now) c.args.self.now.named.id) e
                c.in_err-copy.ensures.refused);
          }),
          match_err {T = Turn} _ (TagsOr (repo_view store.repo).keys [] (g.E.Entropy.drawn c.args.entropy.now) (g.E.Entropy.drawn c.args.entropy.now))
              c.from_residual-in_err-copy.result fault c.from_residual-in_err-copy.ensures.1
              (inr (tags_none (repo_view store.repo).keys [] _ _ refl refl)),
        ),
      ),
    )

pub returns-in_ok-comparison-clause-works : goal.returns-in_ok-comparison-clause-works
returns-in_ok-comparison-clause-works g c =
    let met = seen (g.D.Shelf.told c.begin_comparing.new.depot) (repo_view c.begin_comparing.new.store.repo) in
    let there : IsSome (archive_named c.args.self.now.named.name (repo_view c.args.store.now.repo).manifest.archives) = search rules in
    let goes : FitsComparing (g.S.Shelf.told c.begin_comparing.new.shelf) (repo_view c.begin_comparing.new.source)
    (g.D.Shelf.told c.begin_comparing.new.depot) (repo_view c.begin_comparing.new.store.repo) met c.args.self.now.named.name c.in_ok-comparison.comparison =
    record {
      fits = c.in_ok-comparison.ensures.comparison;
      there = subst (λ (r : RepoState). IsSome (archive_named c.args.self.now.named.name r.manifest.archives))
          (sym c.begin_comparing.ensures.both.target.read.repo) there;
    } in
    let to = target_state (g.D.Shelf.told c.begin_comparing.new.depot) (g.D.Shelf.faults c.begin_comparing.new.depot) c.begin_comparing.new.store in
    let to_now = target_state (g.D.Shelf.told c.compare.new.depot) (g.D.Shelf.faults c.compare.new.depot) c.compare.new.store in
    let walk = (comparison_view c.in_ok-comparison.comparison).other in
    let told = g.S.Shelf.told c.args.shelf.now in
    let later = g.S.Shelf.told c.begin_comparing.new.shelf in
    let source = repo_view c.args.source.now in
    let after = repo_view c.begin_comparing.new.source in
    let store = c.args.store.now in
    let middle = c.begin_comparing.new.store in
    let flight = c.args.self.now in
    let d = g.D.Shelf.told c.compare.new.depot in
    let named = subst (λ (n : List ℕ). FitsComparing later after (g.D.Shelf.told c.begin_comparing.new.depot) (repo_view middle.repo) met n
    c.in_ok-comparison.comparison) (sym (ap (λ (f : Flight). f.named.name) c.begin_comparing.ensures.others)) goes in
    let works = subst (λ (f : Flight). TakesTurn (seen (g.S.Shelf.told c.compare.new.shelf) (repo_view c.compare.new.source)) (flown_from later after f)
    (archive_adds f.named.name [] [] []) to to_now (met_behind walk met (seen d (repo_view c.compare.new.store.repo))) c.compare.new.self c.compare.result)
    c.begin_comparing.ensures.others (c.compare.ensures.works met named) in (
      [],
      (
        [],
        (
          turned_behind {T = Comparison} told later (g.S.Shelf.told c.compare.new.shelf) source after (repo_view c.compare.new.source) flight.options.block
              flight.options.checkpoint flight.options.timestamp flight.named.name store middle c.compare.new.store _ c.compare.new.self [] []
              (g.D.Shelf.told c.args.depot.now)
              (g.D.Shelf.told c.begin_comparing.new.depot) (g.D.Shelf.told c.compare.new.depot) (g.D.Shelf.faults c.args.depot.now)
              (g.D.Shelf.faults c.begin_comparing.new.depot) (g.D.Shelf.faults c.compare.new.depot) c.in_ok-comparison.comparison c.compare.result
              c.in_ok-comparison.ensures.both.source.same c.begin_comparing.ensures.both.source.kept c.requires.both.target.accepts (read_rest store middle
              c.begin_comparing.ensures.both.target.read)
              (c.in_ok-comparison.ensures.works flight.options.checkpoint)
              (turn_read _ _ _ _ walk to to_now _ c.compare.result c.compare.ensures.reads works),
          unnamed_all _ (repo_view store.repo).keys (g.E.Entropy.drawn c.args.entropy.now) c.compare.result c.compare.ensures.only.unnamed,
        ),
      ),
    )

pub returns-in_err-comparison-clause-works : goal.returns-in_err-comparison-clause-works
returns-in_err-comparison-clause-works g c =
    let store = c.args.store.now in
    let now = c.begin_comparing.new.store in
    let from = flown_from (g.S.Shelf.told c.args.shelf.now) (repo_view c.args.source.now) c.args.self.now in
    let name = c.args.self.now.named.name in
    let a = g.D.Shelf.told c.args.depot.now in
    let b = g.D.Shelf.told c.begin_comparing.new.depot in
    let n = g.D.Shelf.faults c.args.depot.now in
    let m = g.D.Shelf.faults c.begin_comparing.new.depot in
    let fault = c.in_err-comparison.field-0.0 in
    let at = border_behind AtBegin [] in
    let there : IsSome (archive_named name (accepted_in store).archives) = search rules in
    let works = c.in_err-comparison.ensures.works from.most in (
      [],
      (
        [],
        (
          turned_err _ _ from name [] [] [] store now _ _ a b n m c.from_residual.result fault c.from_residual.ensures.1 (record {
            flies = flies_fault {T = Comparison} [] from name store now [] a b n m fault c.requires.both.target.accepts works;
            begins = begins_none a from (repo_view store.repo).keys (accepted_in store) name;
            stands = λ _. stands_within at from.most store [] a b works.works.each;
            last = works.last;
            held = held_within {T = Turn} at from.most store now [] a b (Err fault) works.held;
            fills = fills_there a from (repo_view store.repo).keys (accepted_in store) name fault there;
            lists = tt;
            few = begun_same {T = Comparison} {U = Turn} 0 2 store now fault (omega arith) works.few;
          }),
          match_err {T = Turn} _ (TagsOr (repo_view store.repo).keys [] (g.E.Entropy.drawn c.args.entropy.now) (g.E.Entropy.drawn c.args.entropy.now))
              c.from_residual.result fault c.from_residual.ensures.1 (inr (tags_none (repo_view store.repo).keys [] _ _ refl refl)),
        ),
      ),
    )

pub returns-in_ok-copy-clause-works : goal.returns-in_ok-copy-clause-works
returns-in_ok-copy-clause-works g c =
    let told = g.S.Shelf.told c.args.shelf.now in
    let later = g.S.Shelf.told c.begin.new.shelf in
    let source = repo_view c.args.source.now in
    let after = repo_view c.begin.new.source in
    let store = c.args.store.now in
    let flight = c.args.self.now in
    let block = flight.options.block in
    let most = flight.options.checkpoint in
    let time = flight.options.timestamp in
    let a = g.D.Shelf.told c.args.depot.now in
    let ensures = c.in_ok-copy.ensures in
    let kept = c.begin.ensures.source.kept in
    let so = begin_copied told later a source after block most time flight.named store c.in_ok-copy.copy ensures.source.same kept (sym ensures.copy.block)
    (sym ensures.copy.checkpoint) ensures.copy.archive ensures.copy.walk ensures.copy.stream ensures.copy.counted in
    let copied = c.copy.ensures.works [] so in (
      copied.0,
      (
        copied.1.0,
        (
          subst (λ (f : Origin). TakesTurn (seen (g.S.Shelf.told c.copy.new.shelf) (repo_view c.copy.new.source)) f (archive_adds flight.named.name [] copied.0
              copied.1.0) (target_state a (g.D.Shelf.faults c.args.depot.now) store) (target_state (g.D.Shelf.told c.copy.new.depot) (g.D.Shelf.faults
              c.copy.new.depot) c.copy.new.store) (seen (g.D.Shelf.told c.copy.new.depot) (repo_view c.copy.new.store.repo)) c.copy.new.self
              c.copy.result) (origin_kept told later source after block block most most time time
              ensures.source.same kept refl refl refl) copied.1.1.0,
          subst (λ (r : RepoState). MatchResult c.copy.result (λ (turn : Turn). turn ≡ Named → NamesNew time r store flight.named copied.1.0
              c.copy.new.store (g.E.Entropy.drawn c.args.entropy.now) (g.E.Entropy.drawn c.copy.new.entropy))
              (TagsOr (repo_view store.repo).keys copied.0 (g.E.Entropy.drawn c.args.entropy.now) (g.E.Entropy.drawn c.copy.new.entropy))) kept
              copied.1.1.1,
        ),
      ),
    )

pub compare-requires-clause-comparison : goal.compare-requires-clause-comparison
compare-requires-clause-comparison g c =
    let met = seen (g.D.Shelf.told c.begin_comparing.new.depot) (repo_view c.begin_comparing.new.store.repo) in
    let there : IsSome (archive_named c.args.self.now.named.name (repo_view c.args.store.now.repo).manifest.archives) = search rules in
    let goes : FitsComparing (g.S.Shelf.told c.begin_comparing.new.shelf) (repo_view c.begin_comparing.new.source)
    (g.D.Shelf.told c.begin_comparing.new.depot) (repo_view c.begin_comparing.new.store.repo) met c.args.self.now.named.name c.in_ok-comparison.comparison =
    record {
      fits = c.in_ok-comparison.ensures.comparison;
      there = subst (λ (r : RepoState). IsSome (archive_named c.args.self.now.named.name r.manifest.archives))
          (sym c.begin_comparing.ensures.both.target.read.repo) there;
    } in (
      met,
      subst (λ (n : List ℕ). FitsComparing (g.S.Shelf.told c.begin_comparing.new.shelf) (repo_view c.begin_comparing.new.source)
          (g.D.Shelf.told c.begin_comparing.new.depot) (repo_view c.begin_comparing.new.store.repo) met n c.in_ok-comparison.comparison)
          (sym (ap (λ (f : Flight). f.named.name) c.begin_comparing.ensures.others)) goes,
    )

pub copy-requires-clause-copy : goal.copy-requires-clause-copy
copy-requires-clause-copy g c =
    let ensures = c.in_ok-copy.ensures in
    let options = c.args.self.now.options in (
      [],
      record {
        fits = record { ready = ensures.copy.ready; walk_fits = ensures.walk_fits };
        unnamed = search rules;
        copied = begin_copied (g.S.Shelf.told c.args.shelf.now) (g.S.Shelf.told c.begin.new.shelf) (g.D.Shelf.told c.args.depot.now) (repo_view
            c.args.source.now)
            (repo_view c.begin.new.source) options.block options.checkpoint options.timestamp c.args.self.now.named c.args.store.now c.in_ok-copy.copy
            ensures.source.same
            c.begin.ensures.source.kept (sym ensures.copy.block) (sym ensures.copy.checkpoint) ensures.copy.archive ensures.copy.walk ensures.copy.stream
            ensures.copy.counted;
      },
    )

pub returns-in_err-comparison-clause-refused : goal.returns-in_err-comparison-clause-refused
returns-in_err-comparison-clause-refused g c =
    stops_turn {T = Turn} _ _ _ _ _ _ _ c.from_residual.result
    (let store = c.args.store.now in
    let now = c.begin_comparing.new.store in
    let told = g.S.Shelf.told c.args.shelf.now in
    let source = repo_view c.args.source.now in
    let flight = c.args.self.now in
    let a = g.D.Shelf.told c.args.depot.now in
    let b = g.D.Shelf.told c.begin_comparing.new.depot in
    let fault = c.in_err-comparison.field-0.0 in
    let begun = c.begin_comparing.ensures in
    let most = flight.options.checkpoint in
    let left = left_read most store b now begun.both.target.read begun.both.target.fits c.requires.both.target.unspent c.requires.both.target.pending in
    err_is c.from_residual.result fault
    (λ (r : Result Turn CarryFault). IfErr r (RefusesName (origin told source flight.options.block flight.options.checkpoint flight.options.timestamp) a
    store
    b now flight.named.name))
    c.from_residual.ensures.1
    (comparing_refused told a b source flight.options.block flight.options.checkpoint flight.options.timestamp flight.named.name store now _ fault
    c.in_err-comparison.ensures.both.target.stops (left_usable most store b now left c.requires.both.target.packable c.requires.both.target.accepts)
    c.in_err-comparison.ensures.refused.refused))
    (let b = g.D.Shelf.told c.begin_comparing.new.depot in
    let store = c.args.store.now in
    let flight = c.args.self.now in
    let given = flight.options.timestamp in
    let source = repo_view c.args.source.now in
    let fault = c.in_err-comparison.field-0.0 in
    err_is c.from_residual.result fault (λ (r : Result Turn CarryFault). IfErr r (IsLimited b given source store flight.named)) c.from_residual.ensures.1
    (pieces_limit b (repo_view store.repo).keys given source store flight.named fault c.in_err-comparison.ensures.both.target.stops))
    (let store = c.args.store.now in
    let now = c.begin_comparing.new.store in
    let b = g.D.Shelf.told c.begin_comparing.new.depot in
    let most = c.args.self.now.options.checkpoint in
    let begun = c.begin_comparing.ensures in
    err_is c.from_residual.result c.in_err-comparison.field-0.0 (λ (r : Result Turn CarryFault). IfErr r (Leaves most store b now))
    c.from_residual.ensures.1
    (λ _. left_read most store b now begun.both.target.read begun.both.target.fits c.requires.both.target.unspent c.requires.both.target.pending))

pub returns-in_err-copy-clause-refused : goal.returns-in_err-copy-clause-refused
returns-in_err-copy-clause-refused g c =
    stops_turn {T = Turn} _ _ _ _ _ _ _ c.from_residual-in_err-copy.result
    (let a = g.D.Shelf.told c.args.depot.now in
    let store = c.args.store.now in
    let told = g.S.Shelf.told c.args.shelf.now in
    let source = repo_view c.args.source.now in
    let flight = c.args.self.now in
    let block = flight.options.block in
    let most = flight.options.checkpoint in
    let time = flight.options.timestamp in
    let fault = c.in_err-copy.field-0.0 in
    err_is c.from_residual-in_err-copy.result fault
    (λ (r : Result Turn CarryFault). IfErr r (RefusesName (origin told source block most time) a store a store flight.named.name))
    c.from_residual-in_err-copy.ensures.1
    (begin_refused told a a source block most time flight.named store store fault c.requires.flight.named
    (left_usable most store a store (left_here most store a c.requires.both.target.fits c.requires.both.target.unspent c.requires.both.target.pending)
    c.requires.both.target.packable c.requires.both.target.accepts)
    c.in_err-copy.ensures.refused))
    (let a = g.D.Shelf.told c.args.depot.now in
    let store = c.args.store.now in
    let flight = c.args.self.now in
    let given = flight.options.timestamp in
    let told = g.S.Shelf.told c.args.shelf.now in
    let source = repo_view c.args.source.now in
    let fault = c.in_err-copy.field-0.0 in
    err_is c.from_residual-in_err-copy.result fault (λ (r : Result Turn CarryFault). IfErr r (IsLimited a given source store flight.named))
    c.from_residual-in_err-copy.ensures.1
    (begin_limit told a given source store flight.named flight.named.id fault c.in_err-copy.ensures.refused))
    (let store = c.args.store.now in
    let a = g.D.Shelf.told c.args.depot.now in
    let most = c.args.self.now.options.checkpoint in
    err_is c.from_residual-in_err-copy.result c.in_err-copy.field-0.0 (λ (r : Result Turn CarryFault). IfErr r (Leaves most store a store))
    c.from_residual-in_err-copy.ensures.1 (λ _. left_here most store a c.requires.both.target.fits c.requires.both.target.unspent
    c.requires.both.target.pending))

pub returns-in_ok-comparison-clause-turn : goal.returns-in_ok-comparison-clause-turn
returns-in_ok-comparison-clause-turn g c = record {
  source = search rules;
  target =
      let store = c.args.store.now in
      let middle = c.begin_comparing.new.store in
      let flies = subst (λ (o : Options). OnOk c.compare.result (FliesOn o.checkpoint c.compare.new.self.named.name middle (g.D.Shelf.told c.compare.new.depot)
      c.compare.new.store)) (ap (λ (f : Flight). f.options) c.begin_comparing.ensures.others) c.compare.ensures.turn.target in
      flies_read {T = Turn} _ _ store middle (g.D.Shelf.told c.compare.new.depot) c.compare.new.store c.compare.result
      (read_rest store middle c.begin_comparing.ensures.both.target.read) flies;
  turn = search rules;
}

pub returns-in_ok-comparison-clause-refused : goal.returns-in_ok-comparison-clause-refused
returns-in_ok-comparison-clause-refused g c =
    let met = seen (g.D.Shelf.told c.begin_comparing.new.depot) (repo_view c.begin_comparing.new.store.repo) in
    let there : IsSome (archive_named c.args.self.now.named.name (repo_view c.args.store.now.repo).manifest.archives) = search rules in
    let goes : FitsComparing (g.S.Shelf.told c.begin_comparing.new.shelf) (repo_view c.begin_comparing.new.source)
    (g.D.Shelf.told c.begin_comparing.new.depot) (repo_view c.begin_comparing.new.store.repo) met c.args.self.now.named.name c.in_ok-comparison.comparison =
    record {
      fits = c.in_ok-comparison.ensures.comparison;
      there = subst (λ (r : RepoState). IsSome (archive_named c.args.self.now.named.name r.manifest.archives))
          (sym c.begin_comparing.ensures.both.target.read.repo) there;
    } in
    let to = target_state (g.D.Shelf.told c.begin_comparing.new.depot) (g.D.Shelf.faults c.begin_comparing.new.depot) c.begin_comparing.new.store in
    let to_now = target_state (g.D.Shelf.told c.compare.new.depot) (g.D.Shelf.faults c.compare.new.depot) c.compare.new.store in
    let walk = (comparison_view c.in_ok-comparison.comparison).other in
    let named = subst (λ (n : List ℕ). FitsComparing (g.S.Shelf.told c.begin_comparing.new.shelf) (repo_view c.begin_comparing.new.source)
    (g.D.Shelf.told c.begin_comparing.new.depot) (repo_view c.begin_comparing.new.store.repo) met n c.in_ok-comparison.comparison)
    (sym (ap (λ (f : Flight). f.named.name) c.begin_comparing.ensures.others)) goes in
    let refused = subst (λ (f : Flight). IfErr c.compare.result (StopsTurn (flown_from (g.S.Shelf.told c.begin_comparing.new.shelf)
    (repo_view c.begin_comparing.new.source) f) (g.D.Shelf.told c.begin_comparing.new.depot) c.begin_comparing.new.store (g.D.Shelf.told c.compare.new.depot)
    c.compare.new.store (met_behind walk met (seen (g.D.Shelf.told c.compare.new.depot) (repo_view c.compare.new.store.repo))) f.named))
    c.begin_comparing.ensures.others (c.compare.ensures.refused met named) in
    let stops = stops_read (flown_from (g.S.Shelf.told c.begin_comparing.new.shelf) (repo_view c.begin_comparing.new.source) c.args.self.now) walk to to_now
    c.args.self.now.named c.compare.result c.compare.ensures.reads refused in
    stops_turn {T = Turn} _ _ _ _ _ _ _ c.compare.result
    (let flight = c.args.self.now in
    let store = c.args.store.now in
    let middle = c.begin_comparing.new.store in
    let told = g.S.Shelf.told c.args.shelf.now in
    let later = g.S.Shelf.told c.begin_comparing.new.shelf in
    let source = repo_view c.args.source.now in
    let after = repo_view c.begin_comparing.new.source in
    let block = flight.options.block in
    let most = flight.options.checkpoint in
    let time = flight.options.timestamp in
    name_refused {T = Turn} (origin told source block most time) (origin later after block most time) (g.D.Shelf.told c.args.depot.now)
    (g.D.Shelf.told c.begin_comparing.new.depot) (g.D.Shelf.told c.compare.new.depot) (KeepsStanding most store []) store middle c.compare.new.store
    flight.named.name flight.named.name c.compare.result
    (origin_kept told later source after block block most most time time c.in_ok-comparison.ensures.both.source.same
    c.begin_comparing.ensures.both.source.kept refl refl refl) refl
    (c.in_ok-comparison.ensures.works most).works.each (most_from store middle (read_rest store middle c.begin_comparing.ensures.both.target.read))
    (turn_refused {T = Turn} _ _ _ _ _ _ _ c.compare.result stops))
    (let d = g.D.Shelf.told c.compare.new.depot in
    let store = c.args.store.now in
    let middle = c.begin_comparing.new.store in
    let flight = c.args.self.now in
    let given = flight.options.timestamp in
    let source = repo_view c.args.source.now in
    let after = repo_view c.begin_comparing.new.source in
    IfErr-weaker c.compare.result (IsLimited d given after middle flight.named) (IsLimited d given source store flight.named)
    (λ fault limited.
    rest_limit d given source after store middle flight.named fault (read_rest store middle c.begin_comparing.ensures.both.target.read)
    c.begin_comparing.ensures.both.source.kept
    limited) (turn_limit {T = Turn} _ _ _ _ _ _ _ c.compare.result stops))
    (let store = c.args.store.now in
    let middle = c.begin_comparing.new.store in
    let most = c.args.self.now.options.checkpoint in
    lefts_then {T = Turn} most most store middle (g.D.Shelf.told c.compare.new.depot) c.compare.new.store c.compare.result refl
    (read_rest store middle c.begin_comparing.ensures.both.target.read) (turn_left {T = Turn} _ _ _ _ _ _ _ c.compare.result stops))

pub returns-in_ok-copy-clause-refused : goal.returns-in_ok-copy-clause-refused
returns-in_ok-copy-clause-refused g c =
    stops_turn {T = Turn} _ _ _ _ _ _ _ c.copy.result
    (let flight = c.args.self.now in
    let told = g.S.Shelf.told c.args.shelf.now in
    let later = g.S.Shelf.told c.begin.new.shelf in
    let source = repo_view c.args.source.now in
    let after = repo_view c.begin.new.source in
    let block = flight.options.block in
    let most = flight.options.checkpoint in
    let time = flight.options.timestamp in
    subst (λ (f : Origin). IfErr c.copy.result (RefusesName f (g.D.Shelf.told c.args.depot.now) c.args.store.now (g.D.Shelf.told c.copy.new.depot)
    c.copy.new.store flight.named.name)) (origin_kept told later source after block block most most time time c.in_ok-copy.ensures.source.same
    c.begin.ensures.source.kept
    refl
    refl refl)
    (turn_refused {T = Turn} _ _ _ _ _ _ _ c.copy.result c.copy.ensures.refused))
    (let flight = c.args.self.now in
    subst (λ (r : RepoState). IfErr c.copy.result (IsLimited (g.D.Shelf.told c.copy.new.depot) flight.options.timestamp r c.args.store.now flight.named))
    c.begin.ensures.source.kept (turn_limit {T = Turn} _ _ _ _ _ _ _ c.copy.result c.copy.ensures.refused))
    (turn_left {T = Turn} _ _ _ _ _ _ _ c.copy.result c.copy.ensures.refused)

pub returns-in_ok-copy-clause-matched : goal.returns-in_ok-copy-clause-matched
returns-in_ok-copy-clause-matched g c =
    ended_matched (g.S.Shelf.told c.copy.new.shelf) (repo_view c.copy.new.source) (g.D.Shelf.told c.copy.new.depot) (repo_view c.copy.new.store.repo)
    (matched_in c.copy.new.self.work) c.copy.result c.copy.ensures.matched
