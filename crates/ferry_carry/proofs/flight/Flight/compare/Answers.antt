use Rattle.std.proofs.Common.{◌≡◌, [], ◌∷◌, ℕ, List, Some, Result, Ok, Err, refl, sym, ◌∙◌, ap, subst, IfErr, IsSome, OnOk, arith, rules}
use Rattle.ferry_carry.proofs.FlightLemmas.{read_rest, rest_accepts, rest_there, there_accepted}
use Rattle.ferry_carry.proofs.BegunLemmas.{begins_there, filled_apart, fills_there}
use Rattle.ferry_carry.proofs.FlyLemmas.{flies_as, flies_fault, present_flies}
use Rattle.ferry_carry.proofs.UnnamedLemmas.{present_stands, stands_within}
use Rattle.ferry_carry.proofs.FlyLemmas.{taken_still, taken_unbroken, taken_unused}
use Rattle.ferry_carry.proofs.BegunLemmas.{turn_present}
use Rattle.ferry_carry.proofs.UnnamedLemmas.{turned_err, present_few}
use Rattle.ferry_carry.proofs.HeldLemmas.{held_within, spent_chunk, targets_apart}
use Rattle.ferry_carry.proofs.LeftLemmas.{left_read, left_usable, targets_leave}
use Rattle.ferry_carry.proofs.ReportLemmas.{told_unbroken}
use Rattle.ferry_piece.proofs.AddingLemmas.{held_spent}
use Rattle.ferry_carry.proofs.WorkLemmas.{carried_from}
use Rattle.ferry_piece.proofs.WorkLemmas.{err_is, gathered_fault}
use Rattle.ferry_carry.proofs.flight.Flight.compare.Goals as goal
use Rattle.ferry_carry.proofs.OverFlightLemmas.{present_matched}
use Rattle.ferry_carry.specs.Counting.{nothing_carried}
use Rattle.ferry_carry.specs.Flight.{IsSame, WaitsMatched, WorkFits, flown_from, matched_in}
use Rattle.ferry_piece.specs.Puts.{AtBegin, border_behind}
use Rattle.ferry_piece.specs.declared.fault.CarryFault.{CarryFault}
use Rattle.ferry_carry.specs.declared.flight.Flight.{Flight}
use Rattle.ferry_carry.specs.declared.flight.Turn.{Turn}
use Rattle.ferry_carry.specs.declared.flight.Turn.TheVariants.{More}
use Rattle.ferry_compare.specs.Compare.{comparison_view, met_behind, seen}
use Rattle.ferry_compare.specs.declared.comparison.Compared.{Compared}
use Rattle.ferry_repo.specs.Archives.{archive_named}
use Rattle.ferry_repo.specs.Opening.{RepoState, repo_view}
use Rattle.ferry_carry.proofs.CauseLemmas.{comparing_refused, pending_refused, taken_refused}
use Rattle.ferry_carry.proofs.NamingManifestLemmas.{pieces_limit, taken_limit}
use Rattle.ferry_carry.specs.Carrying.{origin}
use Rattle.ferry_carry.specs.Refusals.{DiffersThere, IsLimited, Leaves, RefusesComparing, RefusesMet}
use Rattle.ferry_piece.specs.Stops.{StopsPieces}
use Rattle.std.proofs.lemmas.Result.{IfErr-weaker}
use Rattle.ferry_store.specs.Commit.{accepted_in}
use Rattle.ferry_store.specs.declared.store.Store.{Store}
use Rattle.ferry_piece.proofs.FewLemmas.{begun_as, begun_same, begun_then}
use Rattle.ferry_carry.proofs.MetLemmas.{comparing_reads, present_reads, taken_reads}
use Rattle.ferry_carry.proofs.TurnLemmas.{stops_turn, flies_present}
use Rattle.ferry_carry.specs.States.{target_state}
use Rattle.ferry_carry.specs.Turns.{FliesOn, OnlyReads}

pub returns-in-More-clause-works : goal.returns-in-More-clause-works
returns-in-More-clause-works g c = λ met goes.
    let store = c.args.store.now in
    let now = c.compare_item-compared.new.store in
    let from = flown_from (g.S.Shelf.told c.args.shelf.now) (repo_view c.args.source.now) c.args.self.now in
    let name = c.args.self.now.named.name in
    let a = g.D.Shelf.told c.args.depot.now in
    let b = g.D.Shelf.told c.compare_item-compared.new.depot in
    let n = g.D.Shelf.faults c.args.depot.now in
    let m = g.D.Shelf.faults c.compare_item-compared.new.depot in
    let compared = c.in_ok-compared.field-0 in
    let read = c.compare_item-compared.ensures.both.target.read in
    let at = border_behind AtBegin [] in
    let works = c.in_ok-compared.ensures.works from.most in
    record {
      flies = flies_as {T = Compared} [] from name [] [] store now a b n m compared More refl
          (carried_from {T = Compared} {U = Compared} [] from (name ∷ []) store now [] a b n m compared compared c.requires.both.target.accepts
          (read_rest store now read) works);
      begins = begins_there a from (repo_view store.repo).keys (accepted_in store) name
          (there_accepted store name c.requires.both.target.accepts goes.there);
      stands = stands_within at from.most store [] a b works.works.each;
      last = tt;
      held = tt;
      fills = tt;
      lists = (
        record {
          stands = record {
            options = c.requires.flight.options;
            named = subst (λ (r : RepoState). archive_named name r.manifest.archives ≡ Some c.args.self.now.named) (sym
                c.compare_item-compared.ensures.both.source.kept)
                c.requires.flight.named;
            uncounted = c.requires.flight.uncounted;
          };
          added = [];
          work = subst (WorkFits (seen (g.S.Shelf.told c.compare_item-compared.new.shelf) (repo_view c.compare_item-compared.new.source)) b now
              (met_behind (comparison_view c.args.comparison).other met (seen b (repo_view now.repo))) c.args.self.now.named c.args.self.now.options
              []) (sym c.renew.ensures) (
                record {
                  fits = record {
                    comparison = c.in_ok-compared.ensures.comparison met goes.comparison (ap Ok c.in-More.is);
                    same_name = c.compare_item-compared.ensures.name ∙ goes.same_name;
                  };
                  there = subst (λ (r : RepoState). IsSome (archive_named name r.manifest.archives)) (sym read.repo) goes.there;
                },
                refl,
              );
          matched = subst (WaitsMatched (g.S.Shelf.told c.compare_item-compared.new.shelf) (repo_view c.compare_item-compared.new.source) b
              (repo_view now.repo) c.args.self.now.matches) (sym c.renew.ensures) tt;
        },
        refl,
      );
      few = begun_as {T = Compared} {U = Turn} 0 0 store now compared More (omega arith) works.few;
    }

pub returns-in-Equal-clause-works : goal.returns-in-Equal-clause-works
returns-in-Equal-clause-works g c = λ met goes.
    let store = c.args.store.now in
    let middle = c.compare_item-compared.new.store in
    let now = c.present.new.store in
    let from = flown_from (g.S.Shelf.told c.args.shelf.now) (repo_view c.args.source.now) c.args.self.now in
    let name = c.args.self.now.named.name in
    let a = g.D.Shelf.told c.args.depot.now in
    let b = g.D.Shelf.told c.compare_item-compared.new.depot in
    let d = g.D.Shelf.told c.present.new.depot in
    let n = g.D.Shelf.faults c.args.depot.now in
    let m = g.D.Shelf.faults c.compare_item-compared.new.depot in
    let k = g.D.Shelf.faults c.present.new.depot in
    let rest = read_rest store middle c.compare_item-compared.ensures.both.target.read in
    let same : IsSame from b (repo_view middle.repo) name =
    subst (IsSame from b (repo_view middle.repo)) goes.same_name
    ((c.in_ok-compared.ensures.found met goes.comparison).equal (ap Ok c.in-Equal.is) from.block from.most from.time) in
    let compared = c.in_ok-compared.field-0 in
    let works = c.in_ok-compared.ensures.works from.most in
    let ends = c.present.ensures.works from.most in
    let uncounted : c.let_go.new.self.put ≡ nothing_carried =
    ap (λ (f : Flight). f.put) c.let_go.ensures.others ∙ c.requires.flight.uncounted in
    let apart = targets_apart {T = Turn} c.present.result c.present.ensures.target.refusal.target in
    record {
      flies = present_flies {T = Compared} from name store middle now a b d n m k compared c.present.result c.requires.both.target.accepts
          (rest_accepts store middle rest c.requires.both.target.accepts) rest c.present.ensures.target.rest c.present.ensures.pending
          c.present.ensures.present
          (rest_there store middle name rest goes.there) same works ends;
      begins = begins_there a from (repo_view store.repo).keys (accepted_in store) name
          (there_accepted store name c.requires.both.target.accepts goes.there);
      stands = present_stands {T = Compared} from.most store middle a b d n m compared c.present.result rest.keys works ends.each;
      last = told_unbroken {T = Turn} a (repo_view store.repo).keys [] c.present.result (spent_chunk {T = Turn} c.present.result c.present.ensures.spent);
      held = held_spent {T = Turn} (border_behind AtBegin []) from.most store now [] a d c.present.result c.present.ensures.spent;
      fills = filled_apart {T = Turn} a from (repo_view store.repo).keys (accepted_in store) name [] c.present.result apart;
      lists = turn_present (g.S.Shelf.told c.compare_item-compared.new.shelf) (repo_view c.compare_item-compared.new.source) d now _ _ a from
          (repo_view store.repo).keys c.present.result uncounted c.present.ensures.present;
      few = present_few store now c.present.result c.present.ensures.present
          (begun_then {T = Compared} {U = Turn} 0 1 2 store middle now (Ok compared) c.present.result (omega arith) works.few c.present.ensures.few);
    }

pub returns-in_err-compared-clause-works : goal.returns-in_err-compared-clause-works
returns-in_err-compared-clause-works g c = λ met goes.
    let store = c.args.store.now in
    let now = c.compare_item-compared.new.store in
    let from = flown_from (g.S.Shelf.told c.args.shelf.now) (repo_view c.args.source.now) c.args.self.now in
    let name = c.args.self.now.named.name in
    let a = g.D.Shelf.told c.args.depot.now in
    let b = g.D.Shelf.told c.compare_item-compared.new.depot in
    let n = g.D.Shelf.faults c.args.depot.now in
    let m = g.D.Shelf.faults c.compare_item-compared.new.depot in
    let fault = c.in_err-compared.field-0.0 in
    let at = border_behind AtBegin [] in
    let works = c.in_err-compared.ensures.works from.most in
    turned_err _ _ from name [] [] [] store now _ _ a b n m c.from_residual.result fault c.from_residual.ensures.1 (record {
      flies = flies_fault {T = Compared} [] from name store now [] a b n m fault c.requires.both.target.accepts works;
      begins = begins_there a from (repo_view store.repo).keys (accepted_in store) name
          (there_accepted store name c.requires.both.target.accepts goes.there);
      stands = λ _. stands_within at from.most store [] a b works.works.each;
      last = works.last;
      held = held_within {T = Turn} at from.most store now [] a b (Err fault) works.held;
      fills = fills_there a from (repo_view store.repo).keys (accepted_in store) name fault
          (there_accepted store name c.requires.both.target.accepts goes.there);
      lists = tt;
      few = begun_same {T = Compared} {U = Turn} 0 2 store now fault (omega arith) works.few;
    })

pub returns-in-Differs-clause-works : goal.returns-in-Differs-clause-works
returns-in-Differs-clause-works g c = λ met goes.
    let store = c.args.store.now in
    let now = c.compare_item-compared.new.store in
    let from = flown_from (g.S.Shelf.told c.args.shelf.now) (repo_view c.args.source.now) c.args.self.now in
    let name = c.args.self.now.named.name in
    let a = g.D.Shelf.told c.args.depot.now in
    let b = g.D.Shelf.told c.compare_item-compared.new.depot in
    let n = g.D.Shelf.faults c.args.depot.now in
    let m = g.D.Shelf.faults c.compare_item-compared.new.depot in
    let at = border_behind AtBegin [] in
    let works = c.in_ok-compared.ensures.works from.most in
    let refused = gathered_fault {T = Compared} {U = Compared} from.most store now [] a b n m c.in_ok-compared.field-0 c.taken.result
    (taken_still c.taken.result c.as_slice.result.now c.taken.ensures.taken)
    (taken_unbroken c.taken.result c.as_slice.result.now c.taken.ensures.taken)
    (taken_unused c.taken.result c.as_slice.result.now c.taken.ensures.taken) works in
    record {
      flies = flies_fault {T = Compared} [] from name store now [] a b n m c.taken.result c.requires.both.target.accepts refused;
      begins = begins_there a from (repo_view store.repo).keys (accepted_in store) name
          (there_accepted store name c.requires.both.target.accepts goes.there);
      stands = λ _. stands_within at from.most store [] a b works.works.each;
      last = refused.last;
      held = held_within {T = Turn} at from.most store now [] a b (Err c.taken.result) refused.held;
      fills = fills_there a from (repo_view store.repo).keys (accepted_in store) name c.taken.result
          (there_accepted store name c.requires.both.target.accepts goes.there);
      lists = tt;
      few = begun_same {T = Compared} {U = Turn} 0 2 store now c.taken.result (omega arith) refused.few;
    }

pub returns-in-Differs-clause-refused : goal.returns-in-Differs-clause-refused
returns-in-Differs-clause-refused g c = λ met goes.
    record {
      refused =
          let store = c.args.store.now in
          let now = c.compare_item-compared.new.store in
          let from = flown_from (g.S.Shelf.told c.args.shelf.now) (repo_view c.args.source.now) c.args.self.now in
          let name = c.args.self.now.named.name in
          let a = g.D.Shelf.told c.args.depot.now in
          let b = g.D.Shelf.told c.compare_item-compared.new.depot in
          let read = c.compare_item-compared.ensures.both.target.read in
          let left = left_read from.most store b now read c.compare_item-compared.ensures.both.target.fits c.requires.both.target.unspent
          c.requires.both.target.pending in
          let then = met_behind (comparison_view c.args.comparison).other met (seen b (repo_view now.repo)) in
          let differs : DiffersThere from then.told then.repo name =
          subst (DiffersThere from then.told then.repo) goes.same_name
          ((c.in_ok-compared.ensures.found met goes.comparison).differs (ap Ok c.in-Differs.is) from.block from.most from.time) in
          taken_refused from a b store now then name c.as_slice.result.now c.taken.result c.taken.ensures.taken c.as_slice.ensures differs (record {
            usable = left_usable from.most store b now left c.requires.both.target.packable c.requires.both.target.accepts;
            there = subst (λ (r : RepoState). IsSome (archive_named name r.manifest.archives)) (sym read.repo) goes.there;
          });
      limit =
          let flight = c.args.self.now in
          taken_limit (g.D.Shelf.told c.compare_item-compared.new.depot) flight.options.timestamp (repo_view c.args.source.now) c.args.store.now flight.named
          c.as_slice.result.now c.taken.result c.taken.ensures.taken;
      left =
          let compared = c.compare_item-compared.ensures in
          λ _. left_read c.args.self.now.options.checkpoint c.args.store.now (g.D.Shelf.told c.compare_item-compared.new.depot)
          c.compare_item-compared.new.store compared.both.target.read compared.both.target.fits c.requires.both.target.unspent c.requires.both.target.pending;
    }

pub returns-in-Equal-clause-turn : goal.returns-in-Equal-clause-turn
returns-in-Equal-clause-turn g c = record {
  source = search rules;
  target =
      let store = c.args.store.now in
      let middle = c.compare_item-compared.new.store in
      let ends = c.present.ensures in
      let flight = c.args.self.now in
      let name : c.let_go.new.self.named.name ≡ flight.named.name = ap (λ (f : Flight). f.named.name) c.let_go.ensures.others in
      subst (λ (n : List ℕ). OnOk c.present.result (FliesOn flight.options.checkpoint n store (g.D.Shelf.told c.present.new.depot) c.present.new.store))
      (sym name)
      (flies_present {T = Turn} c.args.self.now.options.checkpoint c.args.self.now.named.name store middle (g.D.Shelf.told c.present.new.depot)
      c.present.new.store
      c.present.result (read_rest store middle c.compare_item-compared.ensures.both.target.read) c.requires.both.target.packable
      c.requires.both.target.accepts
      c.requires.both.target.committed ends.target.rest ends.target.fits ends.target.unspent ends.pending);
  turn = search rules;
}

pub returns-in-Equal-clause-refused : goal.returns-in-Equal-clause-refused
returns-in-Equal-clause-refused g c = λ met goes.
    stops_turn {T = Turn} _ _ _ _ _ _ _ c.present.result
    (let store = c.args.store.now in
    let middle = c.compare_item-compared.new.store in
    let from = flown_from (g.S.Shelf.told c.args.shelf.now) (repo_view c.args.source.now) c.args.self.now in
    pending_refused {T = Turn} from (g.D.Shelf.told c.args.depot.now) (g.D.Shelf.told c.present.new.depot) store c.present.new.store _
    (repo_view middle.repo).keys c.args.self.now.named.name c.present.result (ap (λ (r : RepoState). r.keys)
    c.compare_item-compared.ensures.both.target.read.repo)
    c.present.ensures.target.refusal.target c.present.ensures.target.stops)
    (let d = g.D.Shelf.told c.present.new.depot in
    let store = c.args.store.now in
    let flight = c.args.self.now in
    let given = flight.options.timestamp in
    let source = repo_view c.args.source.now in
    let keys = (repo_view c.compare_item-compared.new.store.repo).keys in
    IfErr-weaker c.present.result (StopsPieces d keys) (IsLimited d given source store flight.named)
    (λ fault stops. pieces_limit d keys given source store flight.named fault stops) c.present.ensures.target.stops)
    (targets_leave {T = Turn} c.args.self.now.options.checkpoint c.args.store.now (g.D.Shelf.told c.present.new.depot) c.present.new.store c.present.result
    c.present.ensures.target.refusal.target)

pub returns-in_err-compared-clause-refused : goal.returns-in_err-compared-clause-refused
returns-in_err-compared-clause-refused g c = λ met goes.
    stops_turn {T = Turn} _ _ _ _ _ _ _ c.from_residual.result
    (let store = c.args.store.now in
    let now = c.compare_item-compared.new.store in
    let told = g.S.Shelf.told c.args.shelf.now in
    let source = repo_view c.args.source.now in
    let block = c.args.self.now.options.block in
    let most = c.args.self.now.options.checkpoint in
    let name = c.args.self.now.named.name in
    let a = g.D.Shelf.told c.args.depot.now in
    let b = g.D.Shelf.told c.compare_item-compared.new.depot in
    let fault = c.in_err-compared.field-0.0 in
    let compared = c.compare_item-compared.ensures in
    let left = left_read most store b now compared.both.target.read compared.both.target.fits c.requires.both.target.unspent
    c.requires.both.target.pending in
    err_is c.from_residual.result fault (λ (r : Result Turn CarryFault). IfErr r (RefusesMet (origin told source block most
    c.args.self.now.options.timestamp)
    a store b now (met_behind (comparison_view c.args.comparison).other met (seen b (repo_view now.repo))) name))
    c.from_residual.ensures.1
    (comparing_refused told a b source block most c.args.self.now.options.timestamp name store now _ fault c.in_err-compared.ensures.both.target.stops
    (left_usable most store b now left c.requires.both.target.packable c.requires.both.target.accepts)
    (subst (λ (n : List ℕ). RefusesComparing told source n fault) goes.same_name c.in_err-compared.ensures.refused.refused)))
    (let b = g.D.Shelf.told c.compare_item-compared.new.depot in
    let store = c.args.store.now in
    let flight = c.args.self.now in
    let given = flight.options.timestamp in
    let source = repo_view c.args.source.now in
    let fault = c.in_err-compared.field-0.0 in
    err_is c.from_residual.result fault (λ (r : Result Turn CarryFault). IfErr r (IsLimited b given source store flight.named)) c.from_residual.ensures.1
    (pieces_limit b (repo_view store.repo).keys given source store flight.named fault c.in_err-compared.ensures.both.target.stops))
    (let store = c.args.store.now in
    let now = c.compare_item-compared.new.store in
    let b = g.D.Shelf.told c.compare_item-compared.new.depot in
    let most = c.args.self.now.options.checkpoint in
    let compared = c.compare_item-compared.ensures in
    err_is c.from_residual.result c.in_err-compared.field-0.0 (λ (r : Result Turn CarryFault). IfErr r (Leaves most store b now)) c.from_residual.ensures.1
    (λ _. left_read most store b now compared.both.target.read compared.both.target.fits c.requires.both.target.unspent c.requires.both.target.pending))

pub returns-in-Differs-clause-reads : goal.returns-in-Differs-clause-reads
returns-in-Differs-clause-reads g c =
    let a = g.D.Shelf.told c.args.depot.now in
    let b = g.D.Shelf.told c.compare_item-compared.new.depot in
    taken_reads (target_state a (g.D.Shelf.faults c.args.depot.now) c.args.store.now)
    (target_state b (g.D.Shelf.faults c.compare_item-compared.new.depot) c.compare_item-compared.new.store) c.as_slice.result.now c.taken.result
    c.taken.ensures.taken (record { told = c.in_ok-compared.ensures.same; repo = c.compare_item-compared.ensures.both.target.read.repo })

pub returns-in-Equal-clause-reads : goal.returns-in-Equal-clause-reads
returns-in-Equal-clause-reads g c =
    present_reads (target_state (g.D.Shelf.told c.args.depot.now) (g.D.Shelf.faults c.args.depot.now) c.args.store.now)
    (target_state (g.D.Shelf.told c.present.new.depot) (g.D.Shelf.faults c.present.new.depot) c.present.new.store) c.present.result
    c.present.ensures.present c.present.ensures.target.refusal.target

pub returns-in_err-compared-clause-reads : goal.returns-in_err-compared-clause-reads
returns-in_err-compared-clause-reads g c =
    let told = g.S.Shelf.told c.args.shelf.now in
    let to = target_state (g.D.Shelf.told c.args.depot.now) (g.D.Shelf.faults c.args.depot.now) c.args.store.now in
    let to_now = target_state (g.D.Shelf.told c.compare_item-compared.new.depot) (g.D.Shelf.faults c.compare_item-compared.new.depot)
    c.compare_item-compared.new.store in
    let fault = c.in_err-compared.field-0.0 in
    err_is c.from_residual.result fault (OnlyReads to to_now) c.from_residual.ensures.1
    (comparing_reads to to_now told (repo_view c.args.source.now) (comparison_view c.args.comparison).name fault c.in_err-compared.ensures.refused.refused)

pub returns-in-Equal-clause-matched : goal.returns-in-Equal-clause-matched
returns-in-Equal-clause-matched g c =
    let middle = c.compare_item-compared.new.store in
    let now = c.present.new.store in
    let pending : c.pending.result ≡ middle.pending = c.pending.ensures.pending in
    let was = (comparison_view c.compare_item-compared.new.comparison).matched in
    present_matched (g.S.Shelf.told c.compare_item-compared.new.shelf) (repo_view c.compare_item-compared.new.source)
    (g.D.Shelf.told c.compare_item-compared.new.depot) (g.D.Shelf.told c.present.new.depot) (repo_view middle.repo) (repo_view now.repo) middle.pending was
    (matched_in c.let_go.new.self.work) c.present.result c.in_ok-compared.ensures.matched
    (λ none. ap (λ (f : Flight). matched_in f.work) (c.let_go.ensures.kept (pending ∙ none)) ∙ ap matched_in c.renew.ensures)
    (λ some. c.let_go.ensures.gone (λ none. some (sym pending ∙ none)))
    (λ none. let still = c.present.ensures.still none in (ap (λ (s : Store). repo_view s.repo) still.0, ap g.D.Shelf.told still.1))
