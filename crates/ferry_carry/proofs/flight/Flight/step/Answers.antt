use Rattle.std.proofs.Common.{rules, ◌≡◌, [], List, IfErr, sym, subst}
use Rattle.ferry_carry.proofs.OverFlightLemmas.{ended_matched, waits_with}
use Rattle.ferry_carry.proofs.TagLemmas.{unnamed_all}
use Rattle.ferry_carry.proofs.flight.Flight.step.Goals as goal
use Rattle.ferry_carry.specs.Flight.{TakesTurn, WorkFits, archive_adds, flown_from, matched_in, met_by}
use Rattle.ferry_carry.specs.States.{target_state}
use Rattle.ferry_carry.specs.Turns.{ReadsWhere, StopsTurn}
use Rattle.ferry_carry.specs.declared.flight.Work.{Work}
use Rattle.ferry_carry.specs.declared.flight.Work.TheVariants.{Waiting, Copying, Comparing}
use Rattle.ferry_compare.specs.Compare.{seen}
use Rattle.ferry_piece.specs.Puts.{Addition}
use Rattle.ferry_repo.specs.Opening.{repo_view}

pub returns-in-Waiting-clause-works : goal.returns-in-Waiting-clause-works
returns-in-Waiting-clause-works g c = λ met fits.
    let told = g.S.Shelf.told c.args.shelf.now in
    let source = repo_view c.args.source.now in
    let a = g.D.Shelf.told c.args.depot.now in
    let store = c.args.store.now in
    let flight = c.args.self.now in
    let from = flown_from told source flight in
    let b = g.D.Shelf.told c.take_first.new.depot in
    let now = c.take_first.new.store in
    let is : flight.work ≡ Waiting = search rules in
    let taken = c.take_first.ensures.works in
    let none : fits.added ≡ [] = subst (WorkFits (seen told source) a store met flight.named flight.options fits.added) is fits.work in (
      taken.0,
      (
        taken.1.0,
        (
          subst (λ (w : Work). TakesTurn (seen (g.S.Shelf.told c.take_first.new.shelf) (repo_view c.take_first.new.source)) from
              (archive_adds flight.named.name fits.added taken.0 taken.1.0)
              (target_state a (g.D.Shelf.faults c.args.depot.now) store) (target_state b (g.D.Shelf.faults c.take_first.new.depot) now)
              (met_by w met (seen b (repo_view now.repo))) c.take_first.new.self c.take_first.result) (sym is)
              (subst (λ (l : List Addition). TakesTurn (seen (g.S.Shelf.told c.take_first.new.shelf) (repo_view c.take_first.new.source)) from
              (archive_adds flight.named.name l taken.0 taken.1.0)
              (target_state a (g.D.Shelf.faults c.args.depot.now) store) (target_state b (g.D.Shelf.faults c.take_first.new.depot) now)
              (seen b (repo_view now.repo)) c.take_first.new.self c.take_first.result) (sym none) taken.1.1.0),
          taken.1.1.1,
        ),
      ),
    )

pub copy-requires-clause-copy : goal.copy-requires-clause-copy
copy-requires-clause-copy g c =
    let met = c.requires.flight.0 in
    let fits = c.requires.flight.1 in
    let flight = c.args.self.now in
    let is : flight.work ≡ Copying c.in-Copying.copy = search rules in
    let work = subst (WorkFits (seen (g.S.Shelf.told c.args.shelf.now) (repo_view c.args.source.now)) (g.D.Shelf.told c.args.depot.now) c.args.store.now met
    flight.named flight.options fits.added) is fits.work in
    (fits.added, work)

pub returns-in-Copying-clause-works : goal.returns-in-Copying-clause-works
returns-in-Copying-clause-works g c = λ met fits.
    let told = g.S.Shelf.told c.args.shelf.now in
    let source = repo_view c.args.source.now in
    let a = g.D.Shelf.told c.args.depot.now in
    let store = c.args.store.now in
    let flight = c.args.self.now in
    let from = flown_from told source flight in
    let b = g.D.Shelf.told c.copy.new.depot in
    let now = c.copy.new.store in
    let is : flight.work ≡ Copying c.in-Copying.copy = search rules in
    let work = subst (WorkFits (seen told source) a store met flight.named flight.options fits.added) is fits.work in
    let copied = c.copy.ensures.works fits.added work.copied in (
      copied.0,
      (
        copied.1.0,
        (
          subst (λ (w : Work). TakesTurn (seen (g.S.Shelf.told c.copy.new.shelf) (repo_view c.copy.new.source)) from
              (archive_adds flight.named.name fits.added copied.0 copied.1.0)
              (target_state a (g.D.Shelf.faults c.args.depot.now) store) (target_state b (g.D.Shelf.faults c.copy.new.depot) now)
              (met_by w met (seen b (repo_view now.repo))) c.copy.new.self c.copy.result) (sym is) copied.1.1.0,
          copied.1.1.1,
        ),
      ),
    )

pub compare-requires-clause-comparison : goal.compare-requires-clause-comparison
compare-requires-clause-comparison g c =
    let met = c.requires.flight.0 in
    let fits = c.requires.flight.1 in
    let flight = c.args.self.now in
    let is : flight.work ≡ Comparing c.in-Comparing.comparison = search rules in
    let work = subst (WorkFits (seen (g.S.Shelf.told c.args.shelf.now) (repo_view c.args.source.now)) (g.D.Shelf.told c.args.depot.now) c.args.store.now met
    flight.named flight.options fits.added) is fits.work in
    (met, work.0)

pub returns-in-Comparing-clause-works : goal.returns-in-Comparing-clause-works
returns-in-Comparing-clause-works g c = λ met fits.
    let told = g.S.Shelf.told c.args.shelf.now in
    let source = repo_view c.args.source.now in
    let a = g.D.Shelf.told c.args.depot.now in
    let store = c.args.store.now in
    let flight = c.args.self.now in
    let from = flown_from told source flight in
    let b = g.D.Shelf.told c.compare.new.depot in
    let now = c.compare.new.store in
    let is : flight.work ≡ Comparing c.in-Comparing.comparison = search rules in
    let work = subst (WorkFits (seen told source) a store met flight.named flight.options fits.added) is fits.work in (
      [],
      (
        [],
        (
          subst (λ (w : Work). TakesTurn (seen (g.S.Shelf.told c.compare.new.shelf) (repo_view c.compare.new.source)) from
              (archive_adds flight.named.name fits.added [] [])
              (target_state a (g.D.Shelf.faults c.args.depot.now) store) (target_state b (g.D.Shelf.faults c.compare.new.depot) now)
              (met_by w met (seen b (repo_view now.repo))) c.compare.new.self c.compare.result) (sym is)
              (subst (λ (l : List Addition). TakesTurn (seen (g.S.Shelf.told c.compare.new.shelf) (repo_view c.compare.new.source)) from
              (archive_adds flight.named.name l [] [])
              (target_state a (g.D.Shelf.faults c.args.depot.now) store) (target_state b (g.D.Shelf.faults c.compare.new.depot) now)
              (met_by (Comparing c.in-Comparing.comparison) met (seen b (repo_view now.repo))) c.compare.new.self c.compare.result) (sym work.1)
              (c.compare.ensures.works met work.0)),
          unnamed_all _ (repo_view store.repo).keys (g.E.Entropy.drawn c.args.entropy.now) c.compare.result c.compare.ensures.only.unnamed,
        ),
      ),
    )

pub returns-in-Waiting-clause-refused : goal.returns-in-Waiting-clause-refused
returns-in-Waiting-clause-refused g c = λ met fits.
    let told = g.S.Shelf.told c.args.shelf.now in
    let source = repo_view c.args.source.now in
    let a = g.D.Shelf.told c.args.depot.now in
    let store = c.args.store.now in
    let flight = c.args.self.now in
    let from = flown_from told source flight in
    let b = g.D.Shelf.told c.take_first.new.depot in
    let now = c.take_first.new.store in
    let is : flight.work ≡ Waiting = search rules in
    subst (λ (w : Work). IfErr c.take_first.result (StopsTurn from a store b now (met_by w met (seen b (repo_view now.repo))) flight.named)) (sym is)
    c.take_first.ensures.refused

pub returns-in-Copying-clause-refused : goal.returns-in-Copying-clause-refused
returns-in-Copying-clause-refused g c = λ met fits.
    let told = g.S.Shelf.told c.args.shelf.now in
    let source = repo_view c.args.source.now in
    let a = g.D.Shelf.told c.args.depot.now in
    let store = c.args.store.now in
    let flight = c.args.self.now in
    let from = flown_from told source flight in
    let b = g.D.Shelf.told c.copy.new.depot in
    let now = c.copy.new.store in
    let is : flight.work ≡ Copying c.in-Copying.copy = search rules in
    subst (λ (w : Work). IfErr c.copy.result (StopsTurn from a store b now (met_by w met (seen b (repo_view now.repo))) flight.named)) (sym is)
    c.copy.ensures.refused

pub returns-in-Comparing-clause-refused : goal.returns-in-Comparing-clause-refused
returns-in-Comparing-clause-refused g c = λ met fits.
    let told = g.S.Shelf.told c.args.shelf.now in
    let source = repo_view c.args.source.now in
    let a = g.D.Shelf.told c.args.depot.now in
    let store = c.args.store.now in
    let flight = c.args.self.now in
    let from = flown_from told source flight in
    let b = g.D.Shelf.told c.compare.new.depot in
    let now = c.compare.new.store in
    let is : flight.work ≡ Comparing c.in-Comparing.comparison = search rules in
    let work = subst (WorkFits (seen told source) a store met flight.named flight.options fits.added) is fits.work in
    subst (λ (w : Work). IfErr c.compare.result (StopsTurn from a store b now (met_by w met (seen b (repo_view now.repo))) flight.named)) (sym is)
    (c.compare.ensures.refused met work.0)

pub returns-in-Waiting-clause-reads : goal.returns-in-Waiting-clause-reads
returns-in-Waiting-clause-reads g c =
    let flight = c.args.self.now in
    let is : flight.work ≡ Waiting = search rules in
    subst (λ (w : Work). ReadsWhere w (target_state (g.D.Shelf.told c.args.depot.now) (g.D.Shelf.faults c.args.depot.now) c.args.store.now)
    (target_state (g.D.Shelf.told c.take_first.new.depot) (g.D.Shelf.faults c.take_first.new.depot) c.take_first.new.store) c.take_first.result) (sym is)
    tt

pub returns-in-Copying-clause-reads : goal.returns-in-Copying-clause-reads
returns-in-Copying-clause-reads g c =
    let flight = c.args.self.now in
    let is : flight.work ≡ Copying c.in-Copying.copy = search rules in
    subst (λ (w : Work). ReadsWhere w (target_state (g.D.Shelf.told c.args.depot.now) (g.D.Shelf.faults c.args.depot.now) c.args.store.now)
    (target_state (g.D.Shelf.told c.copy.new.depot) (g.D.Shelf.faults c.copy.new.depot) c.copy.new.store) c.copy.result) (sym is)
    tt

pub returns-in-Comparing-clause-reads : goal.returns-in-Comparing-clause-reads
returns-in-Comparing-clause-reads g c =
    let flight = c.args.self.now in
    let is : flight.work ≡ Comparing c.in-Comparing.comparison = search rules in
    subst (λ (w : Work). ReadsWhere w (target_state (g.D.Shelf.told c.args.depot.now) (g.D.Shelf.faults c.args.depot.now) c.args.store.now)
    (target_state (g.D.Shelf.told c.compare.new.depot) (g.D.Shelf.faults c.compare.new.depot) c.compare.new.store) c.compare.result) (sym is)
    c.compare.ensures.reads

pub take_first-requires-clause-matched : goal.take_first-requires-clause-matched
take_first-requires-clause-matched g c =
    let told = g.S.Shelf.told c.args.shelf.now in
    let source = repo_view c.args.source.now in
    let a = g.D.Shelf.told c.args.depot.now in
    let is : c.args.self.now.work ≡ Waiting = search rules in
    waits_with told source a c.args.store.now c.requires.flight.0 c.args.self.now is c.requires.flight.1

pub returns-in-Copying-clause-matched : goal.returns-in-Copying-clause-matched
returns-in-Copying-clause-matched g c =
    ended_matched (g.S.Shelf.told c.copy.new.shelf) (repo_view c.copy.new.source) (g.D.Shelf.told c.copy.new.depot) (repo_view c.copy.new.store.repo)
    (matched_in c.copy.new.self.work) c.copy.result c.copy.ensures.matched
