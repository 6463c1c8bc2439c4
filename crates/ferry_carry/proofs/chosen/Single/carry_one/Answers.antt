use Rattle.std.proofs.Common.{rules, ◌≡◌, [], ◌∷◌, ℕ, List, false, Result, ap, IfErr, IfSome, OnOk, refl, sym, ◌∙◌, subst}
use Rattle.ferry_carry.proofs.AcceptingLemmas.{begin_small}
use Rattle.ferry_carry.proofs.GrowNamedLemmas.{accepts_on}
use Rattle.ferry_carry.proofs.HeldLemmas.{begin_apart}
use Rattle.ferry_carry.proofs.OverFlightLemmas.{flight_resumed}
use Rattle.ferry_carry.proofs.ReportNamesLemmas.{reports_as}
use Rattle.ferry_carry.proofs.ReportLemmas.{reports_nothing}
use Rattle.ferry_carry.proofs.TellLemmas.{begin_unbroken, begin_still, begin_unused}
use Rattle.ferry_piece.proofs.WorkLemmas.{err_is}
use Rattle.ferry_carry.proofs.chosen.Single.carry_one.Goals as goal
use Rattle.ferry_carry.specs.Accepting.{HasLargeNext}
use Rattle.ferry_carry.specs.Carrying.{Origin}
use Rattle.ferry_carry.specs.Flight.{FlightFits, flown_from, origin_of}
use Rattle.ferry_carry.specs.declared.flight.Flight.{Flight}
use Rattle.ferry_piece.specs.Fault.{IsOfWork}
use Rattle.ferry_carry.specs.Telling.{Reports, StopsUnnamed}
use Rattle.ferry_piece.specs.declared.fault.CarryFault.{CarryFault}
use Rattle.ferry_piece.specs.declared.fault.CarryFault.TheVariants.{Target}
use Rattle.ferry_compare.specs.Compare.{seen}
use Rattle.ferry_compare.specs.Matched.{AreMatched, Matched}
use Rattle.ferry_disk.specs.Moments.{Between}
use Rattle.ferry_repo.specs.Opening.{repo_view}
use Rattle.ferry_stops.specs.Tells.{TellsNothing}
use Rattle.ferry_store.proofs.StepLemmas.{here_each}
use Rattle.ferry_store.specs.Commit.{accepted_in}
use Rattle.ferry_store.specs.declared.fault.StoreRefusal.TheVariants.{TooLarge}
use Rattle.ferry_carry.specs.Refusals.{EndsAt, IsChunk, RefusesName, WhereTold, is_of_telling}
use Rattle.ferry_carry.proofs.ChunkLemmas.{no_chunk}
use Rattle.ferry_carry.proofs.StandLemmas.{unnamed_here}
use Rattle.ferry_carry.proofs.TurnLemmas.{stops_name}
use Rattle.ferry_carry.specs.States.{target_state, drawn_from}

pub returns-in_err-flight-clause-works : goal.returns-in_err-flight-clause-works
returns-in_err-flight-clause-works g c =
    let store = c.args.store.now in
    let a = g.D.Shelf.told c.args.depot.now in
    let n = g.D.Shelf.faults c.args.depot.now in
    let from = origin_of (g.S.Shelf.told c.args.shelf.now) (repo_view c.args.source.now) c.args.self.now.options.now in
    let names = c.args.self.now.name.now ∷ [] in
    let carried = c.args.carried.now in
    let x = g.E.Entropy.drawn c.args.entropy.now in
    let fault = c.in_err-flight.field-0.0 in
    err_is c.from_residual.result fault (λ (r : Result (Unit {0}) CarryFault). Reports from names (target_state a n store) (target_state a n store) carried
    carried (drawn_from x x) r)
    c.from_residual.ensures.1 (reports_nothing from names store carried carried a n x x fault (accepts_on store store c.requires.both.target.settled)
    (begin_still fault c.args.self.now.name.now _ c.in_err-flight.ensures.refused) (begin_unbroken fault c.args.self.now.name.now _
    c.in_err-flight.ensures.refused)
    (begin_apart fault c.args.self.now.name.now _ c.in_err-flight.ensures.refused) (begin_unused fault c.args.self.now.name.now _
    c.in_err-flight.ensures.refused))

pub complete-done-requires-clause-flight : goal.complete-done-requires-clause-flight
complete-done-requires-clause-flight g c =
    let told = g.S.Shelf.told c.args.shelf.now in
    let source = repo_view c.args.source.now in
    let a = g.D.Shelf.told c.args.depot.now in
    let store = c.args.store.now in
    let met = seen a (repo_view store.repo) in
    let taken : c.replace.result ≡ c.args.matches.now = search rules in
    subst (λ (flight : Flight). (fits : FlightFits told source a store met flight) × (fits.added ≡ [])) (sym c.resume.ensures.resumed)
    (flight_resumed told source a store met c.in_ok-flight.flight c.replace.result
    (subst (AreMatched told source a (repo_view store.repo)) (sym taken) c.requires.matched) (c.in_ok-flight.ensures.flight told a store met))

pub returns-clause-works : goal.returns-clause-works
returns-clause-works g c =
    let told = g.S.Shelf.told c.args.shelf.now in
    let source = repo_view c.args.source.now in
    let flight = c.resume.new.self in
    let is : flown_from told source flight ≡ origin_of told source c.args.self.now.options.now =
    ap (λ (f : Flight). origin_of told source f.options) c.resume.ensures.resumed ∙ ap (origin_of told source) c.in_ok-flight.ensures.options in
    let name : flight.named.name ≡ c.args.self.now.name.now =
    ap (λ (f : Flight). f.named.name) c.resume.ensures.resumed ∙ c.in_ok-flight.ensures.name in
    reports_as (origin_of told source c.args.self.now.options.now) (flown_from told source flight) (c.args.self.now.name.now ∷ [])
    (flight.named.name ∷ []) c.args.store.now c.complete-done.new.store c.args.carried.now c.complete-done.new.carried (g.D.Shelf.told
    c.args.depot.now)
    (g.D.Shelf.told c.complete-done.new.depot) (g.D.Shelf.faults c.args.depot.now) (g.D.Shelf.faults c.complete-done.new.depot)
    (g.E.Entropy.drawn c.args.entropy.now) (g.E.Entropy.drawn c.complete-done.new.entropy) c.complete-done.result is
    (ap (λ (n : List ℕ). n ∷ []) name) c.complete-done.ensures.works

pub returns-clause-refused : goal.returns-clause-refused
returns-clause-refused g c =
    let told = g.S.Shelf.told c.args.shelf.now in
    let source = repo_view c.args.source.now in
    let flight = c.resume.new.self in
    let a = g.D.Shelf.told c.args.depot.now in
    let b = g.D.Shelf.told c.complete-done.new.depot in
    let store = c.args.store.now in
    let now = c.complete-done.new.store in
    let is : flown_from told source flight ≡ origin_of told source c.args.self.now.options.now =
    ap (λ (f : Flight). origin_of told source f.options) c.resume.ensures.resumed ∙ ap (origin_of told source) c.in_ok-flight.ensures.options in
    let name : flight.named.name ≡ c.args.self.now.name.now =
    ap (λ (f : Flight). f.named.name) c.resume.ensures.resumed ∙ c.in_ok-flight.ensures.name in
    subst (λ (f : Origin). IfErr c.complete-done.result (RefusesName f a store b now c.args.self.now.name.now)) is
    (subst (λ (n : List ℕ). IfErr c.complete-done.result (RefusesName (flown_from told source flight) a store b now n)) name
    c.complete-done.ensures.refused)

pub returns-in_err-flight-clause-stops : goal.returns-in_err-flight-clause-stops
returns-in_err-flight-clause-stops g c =
    stops_name {T = Unit {0}} _ _ _ _ _ _ _ c.from_residual.result
    (let a = g.D.Shelf.told c.args.depot.now in
    let fault = c.in_err-flight.field-0.0 in
    err_is c.from_residual.result fault
    (λ (r : Result (Unit {0}) CarryFault). IfErr r (λ (f : CarryFault). is_of_telling f ≡ false → Between a a TellsNothing)) c.from_residual.ensures.1
    (λ still. here_each TellsNothing a (λ h. refl)))
    (let a = g.D.Shelf.told c.args.depot.now in
    let store = c.args.store.now in
    let source = repo_view c.args.source.now in
    let fault = c.in_err-flight.field-0.0 in
    let Large : Type 0 =
    IfSome a (λ _. HasLargeNext c.args.self.now.options.now.timestamp source.manifest (repo_view store.repo).keys (accepted_in store)
    c.args.self.now.name.now) in
    err_is c.from_residual.result fault (λ (r : Result (Unit {0}) CarryFault). IfErr r (λ (f : CarryFault). f ≡ Target TooLarge → Large))
    c.from_residual.ensures.1 (begin_small Large _ fault c.args.self.now.name.now c.in_err-flight.ensures.refused))
    (let a = g.D.Shelf.told c.args.depot.now in
    let store = c.args.store.now in
    let from = origin_of (g.S.Shelf.told c.args.shelf.now) (repo_view c.args.source.now) c.args.self.now.options.now in
    let x = g.E.Entropy.drawn c.args.entropy.now in
    let fault = c.in_err-flight.field-0.0 in
    err_is c.from_residual.result fault
    (λ (r : Result (Unit {0}) CarryFault). IfErr r (λ (f : CarryFault). (id : List ℕ) → IsChunk id f
    → WhereTold from a (λ _. EndsAt from (repo_view store.repo).keys (accepted_in store) [] c.args.self.now.name.now x x id))) c.from_residual.ensures.1
    (λ id is. no_chunk _ fault id (begin_unbroken fault c.args.self.now.name.now _ c.in_err-flight.ensures.refused) is))
    (let a = g.D.Shelf.told c.args.depot.now in
    let store = c.args.store.now in
    let from = origin_of (g.S.Shelf.told c.args.shelf.now) (repo_view c.args.source.now) c.args.self.now.options.now in
    let name = c.args.self.now.name.now in
    let fault = c.in_err-flight.field-0.0 in
    err_is c.from_residual.result fault (λ (r : Result (Unit {0}) CarryFault). IfErr r (λ (f : CarryFault). IsOfWork f → StopsUnnamed from name store a a))
    c.from_residual.ensures.1 (λ _. unnamed_here from name store a (accepts_on store store c.requires.both.target.settled)))

pub returns-clause-matched : goal.returns-clause-matched
returns-clause-matched g c =
    let taken : c.replace-2.new.dest ≡ c.take_matches.result = search rules in
    subst (λ (m : Matched). OnOk c.complete-done.result (AreMatched (g.S.Shelf.told c.complete-done.new.shelf) (repo_view c.complete-done.new.source)
    (g.D.Shelf.told c.complete-done.new.depot) (repo_view c.complete-done.new.store.repo) m)) (sym (taken ∙ c.take_matches.ensures.matches))
    c.complete-done.ensures.matched
