use Rattle.std.proofs.Common.{◌∙◌, ap, ◌≡◌, ◌⊎◌, ◌++◌, ℕ, List, [], ◌∷◌, Bool, false, Result, Ok, Err, IfErr, subst, sym, IfSome}
use Rattle.ferry_carry.proofs.AcceptingLemmas.{telling_small}
use Rattle.ferry_carry.proofs.FlownLemmas.{takes_begin}
use Rattle.ferry_carry.proofs.GrowNamedLemmas.{accepts_on}
use Rattle.ferry_piece.proofs.AddingLemmas.{target_apart}
use Rattle.ferry_carry.proofs.CountingLemmas.{counts_one}
use Rattle.ferry_carry.proofs.HeldLemmas.{telling_spent}
use Rattle.ferry_carry.proofs.NamesLemmas.{all_one}
use Rattle.ferry_carry.proofs.ReportLemmas.{reports_name, reports_silent, telling_unbroken}
use Rattle.ferry_piece.proofs.WorkLemmas.{err_is}
use Rattle.ferry_carry.proofs.flight.Flight.complete.Goals as goal
use Rattle.ferry_carry.proofs.OverFlightLemmas.{matched_behind}
use Rattle.ferry_carry.specs.Flight.{flown_from, matched_in}
use Rattle.ferry_carry.specs.Lines.{name_line, told_of}
use Rattle.ferry_carry.specs.Grow.{KeepsGrowing}
use Rattle.ferry_carry.specs.Refusals.{EndsAt, IsChunk, WhereTold, is_of_telling}
use Rattle.ferry_carry.specs.Naming.{TagsDrawn}
use Rattle.ferry_carry.proofs.ChunkLemmas.{ends_at, no_chunk}
use Rattle.ferry_piece.specs.Adding.{IsNoChunk}
use Rattle.ferry_piece.specs.Puts.{Addition}
use Rattle.ferry_carry.specs.Accepting.{HasLargeNext}
use Rattle.ferry_carry.specs.Telling.{Reports, StopsUnnamed}
use Rattle.ferry_piece.specs.declared.fault.CarryFault.{CarryFault}
use Rattle.ferry_piece.specs.declared.fault.CarryFault.TheVariants.{Target}
use Rattle.ferry_disk.proofs.MomentLemmas.{between_map}
use Rattle.ferry_disk.specs.Moments.{Between}
use Rattle.ferry_manifest.specs.declared.manifest.ArchiveRef.{ArchiveRef}
use Rattle.ferry_repo.specs.Opening.{repo_view}
use Rattle.ferry_stops.specs.Tells.{TellsNothing}
use Rattle.ferry_store.specs.Commit.{accepted_in}
use Rattle.ferry_store.specs.declared.fault.StoreRefusal.TheVariants.{TooLarge}
use Rattle.ferry_carry.proofs.StandLemmas.{telling_apart}
use Rattle.ferry_carry.specs.Counting.{CountsOf}
use Rattle.ferry_piece.specs.Fault.{IsOfWork}
use Rattle.ferry_carry.proofs.TurnLemmas.{stops_name}
use Rattle.ferry_carry.specs.States.{target_state, drawn_from}

pub returns-in_err-named-clause-works : goal.returns-in_err-named-clause-works
returns-in_err-named-clause-works g c =
    let store = c.args.store.now in
    let now = c.fly.new.store in
    let a = g.D.Shelf.told c.args.depot.now in
    let b = g.D.Shelf.told c.fly.new.depot in
    let n = g.D.Shelf.faults c.args.depot.now in
    let m = g.D.Shelf.faults c.fly.new.depot in
    let from = flown_from (g.S.Shelf.told c.args.shelf.now) (repo_view c.args.source.now) c.args.self.now in
    let name = c.args.self.now.named.name in
    let carried = c.args.carried.now in
    let x = g.E.Entropy.drawn c.args.entropy.now in
    let z = g.E.Entropy.drawn c.fly.new.entropy in
    let fault = c.in_err-named.field-0.0 in
    let flown = c.in_err-named.ensures.works c.requires.flight.0 in
    err_is c.from_residual.result fault (λ (r : Result (Unit {0}) CarryFault). Reports from (name ∷ []) (target_state a n store) (target_state b m now)
    carried carried (drawn_from x z) r)
    c.from_residual.ensures.1 (reports_silent from name flown.0 store now _ carried carried a b n m x z flown.1.0 fault
    (takes_begin from name _ flown.0 flown.1.0 store now c.fly.new.flight a b n m (Err fault) c.requires.flight.1 flown.1.1.0))

pub returns-in_err-tell_name-clause-works : goal.returns-in_err-tell_name-clause-works
returns-in_err-tell_name-clause-works g c =
    let store = c.args.store.now in
    let now = c.fly.new.store in
    let a = g.D.Shelf.told c.args.depot.now in
    let b = g.D.Shelf.told c.fly.new.depot in
    let d = g.D.Shelf.told c.tell_name.new.depot in
    let n = g.D.Shelf.faults c.args.depot.now in
    let m = g.D.Shelf.faults c.fly.new.depot in
    let k = g.D.Shelf.faults c.tell_name.new.depot in
    let from = flown_from (g.S.Shelf.told c.args.shelf.now) (repo_view c.args.source.now) c.args.self.now in
    let name = c.args.self.now.named.name in
    let carried = c.args.carried.now in
    let x = g.E.Entropy.drawn c.args.entropy.now in
    let z = g.E.Entropy.drawn c.fly.new.entropy in
    let fault = c.in_err-tell_name.field-0.0 in
    let ensures = c.in_ok-named.ensures in
    let named = c.in_ok-named.named in
    let flown = ensures.works c.requires.flight.0 in
    let all = takes_begin from name _ flown.0 flown.1.0 store now c.fly.new.flight a b n m (Ok named) c.requires.flight.1 flown.1.1.0 in
    err_is c.from_residual-in_err-tell_name.result fault
    (λ (r : Result (Unit {0}) CarryFault). Reports from (name ∷ []) (target_state a n store) (target_state d k now) carried carried (drawn_from x z) r)
    c.from_residual-in_err-tell_name.ensures.1
    (reports_name {T = Bool} from named name c.name.result.now flown.1.0 flown.0 store now carried carried a b d n m k x z named (Err fault)
    (c.name.ensures ∙ ap (λ (e : ArchiveRef). e.name) ensures.name)
    (accepts_on now now ensures.both.target.settled) ensures.word all.lists.0 all.begins tt tt (telling_spent fault c.in_err-tell_name.ensures.target.telling)
    (target_apart fault c.in_err-tell_name.ensures.target.refusal.target) c.in_err-tell_name.ensures.target.telling all.few all.carries
    c.in_err-tell_name.ensures.works)

pub returns-clause-works : goal.returns-clause-works
returns-clause-works g c =
    let store = c.args.store.now in
    let now = c.fly.new.store in
    let a = g.D.Shelf.told c.args.depot.now in
    let b = g.D.Shelf.told c.fly.new.depot in
    let d = g.D.Shelf.told c.tell_name.new.depot in
    let n = g.D.Shelf.faults c.args.depot.now in
    let m = g.D.Shelf.faults c.fly.new.depot in
    let k = g.D.Shelf.faults c.tell_name.new.depot in
    let from = flown_from (g.S.Shelf.told c.args.shelf.now) (repo_view c.args.source.now) c.args.self.now in
    let name = c.args.self.now.named.name in
    let carried = c.args.carried.now in
    let x = g.E.Entropy.drawn c.args.entropy.now in
    let z = g.E.Entropy.drawn c.fly.new.entropy in
    let after = c.count.new.self in
    let ensures = c.in_ok-named.ensures in
    let named = c.in_ok-named.named in
    let flown = ensures.works c.requires.flight.0 in
    let all = takes_begin from name _ flown.0 flown.1.0 store now c.fly.new.flight a b n m (Ok named) c.requires.flight.1 flown.1.1.0 in
    let put : c.put.result ≡ c.fly.new.flight.put = c.put.ensures in
    let counted = c.count.ensures in
    reports_name {T = Bool} from named name c.name.result.now flown.1.0 flown.0 store now carried after a b d n m k x z named (Ok tt) (c.name.ensures ∙ ap
    (λ (e : ArchiveRef). e.name) ensures.name)
    (accepts_on now now ensures.both.target.settled) ensures.word all.lists.0 all.begins flown.1.1.1
    (counts_one (accepted_in store) name flown.0 named c.put.result carried after ensures.word (subst (CountsOf flown.0) (sym put) all.lists.1)
    counted.transferred counted.present counted.chunks counted.bytes counted.meta) tt tt tt all.few all.carries c.in_ok-tell_name.ensures.works

pub returns-in_err-tell_name-clause-stops : goal.returns-in_err-tell_name-clause-stops
returns-in_err-tell_name-clause-stops g c =
    stops_name {T = Unit {0}} _ _ _ _ _ _ _ c.from_residual-in_err-tell_name.result
    (let a = g.D.Shelf.told c.args.depot.now in
    let d = g.D.Shelf.told c.tell_name.new.depot in
    let fault = c.in_err-tell_name.field-0.0 in
    err_is c.from_residual-in_err-tell_name.result fault
    (λ (r : Result (Unit {0}) CarryFault). IfErr r (λ (f : CarryFault). is_of_telling f ≡ false → Between a d TellsNothing))
    c.from_residual-in_err-tell_name.ensures.1
    (λ still. absurd (let telling = c.in_err-tell_name.ensures.target.telling in let no : ⊥ = cc in no)))
    (let flight = c.args.self.now in
    let store = c.args.store.now in
    let source = repo_view c.args.source.now in
    let d = g.D.Shelf.told c.tell_name.new.depot in
    let fault = c.in_err-tell_name.field-0.0 in
    let Large : Type 0 =
    IfSome d (λ _. HasLargeNext flight.options.timestamp source.manifest (repo_view store.repo).keys (accepted_in store) flight.named.name) in
    err_is c.from_residual-in_err-tell_name.result fault
    (λ (r : Result (Unit {0}) CarryFault). IfErr r (λ (f : CarryFault). f ≡ Target TooLarge → Large)) c.from_residual-in_err-tell_name.ensures.1
    (telling_small Large fault c.in_err-tell_name.ensures.target.telling))
    (let store = c.args.store.now in
    let a = g.D.Shelf.told c.args.depot.now in
    let from = flown_from (g.S.Shelf.told c.args.shelf.now) (repo_view c.args.source.now) c.args.self.now in
    let name = c.args.self.now.named.name in
    let x = g.E.Entropy.drawn c.args.entropy.now in
    let z = g.E.Entropy.drawn c.fly.new.entropy in
    let keys = (repo_view store.repo).keys in
    let fault = c.in_err-tell_name.field-0.0 in
    err_is c.from_residual-in_err-tell_name.result fault
    (λ (r : Result (Unit {0}) CarryFault). IfErr r (λ (f : CarryFault). (id : List ℕ) → IsChunk id f
    → WhereTold from a (λ _. EndsAt from keys (accepted_in store) [] name x z id))) c.from_residual-in_err-tell_name.ensures.1
    (λ id is. no_chunk _ fault id (telling_unbroken fault c.in_err-tell_name.ensures.target.telling) is))
    (let a = g.D.Shelf.told c.args.depot.now in
    let d = g.D.Shelf.told c.tell_name.new.depot in
    let from = flown_from (g.S.Shelf.told c.args.shelf.now) (repo_view c.args.source.now) c.args.self.now in
    let fault = c.in_err-tell_name.field-0.0 in
    err_is c.from_residual-in_err-tell_name.result fault
    (λ (r : Result (Unit {0}) CarryFault). IfErr r (λ (f : CarryFault). IsOfWork f
    → StopsUnnamed from c.args.self.now.named.name c.args.store.now a d)) c.from_residual-in_err-tell_name.ensures.1
    (λ work. telling_apart fault c.in_err-tell_name.ensures.target.telling work))

pub returns-in_err-named-clause-stops : goal.returns-in_err-named-clause-stops
returns-in_err-named-clause-stops g c =
    stops_name {T = Unit {0}} _ _ _ _ _ _ _ c.from_residual.result
    (let a = g.D.Shelf.told c.args.depot.now in
    let b = g.D.Shelf.told c.fly.new.depot in
    let from = flown_from (g.S.Shelf.told c.args.shelf.now) (repo_view c.args.source.now) c.args.self.now in
    let fault = c.in_err-named.field-0.0 in
    let flown = c.in_err-named.ensures.works c.requires.flight.0 in
    err_is c.from_residual.result fault
    (λ (r : Result (Unit {0}) CarryFault). IfErr r (λ (f : CarryFault). is_of_telling f ≡ false → Between a b TellsNothing)) c.from_residual.ensures.1
    (λ still. between_map a b
    (KeepsGrowing c.requires.flight.0.added from (c.args.self.now.named.name ∷ []) c.args.store.now flown.0) TellsNothing (λ h g e. e.0)
    flown.1.1.0.carries.each))
    (let flight = c.args.self.now in
    let store = c.args.store.now in
    let source = repo_view c.args.source.now in
    let b = g.D.Shelf.told c.fly.new.depot in
    let fault = c.in_err-named.field-0.0 in
    let Large : Type 0 =
    IfSome b (λ _. HasLargeNext flight.options.timestamp source.manifest (repo_view store.repo).keys (accepted_in store) flight.named.name) in
    err_is c.from_residual.result fault (λ (r : Result (Unit {0}) CarryFault). IfErr r (λ (f : CarryFault). f ≡ Target TooLarge → Large))
    c.from_residual.ensures.1 c.in_err-named.ensures.refused.limit)
    (let store = c.args.store.now in
    let now = c.fly.new.store in
    let a = g.D.Shelf.told c.args.depot.now in
    let b = g.D.Shelf.told c.fly.new.depot in
    let n = g.D.Shelf.faults c.args.depot.now in
    let m = g.D.Shelf.faults c.fly.new.depot in
    let from = flown_from (g.S.Shelf.told c.args.shelf.now) (repo_view c.args.source.now) c.args.self.now in
    let name = c.args.self.now.named.name in
    let x = g.E.Entropy.drawn c.args.entropy.now in
    let z = g.E.Entropy.drawn c.fly.new.entropy in
    let keys = (repo_view store.repo).keys in
    let fault = c.in_err-named.field-0.0 in
    let flown = c.in_err-named.ensures.works c.requires.flight.0 in
    let all = takes_begin from name _ flown.0 flown.1.0 store now c.fly.new.flight a b n m (Err fault) c.requires.flight.1 flown.1.1.0 in
    let tags : IsNoChunk fault ⊎ WhereTold from a (λ _. TagsDrawn keys flown.0 x z) =
    subst (λ (l : List Addition). IsNoChunk fault ⊎ WhereTold from a (λ _. TagsDrawn keys (l ++ flown.0) x z)) c.requires.flight.1 flown.1.1.1 in
    err_is c.from_residual.result fault
    (λ (r : Result (Unit {0}) CarryFault). IfErr r (λ (f : CarryFault). (id : List ℕ) → IsChunk id f
    → WhereTold from a (λ _. EndsAt from keys (accepted_in store) [] name x z id))) c.from_residual.ensures.1
    (λ id is. ends_at from keys (accepted_in store) name flown.0 a x z fault id all.begins all.last tags is))
    (let store = c.args.store.now in
    let now = c.fly.new.store in
    let a = g.D.Shelf.told c.args.depot.now in
    let b = g.D.Shelf.told c.fly.new.depot in
    let n = g.D.Shelf.faults c.args.depot.now in
    let m = g.D.Shelf.faults c.fly.new.depot in
    let from = flown_from (g.S.Shelf.told c.args.shelf.now) (repo_view c.args.source.now) c.args.self.now in
    let name = c.args.self.now.named.name in
    let fault = c.in_err-named.field-0.0 in
    let flown = c.in_err-named.ensures.works c.requires.flight.0 in
    let all = takes_begin from name _ flown.0 flown.1.0 store now c.fly.new.flight a b n m (Err fault) c.requires.flight.1 flown.1.1.0 in
    err_is c.from_residual.result fault (λ (r : Result (Unit {0}) CarryFault). IfErr r (λ (f : CarryFault). IsOfWork f → StopsUnnamed from name store a b))
    c.from_residual.ensures.1
    (λ work. record {
      added = flown.0;
      begins = all_one a from store name flown.0 all.begins;
      each = all.stands work;
    }))

pub returns-clause-matched : goal.returns-clause-matched
returns-clause-matched g c =
    matched_behind (g.S.Shelf.told c.fly.new.shelf) (repo_view c.fly.new.source) (g.D.Shelf.told c.fly.new.depot) (g.D.Shelf.told c.tell_name.new.depot)
    (repo_view c.fly.new.store.repo) (name_line (told_of c.in_ok-named.named) c.name.result.now) (g.D.Shelf.faults c.fly.new.depot)
    (g.D.Shelf.faults c.tell_name.new.depot) c.in_ok-tell_name.ensures.works (matched_in c.fly.new.flight.work) c.in_ok-named.ensures.matched
