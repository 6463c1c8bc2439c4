-- Lemmas on turns behind which nothing is named, or what was there already.
use Rattle.std.proofs.Common.{◌≡◌, ◌≢◌, ℕ, List, [], ◌∷◌, ◌++◌}
use Rattle.std.proofs.Common.{Option, None, Result, Ok, Err, IfErr, IfOk, IfSome, IsErrAnd}
use Rattle.std.proofs.Common.{refl, sym, subst, ◌+◌, ◌*◌, length, arith}
use Rattle.std.proofs.lemmas.List.{append-nil}
use Rattle.ferry_compare.specs.Compare.{Seen, seen}
use Rattle.ferry_disk.proofs.MomentLemmas.{between_both, between_map, between_then}
use Rattle.ferry_disk.specs.Act.{History}
use Rattle.ferry_disk.specs.Device.{Told, heard}
use Rattle.ferry_disk.specs.Moments.{Between}
use Rattle.ferry_mac.specs.declared.keys.Keys.{Keys}
use Rattle.ferry_repo.specs.Archives.{archive_named}
use Rattle.ferry_repo.specs.Opening.{RepoState, repo_view}
use Rattle.ferry_store.specs.Commit.{accepted_in}
use Rattle.ferry_store.specs.declared.store.Store.{Store}
use Rattle.ferry_piece.proofs.AddingLemmas.{HoldsAll, held_gathered, stops_then}
use Rattle.ferry_piece.proofs.FrontLemmas.{front_then, with_moments}
use Rattle.ferry_piece.proofs.CheckpointLemmas.{checkpoint_gathers, checkpoint_stands}
use Rattle.ferry_piece.proofs.GatherLemmas.{keeps_at, moved_here, standing_wider, stands_here}
use Rattle.ferry_piece.specs.Front.{CommitsPieces, HoldsFront, IsSoundWith}
use Rattle.ferry_piece.proofs.GatherLemmas.{stands_then}
use Rattle.ferry_carry.proofs.StandLemmas.{stands_behind}
use Rattle.ferry_carry.proofs.WorkLemmas.{carried_by_then, carried_from}
use Rattle.ferry_piece.proofs.WorkLemmas.{err_is}
use Rattle.ferry_piece.proofs.WorkLemmas.{works_as, works_front, works_none}
use Rattle.ferry_carry.proofs.HeldLemmas.{held_then, holds_within}
use Rattle.ferry_carry.proofs.HeldLemmas.{known_back}
use Rattle.ferry_piece.proofs.PutsLemmas.{adds_at, adds_here, allows_within, goes_at}
use Rattle.ferry_piece.proofs.GoesLemmas.{goes_same}
use Rattle.ferry_piece.specs.Adding.{AddsOn, HoldsRefused, StopsLast, BeginsSegments}
use Rattle.ferry_carry.specs.Naming.{TaggedRecord}
use Rattle.ferry_carry.specs.Carrying.{Origin, origin}
use Rattle.ferry_carry.specs.Flight.{Flies, ListsDone, TakesTurn, TurnLists, TurnStands, archive_adds}
use Rattle.ferry_carry.specs.Flight.{carried_by, end_segments}
use Rattle.ferry_piece.specs.Gather.{Gathers, GathersAt, KeepsRest, KeepsStanding, KeepsStandingAt, StandsFrom}
use Rattle.ferry_carry.specs.Grow.{AcceptsMore}
use Rattle.ferry_piece.specs.Fault.{IsOfSource, IsOfWork}
use Rattle.ferry_carry.specs.Listing.{BeginsOne}
use Rattle.ferry_piece.specs.Puts.{Addition, AtBegin, Border, Within, border_behind}
use Rattle.ferry_piece.specs.Work.{Works}
use Rattle.ferry_piece.specs.declared.fault.CarryFault.{CarryFault}
use Rattle.ferry_carry.specs.declared.flight.Flight.{Flight}
use Rattle.ferry_carry.specs.declared.flight.Turn.{Turn}
use Rattle.ferry_carry.specs.declared.flight.Turn.TheVariants.{More, Named, Present}
use Rattle.ferry_stops.proofs.TellLemmas.{untold_then}
use Rattle.ferry_store.proofs.StepLemmas.{moments_then}
use Rattle.ferry_store.specs.Standing.{committed_of, entries_of}
use Rattle.ferry_store.specs.Adding.{Checkpoints}
use Rattle.ferry_write.specs.Script.{AllDone}
use Rattle.ferry_piece.proofs.FewLemmas.{begun_then}
use Rattle.ferry_carry.specs.States.{target_state}
use Rattle.ferry_carry.proofs.FlyLemmas.{origin_kept, flown_more}
use Rattle.ferry_carry.proofs.BegunLemmas.{turns_before, begins_new, begins_before, filled_before, filled_apart}

-- ---- where nothing is named

-- what stands within an archive stands at any border
standing_within : (at : Border) (most : ℕ) (store : Store) (more : List Addition) (h g : History) → KeepsStanding most store more h g
    → KeepsStandingAt at most store more h g
standing_within at most store more h g standing = keeps_at at most store more h g standing

pub stands_within : (at : Border) (most : ℕ) (store : Store) (more : List Addition) (a b : Option Told) → Between a b (KeepsStanding most store more)
    → Between a b (KeepsStandingAt at most store more)
stands_within at most store more a b standing =
    between_map a b (KeepsStanding most store more) (KeepsStandingAt at most store more) (λ h g e. standing_within at most store more h g e) standing

-- behind a body that added nothing
standing_behind : (at : Border) (most : ℕ) (store middle : Store) (more : List Addition) (h g i : History)
    → (repo_view middle.repo).keys ≡ (repo_view store.repo).keys → KeepsStanding most store [] h g → AllDone h g → Gathers most store [] middle h g
    → KeepsStandingAt at most middle more g i → KeepsStandingAt at most store more h i
unfolding border_behind
standing_behind at most store middle more h g i same before done gathers after = (
  untold_then h g i before.0 after.0,
  λ counts fits.
      let first = gathers counts fits in
      let keys = (repo_view store.repo).keys in
      let written = fits.written in
      let next = first.fits_now.written in
      let within = standing_wider most store [] more h g (more, refl) before in
      let allows = allows_within at (entries_of written) in
      let start = entries_of written in
      let between = entries_of next in
      let adds = adds_at Within at keys most start [] between allows first.puts in
      moments_then (IsSoundWith (StandsFrom at keys most more written) (HoldsFront at keys most start more) counts) h g i
      ((standing_within at most store more h g within).1 counts fits) done
      (with_moments (StandsFrom at (repo_view middle.repo).keys most more next) (StandsFrom at keys most more written)
      (HoldsFront at (repo_view middle.repo).keys most between more) (HoldsFront at keys most start more) counts g i
      (λ image stands. stands_then at keys most written next [] more image first.moved adds
      (goes_at Within at keys most [] written (committed_of next) allows first.committed)
      (subst (λ (k : Keys). StandsFrom at k most more next image) same stands))
      (λ files read. front_then at keys most start between [] more files adds (subst (λ (k : Keys). HoldsFront at k most between more files) same read))
      (after.1 counts first.fits_now)),
)

pub stands_read : {T : Type 0} (at : Border) (most : ℕ) (store middle : Store) (more : List Addition) (a b c : Option Told) (n m : ℕ) (x : T)
    → (repo_view middle.repo).keys ≡ (repo_view store.repo).keys → AddsOn {T = T} most store [] middle a b n m (Ok x)
    → Between b c (KeepsStandingAt at most middle more) → Between a c (KeepsStandingAt at most store more)
stands_read {T} at most store middle more a b c n m x keys p after =
    between_then a b c (λ h g. KeepsStanding most store [] h g × (AllDone h g × Gathers most store [] middle h g)) (KeepsStandingAt at most middle more)
    (KeepsStandingAt at most store more) (λ h g i e f. standing_behind at most store middle more h g i keys e.0 e.1.0 e.1.1 f)
    (between_both a b (KeepsStanding most store []) (λ h g. AllDone h g × Gathers most store [] middle h g) p.works.each p.works.end) after

-- contents that were added, at any border
pub added_all : {T : Type 0} (at : Border) (most : ℕ) (store now : Store) (added : List Addition) (a b : Option Told) (n m : ℕ) (x : T)
    → AddsOn {T = T} most store added now a b n m (Ok x) → Between a b (HoldsAll at most store added now)
added_all {T} at most store now added a b n m x p =
    between_map a b (HoldsAll Within most store added now) (HoldsAll at most store added now) (λ h g all. holds_within at most store now added h g all)
    (held_gathered most store now added a b p.works.end)

pub turn_stands : (at : Border) (most : ℕ) (store : Store) (more : List Addition) (a b : Option Told) (result : Result Turn CarryFault)
    → Between a b (KeepsStandingAt at most store more) → TurnStands at most store more a b result
turn_stands at most store more a b (Ok More) standing = standing
turn_stands at most store more a b (Ok Named) standing = tt
turn_stands at most store more a b (Ok Present) standing = tt
turn_stands at most store more a b (Err fault) standing = λ _. standing

-- behind a body that added nothing
turn_stands_behind : {T : Type 0} (at : Border) (most : ℕ) (store middle : Store) (more : List Addition) (a b c : Option Told) (n m : ℕ) (x : T)
    (result : Result Turn CarryFault) → (repo_view middle.repo).keys ≡ (repo_view store.repo).keys
    → AddsOn {T = T} most store [] middle a b n m (Ok x) → TurnStands at most middle more b c result → TurnStands at most store more a c result
turn_stands_behind {T} at most store middle more a b c n m x (Ok More) keys p after =
    stands_read {T = T} at most store middle more a b c n m x keys p after
turn_stands_behind {T} at most store middle more a b c n m x (Ok Named) keys p after = tt
turn_stands_behind {T} at most store middle more a b c n m x (Ok Present) keys p after = tt
turn_stands_behind {T} at most store middle more a b c n m x (Err fault) keys p after =
    λ work. stands_read {T = T} at most store middle more a b c n m x keys p (after work)

-- an archive that was there, once nothing is pending
pub present_stands : {T : Type 0} (most : ℕ) (store middle : Store) (a b c : Option Told) (n m : ℕ) (x : T) (result : Result Turn CarryFault)
    → (repo_view middle.repo).keys ≡ (repo_view store.repo).keys → AddsOn {T = T} most store [] middle a b n m (Ok x)
    → Between b c (KeepsStandingAt AtBegin most middle []) → TurnStands (border_behind AtBegin []) most store [] a c result
unfolding border_behind
present_stands {T} most store middle a b c n m x result keys p after =
    turn_stands AtBegin most store [] a c result (stands_read {T = T} AtBegin most store middle [] a b c n m x keys p after)

-- ---- what is pending, before an archive that was there

-- nothing was
pub nothing_pending : {T : Type 0} (most : ℕ) (store : Store) (a : Option Told) (n : ℕ) (x : T)
    → Works (KeepsStandingAt AtBegin most store []) (λ (_ : T). GathersAt AtBegin most store [] store) a a n n (Ok x)
nothing_pending {T} most store a n x =
    works_none (KeepsStandingAt AtBegin most store []) (λ (_ : T). GathersAt AtBegin most store [] store) a n x
    (λ h. standing_within AtBegin most store [] h h (stands_here most store [] h)) (λ h counts fits. record {
      fits_now = fits;
      moved = moved_here (repo_view store.repo).keys fits.written;
      puts = adds_here AtBegin (repo_view store.repo).keys most (entries_of fits.written);
      committed = goes_same AtBegin (repo_view store.repo).keys most [] fits.written;
      brings = λ scope apart all within. (within, tt);
    })

-- something was, and is committed
pub pending_committed : {T U : Type 0} (most : ℕ) (store now : Store) (a b : Option Told) (n m : ℕ) (x : T) (y : U) → now.repo ≡ store.repo
    → store.pending ≢ 0
    → Works (CommitsPieces store) (λ (_ : T). Checkpoints store now) a b n m (Ok x)
    → Works (KeepsStandingAt AtBegin most store []) (λ (_ : U). GathersAt AtBegin most store [] now) a b n m (Ok y)
pending_committed {T} {U} most store now a b n m x y repo some p =
    works_as (CommitsPieces store) (λ (_ : T). Checkpoints store now)
    (KeepsStandingAt AtBegin most store []) (λ (_ : U). GathersAt AtBegin most store [] now) a b n m x y
    (λ h g e. checkpoint_stands most store [] h g some e) (λ h g e. checkpoint_gathers most store now h g repo some e) p

-- or isn't
pub pending_uncommitted : {T U : Type 0} (most : ℕ) (store now : Store) (a b : Option Told) (n m : ℕ) (fault : CarryFault) → store.pending ≢ 0
    → Works (CommitsPieces store) (λ (_ : T). Checkpoints store now) a b n m (Err fault)
    → Works (KeepsStandingAt AtBegin most store []) (λ (_ : U). GathersAt AtBegin most store [] now) a b n m (Err fault)
pending_uncommitted {T} {U} most store now a b n m fault some p =
    works_front (CommitsPieces store) (λ (_ : T). Checkpoints store now)
    (KeepsStandingAt AtBegin most store []) (λ (_ : U). GathersAt AtBegin most store [] now) a b n m fault
    (λ h g e. checkpoint_stands most store [] h g some e) p

-- the segments of it, where it ends a flight
pub present_few : (store now : Store) (result : Result Turn CarryFault) → IfOk result (λ turn. turn ≡ Present) → BeginsSegments 2 store now result
    → BeginsSegments (0 + end_segments result) store now result
present_few store now (Ok turn) present few =
    subst (λ (t : Turn). BeginsSegments (0 + end_segments (Ok t)) store now (Ok t)) (sym present)
    (subst (λ (t : Turn). BeginsSegments 2 store now (Ok t)) present few)
present_few store now (Err fault) present few = few

-- a refusal that was handed on, of a turn
pub turned_err : (told : Option Told) (source : RepoState) (from : Origin) (name : List ℕ) (added more : List Addition) (records : List TaggedRecord) (store
    now : Store)
    (met : Seen) (flight : Flight) (a b : Option Told) (n m : ℕ) (result : Result Turn CarryFault) (fault : CarryFault) → IsErrAnd result (λ y. y ≡ fault)
    → TakesTurn (seen told source) from (archive_adds name added more records) (target_state a n store) (target_state b m now) met flight (Err fault)
    → TakesTurn (seen told source) from (archive_adds name added more records) (target_state a n store) (target_state b m now) met flight result
turned_err told source from name added more records store now met flight a b n m result fault e p =
    err_is result fault (TakesTurn (seen told source) from (archive_adds name added more records) (target_state a n store)
    (target_state b m now) met flight) e p

-- ---- a turn behind a body that added nothing

pub turned_behind : {T : Type 0} (told later known : Option Told) (source after given : RepoState) (block most : ℕ) (time : Option (List ℕ)) (name : List ℕ)
    (store middle now : Store) (met : Seen) (flight : Flight) (more : List Addition) (records : List TaggedRecord) (a b c : Option Told) (n m k : ℕ) (x : T)
    (result : Result Turn CarryFault)
    → heard later ≡ heard told → after ≡ source → AcceptsMore store → KeepsRest store middle
    → AddsOn {T = T} most store [] middle a b n m (Ok x)
    → TakesTurn (seen known given) (origin later after block most time) (archive_adds name [] more records) (target_state b m middle)
    (target_state c k now) met flight
    result
    → TakesTurn (seen known given) (origin told source block most time) (archive_adds name [] more records) (target_state a n store)
    (target_state c k now) met flight
    result
unfolding border_behind
turned_behind {T} told later known source after given block most time name store middle now met flight more records a b c n m k x result alike kept accepts rest
    p q
    =
    let from = origin told source block most time in
    let other = origin later after block most time in
    let same : other ≡ from = origin_kept told later source after block block most most time time alike kept refl refl refl in
    let keys = (repo_view store.repo).keys in
    let others = (repo_view middle.repo).keys in
    record {
      flies = flown_more {T = T} [] told later source after block most time name store middle now [] more a b c n m k x result alike kept accepts rest p
          q.flies;
      begins = begins_before from other keys others (accepted_in store) (accepted_in middle) name name more more (KeepsStanding most store []) a b
          p.works.each
          same rest.keys rest.accepted refl refl q.begins;
      stands = turn_stands_behind {T = T} AtBegin most store middle more a b c n m x result rest.keys p q.stands;
      last = stops_then {T = Turn} a b keys others [] more result p.works.ends rest.keys q.last;
      held = held_then {T = Turn} AtBegin most store middle now [] more a b c result rest.keys p.unspent
          (added_all {T = T} AtBegin most store middle [] a b n m x p) q.held;
      fills = filled_before {T = Turn} from other keys others (accepted_in store) (accepted_in middle) name name more more result
          (KeepsStanding most store []) a b p.works.each same rest.keys rest.accepted refl refl q.fills;
      lists = turns_before known given c now met flight from other keys others [] more records result (KeepsStanding most store []) a b p.works.each
          same rest.keys q.lists;
      few = begun_then {T = T} {U = Turn} 0 (2 * length more + end_segments result) (2 * length more + end_segments result) store middle now (Ok x) result
          (omega arith) p.few q.few;
    }

-- the end of an archive behind a step that added nothing
pub turn_ended : {T : Type 0} (from : Origin) (name : List ℕ) (added more : List Addition) (records : List TaggedRecord) (store middle now : Store) (told :
    Option Told)
    (source : RepoState) (met : Seen) (flight : Flight) (a b c : Option Told) (n m k : ℕ) (x : T) (result : Result Turn CarryFault) → AcceptsMore store
    → KeepsRest store middle → archive_named name (accepted_in store).archives ≡ None
    → AddsOn {T = T} from.most store [] middle a b n m (Ok x)
    → Flies added from name more (target_state b m middle) (target_state c k now) result
    → IfSome b (λ _. BeginsOne from (repo_view middle.repo).keys name (added ++ more))
    → IfErr result (λ fault. IsOfWork fault → Between b c (KeepsStanding from.most middle more))
    → StopsLast b (repo_view middle.repo).keys more result → HoldsRefused (border_behind AtBegin added) from.most middle more now b c result
    → IfErr result (λ fault. IsOfSource fault → ⊥)
    → IfOk result (λ turn. (turn ≡ Named) × TurnLists (seen told source) c now met flight (ListsDone a from (repo_view store.repo).keys flight.named.name)
    (archive_adds flight.named.name added more records) Named)
    → BeginsSegments (2 * length more + 2) middle now result
    → TakesTurn (seen told source) from (archive_adds name added more records) (target_state a n store) (target_state c k now) met flight result
unfolding border_behind
turn_ended {T} from name added more records store middle now told source met flight a b c n m k x result accepts rest unnamed p flies begun stands last held
    apart lists few = record {
      flies = carried_by_then {T = T} {U = Turn} added from [] (name ∷ []) (λ turn. carried_by turn name) [] more store middle now a b c n m k x result
          (carried_from {T = T} {U = T} added from (name ∷ []) store middle [] a b n m x x accepts rest p)
          (subst (λ (earlier : List Addition). Flies earlier from name more (target_state b m middle) (target_state c k now) result) (sym (append-nil
          added)) flies);
      begins = begins_new a from (repo_view store.repo).keys (accepted_in store) name (added ++ more) unnamed
          (subst (λ (l : Keys). IfSome a (λ _. BeginsOne from l name (added ++ more))) rest.keys
          (known_back (BeginsOne from (repo_view middle.repo).keys name (added ++ more)) (KeepsStanding from.most store []) a b p.works.each begun));
      stands = standing result stands lists;
      last = stops_then {T = Turn} a b (repo_view store.repo).keys (repo_view middle.repo).keys [] more result p.works.ends rest.keys last;
      held = held_then {T = Turn} at from.most store middle now [] more a b c result rest.keys p.unspent
          (added_all {T = T} at from.most store middle [] a b n m x p) held;
      fills = filled_apart {T = Turn} a from (repo_view store.repo).keys (accepted_in store) name (added ++ more) result apart;
      lists = listed result lists;
      few = begins result lists few;
    } where
      at : Border
      at = border_behind AtBegin added

      standing : (r : Result Turn CarryFault) → IfErr r (λ fault. IsOfWork fault → Between b c (KeepsStanding from.most middle more))
          → IfOk r (λ turn. (turn ≡ Named) × TurnLists (seen told source) c now met flight (ListsDone a from (repo_view store.repo).keys flight.named.name)
          (archive_adds flight.named.name added more records) Named)
          → TurnStands at from.most store more a c r
      standing (Ok turn) none named = subst (λ (t : Turn). TurnStands at from.most store more a c (Ok t)) (sym named.0) tt
      standing (Err fault) after named = λ work.
          stands_within at from.most store more a c (stands_behind {T = T} from.most store middle [] more a b c n m x rest.keys p.works (after work))

      listed : (r : Result Turn CarryFault)
          → IfOk r (λ turn. (turn ≡ Named) × TurnLists (seen told source) c now met flight (ListsDone a from (repo_view store.repo).keys flight.named.name)
          (archive_adds flight.named.name added more records) Named)
          → IfOk r (TurnLists (seen told source) c now met flight (ListsDone a from (repo_view store.repo).keys flight.named.name)
          (archive_adds flight.named.name
          added more records))
      listed (Ok turn) named = subst (TurnLists (seen told source) c now met flight (ListsDone a from (repo_view store.repo).keys flight.named.name)
          (archive_adds
          flight.named.name added more records)) (sym named.0) named.1
      listed (Err fault) named = tt

      begins : (r : Result Turn CarryFault)
          → IfOk r (λ turn. (turn ≡ Named) × TurnLists (seen told source) c now met flight (ListsDone a from (repo_view store.repo).keys flight.named.name)
          (archive_adds flight.named.name added more records) Named)
          → BeginsSegments (2 * length more + 2) middle now r → BeginsSegments (2 * length more + end_segments r) store now r
      begins (Ok turn) named after =
          let all = begun_then {T = T} {U = Turn} 0 (2 * length more + 2) (2 * length more + 2) store middle now (Ok x) (Ok turn) (omega arith) p.few after in
          subst (λ (t : Turn). BeginsSegments (2 * length more + end_segments (Ok t)) store now (Ok t)) (sym named.0)
          (subst (λ (t : Turn). BeginsSegments (2 * length more + 2) store now (Ok t)) named.0 all)
      begins (Err fault) named after =
          begun_then {T = T} {U = Turn} 0 (2 * length more + 2) (2 * length more + 2) store middle now (Ok x) (Err fault) (omega arith) p.few after
