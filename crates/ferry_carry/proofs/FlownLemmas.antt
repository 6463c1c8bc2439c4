-- Lemmas on the turns of a flight, one after another, up to its end.
use Rattle.std.proofs.Common.{◌≡◌, Bool, true, false, ℕ, List, [], ◌∷◌, ◌++◌}
use Rattle.std.proofs.Common.{Option, Result, Ok, Err, IfSome, IsErrAnd}
use Rattle.std.proofs.Common.{refl, sym, ◌∙◌, ap, subst, ◌+◌, ◌*◌, length, length-append, arith}
use Rattle.std.proofs.lemmas.List.{append-nil, append_assoc}
use Rattle.ferry_compare.specs.Compare.{Seen, seen}
use Rattle.ferry_disk.proofs.MomentLemmas.{between_map}
use Rattle.ferry_disk.specs.Device.{Told, told_files}
use Rattle.ferry_disk.specs.Moments.{Between}
use Rattle.ferry_mac.specs.declared.keys.Keys.{Keys}
use Rattle.ferry_repo.specs.Cached.{Contents}
use Rattle.ferry_repo.specs.Opening.{FitsRepo, RepoState, repo_view}
use Rattle.ferry_store.specs.Commit.{accepted_in}
use Rattle.ferry_store.specs.declared.store.Store.{Store}
use Rattle.ferry_piece.proofs.AddingLemmas.{HoldsAll, stops_then, stops_unbroken}
use Rattle.ferry_carry.proofs.StandLemmas.{growing_behind}
use Rattle.ferry_carry.proofs.WorkLemmas.{carried_none}
use Rattle.ferry_piece.proofs.WorkLemmas.{err_is}
use Rattle.ferry_carry.proofs.GrowsLemmas.{growing_here}
use Rattle.ferry_carry.proofs.HeldLemmas.{grows_all, held_then}
use Rattle.ferry_piece.proofs.PutsLemmas.{border_append}
use Rattle.ferry_piece.specs.Adding.{HoldsRefused, BeginsSegments}
use Rattle.ferry_carry.specs.Naming.{TaggedRecord}
use Rattle.ferry_carry.specs.Carrying.{Origin}
use Rattle.ferry_carry.specs.Counting.{CountsOf}
use Rattle.ferry_carry.specs.Flight.{BeginsDone, Flies, FlightFits, ListsDone, TakesAll, TakesTurn, TurnLists, archive_adds}
use Rattle.ferry_carry.specs.Flight.{carried_by, flown_from, end_segments}
use Rattle.ferry_piece.specs.Gather.{KeepsStandingAt}
use Rattle.ferry_carry.specs.Grow.{AcceptsMore, Grows, KeepsGrowing}
use Rattle.ferry_piece.specs.Puts.{Addition, AtBegin, Border, border_behind}
use Rattle.ferry_piece.specs.Work.{Works}
use Rattle.ferry_piece.specs.declared.fault.CarryFault.TheVariants.{Memory}
use Rattle.ferry_piece.specs.declared.fault.CarryFault.{CarryFault}
use Rattle.ferry_carry.specs.declared.flight.Flight.{Flight}
use Rattle.ferry_carry.specs.declared.flight.Turn.{Turn}
use Rattle.ferry_carry.specs.declared.flight.Turn.TheVariants.{More, Named, Present}
use Rattle.ferry_store.proofs.StepLemmas.{here_each}
use Rattle.ferry_store.specs.Store.{IsUnspent}
use Rattle.ferry_write.specs.Script.{AllDone}
use Rattle.ferry_piece.proofs.FewLemmas.{begun_as, begun_fault, begun_none, begun_same, begun_then, memory_unused}
use Rattle.ferry_carry.specs.States.{target_state}
use Rattle.ferry_carry.proofs.FlyLemmas.{flown_then, flown_as, flown_err}
use Rattle.ferry_carry.proofs.BegunLemmas.{done_before, begins_before, fills_before, fits_begins}

-- ---- turns, up to the last

-- Turns of a flight, each of which took a further item, added these behind what was added before, and it fits with all.
pub record TakesOn (told : Option Told) (source : RepoState) (from : Origin) (name : List ℕ) (start : List Addition) (store now : Store) (flight : Flight)
    (a b : Option Told) (n m : ℕ) : Type 0 where
  pub more : List Addition
  pub fits : FlightFits told source b now (seen b (repo_view now.repo)) flight
  pub added : fits.added ≡ start ++ more
  pub stands : Between a b (KeepsGrowing start from [] store more)
  pub works : Works {T = Unit {0}} (KeepsGrowing start from (name ∷ []) store more) (λ _. Grows start from [] more store now) a b n m (Ok tt)
  pub few : BeginsSegments {T = Unit {0}} (2 * length more) store now (Ok tt)

-- none was taken
pub takes_none : (told : Option Told) (source : RepoState) (from : Origin) (name : List ℕ) (store : Store) (flight : Flight) (a : Option Told) (n : ℕ)
    (fits : FlightFits told source a store (seen a (repo_view store.repo)) flight) → AcceptsMore store
    → TakesOn told source from name fits.added store store flight a a n n
takes_none told source from name store flight a n fits accepts = record {
  more = [];
  fits = fits;
  added = sym (append-nil fits.added);
  stands = here_each (KeepsGrowing fits.added from [] store []) a (λ h. growing_here fits.added from [] store [] h accepts);
  works = carried_none {T = Unit {0}} fits.added from (name ∷ []) store a n tt accepts;
  few = begun_none {T = Unit {0}} 0 store tt;
}

-- all that was added by turns so far, and by one more
pub takes_added : (told : Option Told) (source : RepoState) (from : Origin) (name : List ℕ) (start more : List Addition) (store now : Store) (flight : Flight)
    (a b : Option Told) (n m : ℕ) (before : TakesOn told source from name start store now flight a b n m)
    → before.fits.added ++ more ≡ start ++ (before.more ++ more)
takes_added told source from name start more store now flight a b n m before =
    ap (λ (l : List Addition). l ++ more) before.added ∙ append_assoc start before.more more

-- one more was taken
pub takes_more : (told later : Option Told) (source after : RepoState) (from other : Origin) (name called : List ℕ) (start more : List Addition)
    (records : List TaggedRecord)
    (store middle now : Store) (flight flight_now : Flight) (a b c : Option Told) (n m k : ℕ) → other ≡ from → called ≡ name → AcceptsMore middle
    → (before : TakesOn told source from name start store middle flight a b n m)
    → TakesTurn (seen later after) other (archive_adds called before.fits.added more records) (target_state b m middle) (target_state c k now)
    (seen c (repo_view now.repo)) flight_now (Ok More)
    → TakesOn later after from name start store now flight_now a c n k
takes_more told later source after from other name called start more records store middle now flight flight_now a b c n m k is names accepts before turn =
    record {
      more = before.more ++ more;
      fits = turn.lists.0;
      added = turn.lists.1 ∙ takes_added told source from name start more store middle flight a b n m before;
      stands = growing_behind start from from.most before.more more store middle a b c refl accepts before.stands before.works.end
          (subst (λ (f : Origin). Between b c (KeepsStandingAt (border_behind AtBegin (start ++ before.more)) f.most middle more)) is
          (subst (λ (l : List Addition). Between b c (KeepsStandingAt (border_behind AtBegin l) other.most middle more)) before.added turn.stands));
      works = flown_as {U = Unit {0}} start from name [] (before.more ++ more) store now a c n k More tt refl
          (flown_then start from other name called before.more more store middle now a b c n m k (Ok More) is names before.works
          (subst (λ (l : List Addition). Flies l other called more (target_state b m middle) (target_state c k now) (Ok More)) before.added turn.flies));
      few = let size = length-append before.more more in
          begun_as {T = Turn} {U = Unit {0}} (2 * length (before.more ++ more)) (2 * length (before.more ++ more)) store now More tt (omega arith)
          (begun_then {T = Unit {0}} {U = Turn} (2 * length before.more) (2 * length more + 0) (2 * length (before.more ++ more)) store middle now (Ok tt)
          (Ok More) (omega (arith, size)) before.few turn.few);
    }

-- what all of them added, as far as it came
takes_begun : (told later : Option Told) (source after : RepoState) (from other : Origin) (name called : List ℕ) (start more : List Addition)
    (records : List TaggedRecord)
    (store middle now : Store) (flight flight_now : Flight) (a b c : Option Told) (n m k : ℕ) (result : Result Turn CarryFault) → other ≡ from
    → called ≡ name → accepted_in middle ≡ accepted_in store → (repo_view middle.repo).keys ≡ (repo_view store.repo).keys
    → (before : TakesOn told source from name start store middle flight a b n m)
    → TakesTurn (seen later after) other (archive_adds called before.fits.added more records) (target_state b m middle) (target_state c k now)
    (seen c (repo_view now.repo)) flight_now result
    → BeginsDone a from (repo_view store.repo).keys (accepted_in store) name (start ++ (before.more ++ more))
takes_begun told later source after from other name called start more records store middle now flight flight_now a b c n m k result is names accepted keys
    before turn =
    begins_before from other (repo_view store.repo).keys (repo_view middle.repo).keys (accepted_in store) (accepted_in middle) name called
    (start ++ (before.more ++ more)) (before.fits.added ++ more) (KeepsGrowing start from [] store before.more) a b before.stands is
    keys accepted names
    (takes_added told source from name start more store middle flight a b n m before) turn.begins

-- the turn that ends a flight, by whether the archive was copied
abbrev pub last_turn : Bool → Turn
last_turn true = Named
last_turn false = Present

last_segments : (copied : Bool) → end_segments (Ok (last_turn copied)) ≡ 2
last_segments true = refl
last_segments false = refl

carried_last : (copied : Bool) (name : List ℕ) → carried_by (last_turn copied) name ≡ name ∷ []
carried_last true name = refl
carried_last false name = refl

lists_last : (told : Option Told) (source : RepoState) (target : Option Told) (store : Store) (met : Seen) (flight : Flight) (before : Option Told)
    (from : Origin) (keys : Keys) (added more : List Addition) (records : List TaggedRecord) (copied : Bool)
    → TurnLists (seen told source) target store met flight (ListsDone before from keys flight.named.name) (archive_adds flight.named.name added more records)
    (last_turn copied)
    → ListsDone before from keys flight.named.name records (added ++ more) copied × CountsOf (added ++ more) flight.put
lists_last told source target store met flight before from keys added more records true lists = lists
lists_last told source target store met flight before from keys added more records false lists = lists

-- the last was taken
pub takes_last : (told later : Option Told) (source after : RepoState) (from other : Origin) (name called : List ℕ) (start more : List Addition)
    (records : List TaggedRecord)
    (store middle now : Store) (flight flight_now : Flight) (a b c : Option Told) (n m k : ℕ) (copied : Bool) → other ≡ from → called ≡ name
    → accepted_in middle ≡ accepted_in store → (repo_view middle.repo).keys ≡ (repo_view store.repo).keys → flight_now.named.name ≡ name
    → (before : TakesOn told source from name start store middle flight a b n m)
    → TakesTurn (seen later after) other (archive_adds called before.fits.added more records) (target_state b m middle) (target_state c k now)
    (seen c (repo_view now.repo)) flight_now (Ok
    (last_turn copied))
    → TakesAll from (archive_adds name start (before.more ++ more) records) (target_state a n store) (target_state c k now) flight_now (Ok copied)
takes_last told later source after from other name called start more records store middle now flight flight_now a b c n m k copied is names accepted keys
    named
    before turn =
    let all = takes_added told source from name start more store middle flight a b n m before in
    let others = (repo_view middle.repo).keys in
    let lists = lists_last later after c now (seen c (repo_view now.repo)) flight_now b other others before.fits.added more records copied turn.lists in
    record {
      carries = flown_as {U = Bool} start from name (name ∷ []) (before.more ++ more) store now a c n k (last_turn copied) copied (carried_last copied name)
          (flown_then start from other name called before.more more store middle now a b c n m k (Ok (last_turn copied)) is names before.works
          (subst (λ (l : List Addition). Flies l other called more (target_state b m middle) (target_state c k now) (Ok (last_turn copied))) before.added
          turn.flies));
      begins = takes_begun told later source after from other name called start more records store middle now flight flight_now a b c n m k (Ok (last_turn
          copied)) is
          names accepted keys before turn;
      stands = tt;
      last = tt;
      held = tt;
      fills = tt;
      lists = (
        done_before from other (repo_view store.repo).keys others name records (start ++ (before.more ++ more)) (before.fits.added ++ more) copied
            (KeepsGrowing start from [] store before.more) a b before.stands is keys all
            (subst (λ (l : List ℕ). ListsDone b other others l records (before.fits.added ++ more) copied) named lists.0),
        subst (λ (l : List Addition). CountsOf l flight_now.put) all lists.1,
      );
      few = let size = length-append before.more more in let end = last_segments copied in
          begun_as {T = Turn} {U = Bool} (2 * length (before.more ++ more) + 2) (2 * length (before.more ++ more) + 2) store now (last_turn copied) copied
          (omega arith)
          (begun_then {T = Unit {0}} {U = Turn} (2 * length before.more) (2 * length more + end_segments (Ok (last_turn copied)))
          (2 * length (before.more ++ more) + 2) store middle now (Ok tt) (Ok (last_turn copied)) (omega (arith, size, end)) before.few turn.few);
    }

-- what turns added, all of it
turns_all : (start : List Addition) (from : Origin) (store now : Store) (added : List Addition) (a b : Option Told)
    → Between a b (λ h g. AllDone h g × Grows start from [] added store now h g)
    → Between a b (HoldsAll (border_behind AtBegin start) from.most store added now)
turns_all start from store now added a b end =
    between_map a b (λ h g. AllDone h g × Grows start from [] added store now h g) (HoldsAll (border_behind AtBegin start) from.most store added now)
    (λ h g e. grows_all start (accepted_in store) from [] added store now h g e.1) end

-- one was refused
pub takes_refused : (told later : Option Told) (source after : RepoState) (from other : Origin) (name called : List ℕ) (start more : List Addition)
    (records : List TaggedRecord)
    (store middle now : Store) (flight flight_now : Flight) (a b c : Option Told) (n m k : ℕ) (fault : CarryFault) → other ≡ from → called ≡ name
    → accepted_in middle ≡ accepted_in store → (repo_view middle.repo).keys ≡ (repo_view store.repo).keys → AcceptsMore middle → IsUnspent middle
    → (before : TakesOn told source from name start store middle flight a b n m)
    → TakesTurn (seen later after) other (archive_adds called before.fits.added more records) (target_state b m middle) (target_state c k now)
    (seen c (repo_view now.repo)) flight_now (Err fault)
    → TakesAll from (archive_adds name start (before.more ++ more) records) (target_state a n store) (target_state c k now) flight_now (Err fault)
takes_refused told later source after from other name called start more records store middle now flight flight_now a b c n m k fault is names accepted keys
    accepts unspent
    before turn =
    let at : border_behind AtBegin before.fits.added ≡ border_behind (border_behind AtBegin start) before.more =
    ap (border_behind AtBegin) before.added ∙ border_append AtBegin start before.more in
    let held : HoldsRefused {T = Bool} (border_behind (border_behind AtBegin start) before.more) from.most middle more now b c (Err fault) =
    subst (λ (f : Origin). HoldsRefused {T = Bool} (border_behind (border_behind AtBegin start) before.more) f.most middle more now b c (Err fault)) is
    (subst (λ (e : Border). HoldsRefused {T = Bool} e other.most middle more now b c (Err fault)) at turn.held) in
    record {
      carries = flown_err {U = Bool} start from name (name ∷ []) (before.more ++ more) store now now a c n k fault
          (flown_then start from other name called before.more more store middle now a b c n m k (Err fault) is names before.works
          (subst (λ (l : List Addition). Flies l other called more (target_state b m middle) (target_state c k now) (Err fault)) before.added turn.flies));
      begins = takes_begun told later source after from other name called start more records store middle now flight flight_now a b c n m k (Err fault) is
          names
          accepted keys before turn;
      stands = λ work.
          growing_behind start from from.most before.more more store middle a b c refl accepts before.stands before.works.end
          (subst (λ (f : Origin). Between b c (KeepsStandingAt (border_behind AtBegin (start ++ before.more)) f.most middle more)) is
          (subst (λ (l : List Addition). Between b c (KeepsStandingAt (border_behind AtBegin l) other.most middle more)) before.added (turn.stands work)));
      last = stops_then {T = Bool} a b (repo_view store.repo).keys (repo_view middle.repo).keys before.more more (Err fault) before.works.ends keys turn.last;
      held = held_then {T = Bool} (border_behind AtBegin start) from.most store middle now before.more more a b c (Err fault) keys (λ _. unspent)
          (turns_all start from store middle before.more a b before.works.end) held;
      fills = fills_before from other (repo_view store.repo).keys (repo_view middle.repo).keys (accepted_in store) (accepted_in middle) name called
          (start ++ (before.more ++ more)) (before.fits.added ++ more) fault (KeepsGrowing start from [] store before.more) a b before.stands is keys accepted
          names (takes_added told source from name start more store middle flight a b n m before) turn.fills;
      lists = tt;
      few = let size = length-append before.more more in
          begun_same {T = Turn} {U = Bool} (2 * length (before.more ++ more) + 2) (2 * length (before.more ++ more) + 2) store now fault (omega arith)
          (begun_then {T = Unit {0}} {U = Turn} (2 * length before.more) (2 * length more + 2) (2 * length (before.more ++ more) + 2) store middle now (Ok tt)
          (Err fault) (omega (arith, size)) before.few turn.few);
    }

-- a refusal that was handed on
pub taken_err : (from : Origin) (name : List ℕ) (added more : List Addition) (records : List TaggedRecord) (store now : Store) (flight : Flight) (a b : Option
    Told) (n m : ℕ)
    (result : Result Bool CarryFault) (fault : CarryFault) → IsErrAnd result (λ y. y ≡ fault)
    → TakesAll from (archive_adds name added more records) (target_state a n store) (target_state b m now) flight (Err fault)
    → TakesAll from (archive_adds name added more records) (target_state a n store) (target_state b m now) flight result
taken_err from name added more records store now flight a b n m result fault e p =
    err_is result fault (TakesAll from (archive_adds name added more records) (target_state a n store) (target_state b m now) flight) e p

-- the same from the begin of an archive on
pub takes_begin : (from : Origin) (name : List ℕ) (start more : List Addition) (records : List TaggedRecord) (store now : Store) (flight : Flight) (a b :
    Option Told) (n m : ℕ)
    (result : Result Bool CarryFault) → start ≡ [] → TakesAll from (archive_adds name start more records) (target_state a n store) (target_state b m now)
    flight result
    → TakesAll from (archive_adds name [] more records) (target_state a n store) (target_state b m now) flight result
takes_begin from name start more records store now flight a b n m result none p =
    subst (λ (l : List Addition). TakesAll from (archive_adds name l more records) (target_state a n store) (target_state b m now) flight result) none p

-- a further one wasn't taken
pub takes_end : (told : Option Told) (source : RepoState) (cached : Contents) (from : Origin) (name : List ℕ) (start : List Addition) (store now : Store)
    (flight : Flight) (a b : Option Told) (n m : ℕ) → flown_from told source flight ≡ from → flight.named.name ≡ name → accepted_in now ≡ accepted_in store
    → (repo_view now.repo).keys ≡ (repo_view store.repo).keys → IfSome told (λ t. FitsRepo (told_files t) source cached) → AcceptsMore now
    → (before : TakesOn told source from name start store now flight a b n m)
    → TakesAll from (archive_adds name start before.more []) (target_state a n store) (target_state b m now) flight (Err Memory)
takes_end told source cached from name start store now flight a b n m is named accepted keys log_fits accepts before = record {
  carries = record { each = before.works.each; end = tt; ends = before.works.ends; cause = before.works.cause };
  begins = begins_before from (flown_from told source flight) (repo_view store.repo).keys (repo_view now.repo).keys (accepted_in store) (accepted_in now) name
      flight.named.name (start ++ before.more) before.fits.added (KeepsGrowing start from [] store before.more) a b before.stands is
      keys accepted named before.added
      (fits_begins told source cached b now (seen b (repo_view now.repo)) flight before.fits log_fits accepts);
  stands = λ _. before.stands;
  last = stops_unbroken a (repo_view store.repo).keys before.more Memory tt;
  held = λ spares. absurd spares;
  fills = tt;
  lists = tt;
  few = begun_fault {T = Unit {0}} {U = Bool} (2 * length before.more) (2 * length before.more + 2) store now tt Memory (omega arith) memory_unused
      before.few;
}
