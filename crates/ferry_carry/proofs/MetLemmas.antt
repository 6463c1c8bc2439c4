-- Lemmas on specs/Flight.antt and specs/Turns.antt: a difference is one of the target as it is, where that was only read since it was met.
use Rattle.std.proofs.Common.{◌≡◌, ◌⊎◌, inl, inr, ℕ, Bool, true, List, Option, Some, None, Result, Ok, Err, IfErr, IfOk, refl, subst, sym}
use Rattle.ferry_compare.proofs.StepLemmas.{at_last}
use Rattle.ferry_compare.specs.Compare.{Apart, Seen, StandsBeside, comparison_view, met_behind, seen}
use Rattle.ferry_disk.specs.Device.{Told, heard}
use Rattle.ferry_manifest.specs.declared.manifest.ArchiveRef.{ArchiveRef}
use Rattle.ferry_piece.specs.Puts.{Addition}
use Rattle.ferry_piece.specs.Stops.{is_target}
use Rattle.ferry_piece.specs.declared.fault.CarryFault.{CarryFault}
use Rattle.ferry_piece.specs.declared.fault.CarryFault.TheVariants.{Source, Target, Taken, NotFound, Pieces, Memory, Record}
use Rattle.ferry_repo.specs.Opening.{RepoState, repo_view}
use Rattle.ferry_repo.specs.Walk.{WalkState}
use Rattle.ferry_repo.specs.Whole.{WholeArchive}
use Rattle.ferry_store.specs.declared.store.Store.{Store}
use Rattle.ferry_carry.specs.Carrying.{Origin, SaysIn}
use Rattle.ferry_carry.specs.Flight.{ArchiveAdds, FlightFits, ListsDone, TakesTurn, TurnLists, WorkFits, archive_adds, met_by}
use Rattle.ferry_carry.specs.Naming.{TaggedRecord}
use Rattle.ferry_carry.specs.Refusals.{DiffersThere, RefusesComparing, RefusesMet, RefusesName}
use Rattle.ferry_carry.specs.States.{TargetState}
use Rattle.ferry_carry.specs.Turns.{IsUntouched, OnlyReads, ReadsWhere, StopsTurn}
use Rattle.ferry_carry.specs.declared.flight.Flight.{Flight}
use Rattle.ferry_carry.specs.declared.flight.Turn.{Turn}
use Rattle.ferry_carry.specs.declared.flight.Turn.TheVariants.{More, Named, Present}
use Rattle.ferry_carry.specs.declared.flight.Work.{Work}
use Rattle.ferry_carry.specs.declared.flight.Work.TheVariants.{Waiting, Copying, Comparing}
use Rattle.ferry_carry.specs.declared.options.Options.{Options}

-- a target as it is read then
abbrev pub seen_in : TargetState → Seen
seen_in to = seen to.told (repo_view to.store.repo)

-- ---- a target that says the same

-- Of the second the same is told as of the first, and its repository says the same.
record SameSeen (met other : Seen) : Type 0 where
  told : heard other.told ≡ heard met.told
  repo : other.repo ≡ met.repo

stands_seen : (told : Option Told) (target : RepoState) (met other : Seen) (name : List ℕ) (walk : Option WalkState) (front : WholeArchive)
    → SameSeen met other → StandsBeside told target met name walk front → StandsBeside told target other name walk front
stands_seen told target met other name None front same stands =
    at_last met.told other.told met.repo other.repo (λ r f. Apart f r name front) same.told same.repo stands
stands_seen told target met other name (Some walk) front same stands = stands

work_seen : (told : Option Told) (source : RepoState) (a : Option Told) (store : Store) (met other : Seen) (named : ArchiveRef) (options : Options)
    (added : List Addition) (work : Work) → SameSeen met other → WorkFits (seen told source) a store met named options added work
    → WorkFits (seen told source) a store other named options added work
work_seen told source a store met other named options added Waiting same is = is
work_seen told source a store met other named options added (Copying copy) same is = is
work_seen told source a store met other named options added (Comparing comparison) same is =
    let was = is.0 in
    let state = comparison_view comparison in
    let so = was.comparison in (
      record {
        fits = record {
          comparison = record {
            front = so.front;
            read = so.read;
            beside = stands_seen a (repo_view store.repo) met other state.name state.other so.front same so.beside;
            matched = so.matched;
          };
          same_name = was.same_name;
        };
        there = was.there;
      },
      is.1,
    )

flight_seen : (told : Option Told) (source : RepoState) (a : Option Told) (store : Store) (met other : Seen) (flight : Flight) → SameSeen met other
    → FlightFits told source a store met flight → FlightFits told source a store other flight
flight_seen told source a store met other flight same p = record {
  stands = p.stands;
  added = p.added;
  work = work_seen told source a store met other flight.named flight.options p.added flight.work same p.work;
  matched = p.matched;
}

differs_seen : (from : Origin) (met other : Seen) (name : List ℕ) → SameSeen met other → DiffersThere from met.told met.repo name
    → DiffersThere from other.told other.repo name
differs_seen from met other name same differs = record {
  whole = differs.whole;
  source = differs.source;
  target_is =
      at_last met.told other.told met.repo other.repo (λ r f. SaysIn f r name differs.whole → ⊥) same.told same.repo differs.target_is;
}

-- ---- a turn that only read

seen_read : (walk : Option WalkState) (to to_now : TargetState) → IsUntouched to to_now
    → SameSeen (met_behind walk (seen_in to) (seen_in to_now)) (seen_in to_now)
seen_read None to to_now same = record { told = same.told; repo = same.repo }
seen_read (Some walk) to to_now same = record { told = refl; repo = refl }

lists_read : (told : Option Told) (source : RepoState) (walk : Option WalkState) (to to_now : TargetState) (flight : Flight)
    (Lists : List TaggedRecord → List Addition → Bool → Type 0) (adds : ArchiveAdds) (result : Result Turn CarryFault) → OnlyReads to to_now result
    → IfOk result (TurnLists (seen told source) to_now.told to_now.store (met_behind walk (seen_in to) (seen_in to_now)) flight Lists adds)
    → IfOk result (TurnLists (seen told source) to_now.told to_now.store (seen_in to_now) flight Lists adds)
unfolding flight_seen
lists_read told source walk to to_now flight Lists adds (Ok More) reads lists = (
  flight_seen told source to_now.told to_now.store (met_behind walk (seen_in to) (seen_in to_now)) (seen_in to_now) flight
      (seen_read walk to to_now reads) lists.0,
  lists.1,
)
lists_read told source walk to to_now flight Lists adds (Ok Named) reads lists = lists
lists_read told source walk to to_now flight Lists adds (Ok Present) reads lists = lists
lists_read told source walk to to_now flight Lists adds (Err fault) reads lists = tt

pub turn_read : (told : Option Told) (source : RepoState) (from : Origin) (adds : ArchiveAdds) (walk : Option WalkState) (to to_now : TargetState)
    (flight : Flight) (result : Result Turn CarryFault) → OnlyReads to to_now result
    → TakesTurn (seen told source) from adds to to_now (met_behind walk (seen_in to) (seen_in to_now)) flight result
    → TakesTurn (seen told source) from adds to to_now (seen_in to_now) flight result
turn_read told source from adds walk to to_now flight result reads turn = record {
  flies = turn.flies;
  begins = turn.begins;
  stands = turn.stands;
  last = turn.last;
  held = turn.held;
  fills = turn.fills;
  lists = lists_read told source walk to to_now flight (ListsDone to.told from (repo_view to.store.repo).keys flight.named.name)
      (archive_adds flight.named.name adds.before adds.more adds.records) result reads turn.lists;
  few = turn.few;
}

refuses_read : (from : Origin) (walk : Option WalkState) (to to_now : TargetState) (name : List ℕ) (fault : CarryFault) → OnlyReads to to_now (Err fault)
    → RefusesMet from to.told to.store to_now.told to_now.store (met_behind walk (seen_in to) (seen_in to_now)) name fault
    → RefusesName from to.told to.store to_now.told to_now.store name fault
refuses_read from walk to to_now name (Source fault) reads refused = refused
refuses_read from walk to to_now name (Target refusal) reads refused = refused
refuses_read from walk to to_now name (Taken taken) reads refused = (
  refused.0,
  (
    differs_seen from (met_behind walk (seen_in to) (seen_in to_now)) (seen_in to_now) name (seen_read walk to to_now reads) refused.1.0,
    refused.1.1,
  ),
)
refuses_read from walk to to_now name (NotFound missing) reads refused = refused
refuses_read from walk to to_now name Pieces reads refused = refused
refuses_read from walk to to_now name Memory reads refused = refused
refuses_read from walk to to_now name Record reads refused = refused

pub stops_read : (from : Origin) (walk : Option WalkState) (to to_now : TargetState) (named : ArchiveRef) (result : Result Turn CarryFault)
    → OnlyReads to to_now result
    → IfErr result (StopsTurn from to.told to.store to_now.told to_now.store (met_behind walk (seen_in to) (seen_in to_now)) named)
    → IfErr result (StopsTurn from to.told to.store to_now.told to_now.store (seen_in to_now) named)
stops_read from walk to to_now named (Ok turn) reads stops = tt
stops_read from walk to to_now named (Err fault) reads stops =
    record { refused = refuses_read from walk to to_now named.name fault reads stops.refused; limit = stops.limit; left = stops.left }

-- ---- by what was under way

pub turn_by : (told : Option Told) (source : RepoState) (from : Origin) (adds : ArchiveAdds) (work : Work) (to to_now : TargetState) (flight : Flight)
    (result : Result Turn CarryFault) → ReadsWhere work to to_now result
    → TakesTurn (seen told source) from adds to to_now (met_by work (seen_in to) (seen_in to_now)) flight result
    → TakesTurn (seen told source) from adds to to_now (seen_in to_now) flight result
turn_by told source from adds Waiting to to_now flight result reads turn = turn
turn_by told source from adds (Copying copy) to to_now flight result reads turn = turn
turn_by told source from adds (Comparing comparison) to to_now flight result reads turn =
    turn_read told source from adds (comparison_view comparison).other to to_now flight result reads turn

pub stops_by : (from : Origin) (work : Work) (to to_now : TargetState) (named : ArchiveRef) (result : Result Turn CarryFault)
    → ReadsWhere work to to_now result
    → IfErr result (StopsTurn from to.told to.store to_now.told to_now.store (met_by work (seen_in to) (seen_in to_now)) named)
    → IfErr result (StopsTurn from to.told to.store to_now.told to_now.store (seen_in to_now) named)
stops_by from Waiting to to_now named result reads stops = stops
stops_by from (Copying copy) to to_now named result reads stops = stops
stops_by from (Comparing comparison) to to_now named result reads stops =
    stops_read from (comparison_view comparison).other to to_now named result reads stops

-- ---- the turns that read alone

pub taken_reads : (to to_now : TargetState) (given : List ℕ) (fault : CarryFault) → (fault ≡ Taken given) ⊎ (fault ≡ Memory) → IsUntouched to to_now
    → OnlyReads to to_now (Err fault)
taken_reads to to_now given fault (inl is) same = subst (λ (f : CarryFault). OnlyReads to to_now (Err f)) (sym is) same
taken_reads to to_now given fault (inr is) same = subst (λ (f : CarryFault). OnlyReads to to_now (Err f)) (sym is) tt

pub comparing_reads : (to to_now : TargetState) (told : Option Told) (source : RepoState) (name : List ℕ) (fault : CarryFault)
    → RefusesComparing told source name fault → OnlyReads to to_now (Err fault)
comparing_reads to to_now told source name (Source fault) refused = tt
comparing_reads to to_now told source name (Target refusal) refused = tt
comparing_reads to to_now told source name (Taken taken) refused = absurd refused
comparing_reads to to_now told source name (NotFound missing) refused = tt
comparing_reads to to_now told source name Pieces refused = tt
comparing_reads to to_now told source name Memory refused = tt
comparing_reads to to_now told source name Record refused = tt

pub present_reads : (to to_now : TargetState) (result : Result Turn CarryFault) → IfOk result (λ turn. turn ≡ Present)
    → IfErr result (λ fault. is_target fault ≡ true) → OnlyReads to to_now result
present_reads to to_now (Ok More) present target = absurd (let no : ⊥ = cc in no)
present_reads to to_now (Ok Named) present target = tt
present_reads to to_now (Ok Present) present target = tt
present_reads to to_now (Err (Source fault)) present target = tt
present_reads to to_now (Err (Target refusal)) present target = tt
present_reads to to_now (Err (Taken taken)) present target = absurd (let no : ⊥ = cc in no)
present_reads to to_now (Err (NotFound missing)) present target = tt
present_reads to to_now (Err Pieces) present target = tt
present_reads to to_now (Err Memory) present target = tt
present_reads to to_now (Err Record) present target = tt
