-- An archive on its way, by what was begun of it.
use Rattle.std.specs.Prelude.{◌≡◌, ◌≤◌, ◌+◌, ◌*◌, ℕ, Bool, true, false, List, [], ◌∷◌, ◌++◌, length, Option, Some, None, Result, Ok, Err, IfErr, IfOk, IfSome}
use Rattle.std.specs.Prelude.{IsSome}
use Rattle.ferry_compare.specs.Compare.{FitsTold, Seen, comparison_view, met_behind, seen}
use Rattle.ferry_compare.specs.Matched.{AreMatched, Matched}
use Rattle.ferry_compare.specs.declared.comparison.Comparison.{Comparison}
use Rattle.ferry_disk.specs.Device.{Told, told_files}
use Rattle.ferry_disk.specs.Moments.{Between}
use Rattle.ferry_mac.specs.declared.keys.Keys.{Keys}
use Rattle.ferry_manifest.specs.Manifest.Text.{ManifestText}
use Rattle.ferry_manifest.specs.declared.manifest.ArchiveRef.{ArchiveRef}
use Rattle.ferry_repo.specs.Archives.{archive_named}
use Rattle.ferry_repo.specs.Opening.{RepoState, repo_view}
use Rattle.ferry_repo.specs.Whole.{WholeArchive}
use Rattle.ferry_store.specs.Commit.{accepted_in}
use Rattle.ferry_store.specs.declared.store.Store.{Store}
use Rattle.ferry_piece.specs.Adding.{BeginsSegments, HoldsRefused, StopsLast}
use Rattle.ferry_carry.specs.Carrying.{IsReadyToName, Origin, SaysIn, origin}
use Rattle.ferry_carry.specs.Copying.{FitsCopy}
use Rattle.ferry_carry.specs.Counting.{CountsOf, nothing_carried}
use Rattle.ferry_piece.specs.Fault.{IsOfWork}
use Rattle.ferry_carry.specs.Filling.{FillsFlight}
use Rattle.ferry_piece.specs.Gather.{KeepsStanding, KeepsStandingAt}
use Rattle.ferry_carry.specs.Grow.{Grows, GrowsBy, IsBehind, IsNamedBy, KeepsGrowing, KeepsGrowingBy, KeepsNames, job}
use Rattle.ferry_carry.specs.States.{TargetState}
use Rattle.ferry_carry.specs.Listing.{BeginsName, BeginsOne, ListsOne}
use Rattle.ferry_carry.specs.Naming.{TaggedRecord}
use Rattle.ferry_carry.specs.Progress.{IsCopiedSoFar}
use Rattle.ferry_piece.specs.Puts.{Addition, AtBegin, AtEnd, Border, IsCheckpoint, border_behind}
use Rattle.ferry_piece.specs.Work.{Works}
use Rattle.ferry_piece.specs.declared.fault.CarryFault.{CarryFault}
use Rattle.ferry_carry.specs.declared.copy.Copy.{Copy}
use Rattle.ferry_carry.specs.declared.flight.Flight.{Flight}
use Rattle.ferry_carry.specs.declared.flight.Turn.{Turn}
use Rattle.ferry_carry.specs.declared.flight.Turn.TheVariants.{More, Named, Present}
use Rattle.ferry_carry.specs.declared.flight.Work.{Work}
use Rattle.ferry_carry.specs.declared.flight.Work.TheVariants.{Waiting, Copying, Comparing}
use Rattle.ferry_carry.specs.declared.options.Carried.{Carried}
use Rattle.ferry_carry.specs.declared.options.Options.{Options}

-- The block size and the checkpoint are in their ranges.
pub record AreRight (options : Options) : Type 0 where
  pub least : 64 ≤ options.block
  pub most : options.block ≤ 8388608
  pub checkpoint : IsCheckpoint options.checkpoint

-- a source of which archives are copied so
abbrev pub origin_of : Option Told → RepoState → Options → Origin
origin_of told source options = origin told source options.block options.checkpoint options.timestamp

-- A flight is that of an archive of the source, its options are right, and nothing is counted of it yet.
pub record FlightStands (source : RepoState) (flight : Flight) : Type 0 where
  pub options : AreRight flight.options
  pub named : archive_named flight.named.name source.manifest.archives ≡ Some flight.named
  pub uncounted : flight.put ≡ nothing_carried

-- An archive that the target lacks is copied so far, with these added of it.
pub record FitsCopying (told : Option Told) (source : RepoState) (heard : Option Told) (store : Store) (named : ArchiveRef) (options : Options)
    (added : List Addition) (copy : Copy) : Type 0 where
  pub fits : FitsCopy told source copy
  pub open fits use *
  pub unnamed : archive_named named.name (accepted_in store).archives ≡ None
  pub copied : IsCopiedSoFar (origin_of told source options) named heard store copy added

-- The archives of a name are compared so far; a difference is one of this target, where one was met.
pub record FitsNamed (told : Option Told) (source : RepoState) (heard : Option Told) (target : RepoState) (met : Seen) (name : List ℕ)
    (compared : Comparison) : Type 0 where
  pub comparison : FitsTold told source heard target met (comparison_view compared)
  pub same_name : (comparison_view compared).name ≡ name

-- The same of a name that is there.
pub record FitsComparing (told : Option Told) (source : RepoState) (heard : Option Told) (target : RepoState) (met : Seen) (name : List ℕ)
    (compared : Comparison) : Type 0 where
  pub fits : FitsNamed told source heard target met name compared
  pub open fits use *
  pub there : IsSome (archive_named name target.manifest.archives)

-- What is under way fits the source and the store, with these added of it; a difference is one of this target, where one was met.
abbrev pub WorkFits : Seen → Option Told → Store → Seen → ArchiveRef → Options → List Addition → Work → Type 0
WorkFits source heard store met named options added Waiting = added ≡ []
WorkFits source heard store met named options added (Copying copy) = FitsCopying source.told source.repo heard store named options added copy
WorkFits source heard store met named options added (Comparing comparison) =
    FitsComparing source.told source.repo heard (repo_view store.repo) met named.name comparison × (added ≡ [])

-- What earlier flights found to be the same is so, where no step was taken yet.
abbrev pub WaitsMatched : Option Told → RepoState → Option Told → RepoState → Matched → Work → Type 0
WaitsMatched told source heard target matched Waiting = AreMatched told source heard target matched
WaitsMatched told source heard target matched (Copying copy) = Unit {0}
WaitsMatched told source heard target matched (Comparing comparison) = Unit {0}

-- what was found to be the same by what is under way
abbrev pub matched_in : Work → Matched
matched_in Waiting = []
matched_in (Copying copy) = []
matched_in (Comparing comparison) = (comparison_view comparison).matched

pub record FlightFits (told : Option Told) (source : RepoState) (heard : Option Told) (store : Store) (met : Seen) (flight : Flight) : Type 0 where
  pub stands : FlightStands source flight
  pub added : List Addition
  pub work : WorkFits (seen told source) heard store met flight.named flight.options added flight.work
  pub matched : WaitsMatched told source heard (repo_view store.repo) flight.matches flight.work

-- the target in which a difference was met, by what was under way before a turn: this one, where it was met before, or else the one that is read by the turn
abbrev pub met_by : Work → Seen → Seen → Seen
met_by Waiting met now = now
met_by (Copying copy) met now = now
met_by (Comparing comparison) met now = met_behind (comparison_view comparison).other met now

-- the source of a flight
abbrev pub flown_from : Option Told → RepoState → Flight → Origin
flown_from told source flight = origin_of told source flight.options

-- which names were carried by a turn
abbrev pub carried_by : Turn → List ℕ → List (List ℕ)
carried_by More name = []
carried_by Named name = name ∷ []
carried_by Present name = name ∷ []

-- What a turn of a flight did of the archive of a name, and what it added.
abbrev pub Flies : List Addition → Origin → List ℕ → List Addition → TargetState → TargetState → Result Turn CarryFault → Type 0
Flies earlier from name more to to_now result =
    Works (KeepsGrowing earlier from (name ∷ []) to.store more) (λ turn. Grows earlier from (carried_by turn name) more to.store to_now.store) to.told
    to_now.told to.faults to_now.faults result

-- What was done of the archives of names, one after another, and what was added for them.
abbrev pub Carries : {T : Type 0} → List Addition → Origin → List (List ℕ) → List Addition → TargetState → TargetState → Result T CarryFault → Type 0
Carries earlier from chosen added to to_now result =
    Works (KeepsGrowing earlier from chosen to.store added) (λ _. Grows earlier from chosen added to.store to_now.store) to.told to_now.told to.faults
    to_now.faults result

-- what was added for the archive of a name before, what is added now, and the records of that
pub record ArchiveAdds : Type 0 where
  pub name : List ℕ
  pub before : List Addition
  pub more : List Addition
  pub records : List TaggedRecord

abbrev pub archive_adds : List ℕ → List Addition → List Addition → List TaggedRecord → ArchiveAdds
archive_adds name before more records = record { name = name; before = before; more = more; records = records }

-- all that was added for it
abbrev pub all_added : ArchiveAdds → List Addition
all_added adds = adds.before ++ adds.more

-- What was added for an archive once it is done, and its record: all of it where it was copied and the target told its files, and nothing where it was there.
abbrev pub ListsDone : Option Told → Origin → Keys → List ℕ → List TaggedRecord → List Addition → Bool → Type 0
ListsDone before from keys name records added true =
    (one : TaggedRecord) × ((records ≡ one ∷ []) × IfSome before (λ _. ListsOne from keys name one added))
ListsDone before from keys name records added false = (records ≡ []) × (added ≡ [])

-- What was added for an archive, as far as it came, where the target tells its files.
abbrev pub BeginsDone : Option Told → Origin → Keys → ManifestText → List ℕ → List Addition → Type 0
BeginsDone before from keys accepted name begun = IfSome before (λ _. BeginsName from keys accepted [] name begun)

-- What a turn added behind what was added before: pieces of the archive under way, the last of them and its record, or nothing. At the end the flight has
-- counted them.
abbrev pub TurnLists : Seen → Option Told → Store → Seen → Flight → (List TaggedRecord → List Addition → Bool → Type 0) → ArchiveAdds → Turn → Type 0
TurnLists source heard store met flight Lists adds More =
    (fits : FlightFits source.told source.repo heard store met flight) × (fits.added ≡ all_added adds)
TurnLists source heard store met flight Lists adds Named = Lists adds.records (all_added adds) true × CountsOf (all_added adds) flight.put
TurnLists source heard store met flight Lists adds Present = Lists adds.records (all_added adds) false × CountsOf (all_added adds) flight.put

-- Where a turn takes a further item, or is refused but for a device that failed and want of memory, nothing is named.
abbrev pub TurnStands : Border → ℕ → Store → List Addition → Option Told → Option Told → Result Turn CarryFault → Type 0
TurnStands at most store more before now (Ok More) = Between before now (KeepsStandingAt at most store more)
TurnStands at most store more before now (Ok turn) = Unit {0}
TurnStands at most store more before now (Err fault) = IsOfWork fault → Between before now (KeepsStandingAt at most store more)

-- how many segments the end of an archive begins at most: one for its manifest and one for the commit, or one for a commit of what was pending
abbrev pub end_segments : Result Turn CarryFault → ℕ
end_segments (Ok More) = 0
end_segments result = 2

-- What a turn did of the archive of a name and added behind what was added before; the source, the flight, and the target in which it met a difference, are
-- those behind it.
pub record TakesTurn (source : Seen) (from : Origin) (adds : ArchiveAdds) (to to_now : TargetState) (met : Seen) (flight : Flight)
    (result : Result Turn CarryFault) : Type 0 where
  pub flies : Flies adds.before from adds.name adds.more to to_now result
  pub begins : BeginsDone to.told from (repo_view to.store.repo).keys (accepted_in to.store) adds.name (all_added adds)
  pub stands : TurnStands (border_behind AtBegin adds.before) from.most to.store adds.more to.told to_now.told result
  pub last : StopsLast to.told (repo_view to.store.repo).keys adds.more result
  pub held : HoldsRefused (border_behind AtBegin adds.before) from.most to.store adds.more to_now.store to.told to_now.told result
  pub fills : IfErr result (λ fault. FillsFlight to.told from (repo_view to.store.repo).keys (accepted_in to.store) adds.name fault (all_added adds))
  pub lists : IfOk result (TurnLists source to_now.told to_now.store met flight
      (ListsDone to.told from (repo_view to.store.repo).keys flight.named.name)
      (archive_adds flight.named.name adds.before adds.more adds.records))
  pub few : BeginsSegments (2 * length adds.more + end_segments result) to.store to_now.store result

-- What a flight did up to its end: it answers whether the archive was copied.
pub record TakesAll (from : Origin) (adds : ArchiveAdds) (to to_now : TargetState) (flight : Flight) (result : Result Bool CarryFault) : Type 0 where
  pub carries : Carries adds.before from (adds.name ∷ []) adds.more to to_now result
  pub begins : BeginsDone to.told from (repo_view to.store.repo).keys (accepted_in to.store) adds.name (all_added adds)
  pub stands : IfErr result (λ fault. IsOfWork fault → Between to.told to_now.told (KeepsGrowing adds.before from [] to.store adds.more))
  pub last : StopsLast to.told (repo_view to.store.repo).keys adds.more result
  pub held : HoldsRefused (border_behind AtBegin adds.before) from.most to.store adds.more to_now.store to.told to_now.told result
  pub fills : IfErr result (λ fault. FillsFlight to.told from (repo_view to.store.repo).keys (accepted_in to.store) adds.name fault (all_added adds))
  pub lists : IfOk result (λ copied. ListsDone to.told from (repo_view to.store.repo).keys adds.name adds.records (all_added adds) copied
      × CountsOf (all_added adds) flight.put)
  pub few : BeginsSegments (2 * length adds.more + 2) to.store to_now.store result

-- What the end of an archive did, all of whose items were copied, and what it added behind what was added before.
pub record EndsCopy (from : Origin) (adds : ArchiveAdds) (to to_now : TargetState) (result : Result Carried CarryFault) : Type 0 where
  pub carries : Carries adds.before from (adds.name ∷ []) adds.more to to_now result
  pub begins : IfSome to.told (λ _. BeginsOne from (repo_view to.store.repo).keys adds.name (all_added adds))
  pub stands : IfErr result (λ fault. IsOfWork fault → Between to.told to_now.told (KeepsStanding from.most to.store adds.more))
  pub last : StopsLast to.told (repo_view to.store.repo).keys adds.more result
  pub held : HoldsRefused (border_behind AtBegin adds.before) from.most to.store adds.more to_now.store to.told to_now.told result
  pub lists : IfOk result (λ put. ListsDone to.told from (repo_view to.store.repo).keys adds.name adds.records (all_added adds) true
      × CountsOf (all_added adds) put)
  pub few : BeginsSegments (2 * length adds.more + 2) to.store to_now.store result

-- The archive of a name is whole in the source and in the target, and says the same in both, where they tell their files.
abbrev pub IsSame : Origin → Option Told → RepoState → List ℕ → Type 0
IsSame from heard target name = IfSome heard (λ d. IfSome from.files (λ there. (whole : WholeArchive)
    × (SaysIn there from.repo name whole × SaysIn (told_files d) target name whole)))

-- An archive is accepted under its name, and no other that another manifest lacks.
pub record AcceptsOne (accepted : ManifestText) (store : Store) (entry : ArchiveRef) : Type 0 where
  pub keeps : KeepsNames (repo_view store.repo).manifest accepted
  pub only : IsNamedBy accepted (entry.name ∷ []) (accepted_in store)
  pub there : archive_named entry.name (accepted_in store).archives ≡ Some entry

-- A source is this one, whose manifest has this entry, and the time of each manifest is this.
pub record IsFlown (from : Origin) (source : RepoState) (given : Option (List ℕ)) (named : ArchiveRef) : Type 0 where
  pub repo : from.repo ≡ source
  pub time : from.time ≡ given
  pub named_is : archive_named named.name source.manifest.archives ≡ Some named

-- What a body did that commits the archive of this entry with this manifest, all of which is there in the target, behind its record.
abbrev pub NamesArchive : ManifestText → ArchiveRef → ManifestText → TargetState → TargetState → Result (Unit {0}) CarryFault → Type 0
NamesArchive accepted entry manifest to to_now result = (from : Origin) (earlier : List Addition)
    → border_behind AtBegin earlier ≡ AtEnd → IfSome to.told (λ t. IsReadyToName from earlier (told_files t) (repo_view to.store.repo) entry)
    → IsBehind from accepted (repo_view to.store.repo).manifest (entry.name ∷ []) manifest
    → Works (KeepsGrowingBy earlier accepted from (entry.name ∷ []) to.store [])
    (λ _. GrowsBy (job earlier accepted from (entry.name ∷ [])) [] to.store to_now.store) to.told to_now.told to.faults to_now.faults result

-- Where a store accepted an archive of this name, it has committed it.
abbrev pub IsCommitted : Store → List ℕ → Type 0
IsCommitted store name = (entry : ArchiveRef) → archive_named name (accepted_in store).archives ≡ Some entry
    → archive_named name (repo_view store.repo).manifest.archives ≡ Some entry
