-- What a transfer tells while archives come: a name is told only once each stop shows it carried.
use Rattle.std.specs.Prelude.{◌≡◌, ◌+◌, ◌*◌, ◌++◌, ℕ, Bool, List, [], ◌∷◌, length, Option, Result, IfErr, IfSome, OnOk}
use Rattle.ferry_disk.specs.Act.{History}
use Rattle.ferry_disk.specs.Device.{Told}
use Rattle.ferry_disk.specs.Files.{Files}
use Rattle.ferry_disk.specs.Moments.{Between, Moments}
use Rattle.ferry_manifest.specs.Manifest.Text.{ManifestText}
use Rattle.ferry_repo.specs.Opening.{RepoState, repo_view}
use Rattle.ferry_stops.specs.Tells.{lines_of}
use Rattle.ferry_store.specs.Commit.{accepted_in}
use Rattle.ferry_store.specs.Standing.{entries_of}
use Rattle.ferry_store.specs.State.{Written}
use Rattle.ferry_store.specs.Store.{StoreFits}
use Rattle.ferry_store.specs.declared.store.Store.{Store}
use Rattle.ferry_piece.specs.Adding.{BeginsSegments, HoldsRefused, StopsLast}
use Rattle.ferry_carry.specs.Accepting.{AreNamedNext}
use Rattle.ferry_carry.specs.Carrying.{Origin}
use Rattle.ferry_carry.specs.Counting.{CountsMore, IsTotalOf, TellsNew}
use Rattle.ferry_carry.specs.Filling.{FillsAll}
use Rattle.ferry_carry.specs.Grow.{Grows, KeepsGrowing, StandsOn}
use Rattle.ferry_carry.specs.Listing.{BeginsNames, ListsNames}
use Rattle.ferry_carry.specs.Naming.{DrawsSalts, TaggedRecord}
use Rattle.ferry_carry.specs.States.{Drawn, TargetState}
use Rattle.ferry_piece.specs.Front.{HoldsFront, IsSoundWith}
use Rattle.ferry_piece.specs.Puts.{Addition, AtBegin, border_behind}
use Rattle.ferry_carry.specs.Lines.{name_line, told_of, total_line}
use Rattle.ferry_piece.specs.Work.{Works}
use Rattle.ferry_piece.specs.declared.fault.CarryFault.{CarryFault}
use Rattle.ferry_carry.specs.declared.options.Carried.{Carried}

-- ---- lines

-- A line tells a name behind these.
abbrev pub IsLineOf : ManifestText → List (List ℕ) → List ℕ → List ℕ → Type 0
IsLineOf accepted before line name = (copied : Bool) × ((line ≡ name_line (told_of copied) name) × TellsNew accepted before name copied)

-- These lines tell these names behind others, one each, in this order.
abbrev pub AreLines : ManifestText → List (List ℕ) → List (List ℕ) → List (List ℕ) → Type 0
AreLines accepted before [] [] = Unit {0}
AreLines accepted before [] (name ∷ names) = ⊥
AreLines accepted before (line ∷ lines) [] = ⊥
AreLines accepted before (line ∷ lines) (name ∷ names) = IsLineOf accepted before line name × AreLines accepted (before ++ name ∷ []) lines names

-- Nothing, or the line of the whole.
abbrev pub IsTotal : List (List ℕ) → Type 0
IsTotal [] = Unit {0}
IsTotal (line ∷ []) = (carried : Carried) × (line ≡ total_line carried)
IsTotal (line ∷ (next ∷ lines)) = ⊥

-- Lines tell the names of a front of these, and behind them perhaps the whole.
pub record IsReport (accepted : ManifestText) (lines done : List (List ℕ)) : Type 0 where
  pub told : List (List ℕ)
  pub more : List (List ℕ)
  pub reported : List (List ℕ)
  pub last : List (List ℕ)
  pub split : lines ≡ reported ++ last
  pub are : AreLines accepted [] reported told
  pub front : done ≡ told ++ more
  pub total : IsTotal last

-- ---- at each moment

-- A moment at which each stop shows this, where these lines were told since another, no counter block serves two blobs, and that is what is read.
pub record IsReported (Show : List (List ℕ) → Files → Type 0) (Read : Files → Type 0) (counts : Bool) (before moment : History) : Type 0 where
  pub lines : List (List ℕ)
  pub told : lines_of moment.acts ≡ lines_of before.acts ++ lines
  pub sound : IsSoundWith (Show lines) Read counts moment

-- Of the chosen names those of a front were carried, and of these a front was told.
abbrev pub ShowsReport : Origin → List (List ℕ) → List Addition → ManifestText → RepoState → Written → List (List ℕ) → Files → Type 0
ShowsReport from chosen within accepted repo written lines image =
    (stands : StandsOn [] from chosen within accepted repo written image) × IsReport accepted lines stands.done

-- At a moment each stop shows so, and all that the segments have is a front of what goes on so from what was written.
abbrev pub IsReportedOf : Origin → List (List ℕ) → Store → List Addition → Written → Bool → History → History → Type 0
IsReportedOf from chosen store within written counts before moment =
    IsReported (ShowsReport from chosen within (accepted_in store) (repo_view store.repo) written)
    (HoldsFront (border_behind AtBegin []) (repo_view store.repo).keys from.most (entries_of written) within) counts before moment

-- So it is at each moment.
abbrev pub KeepsReported : Origin → List (List ℕ) → Store → List Addition → History → History → Type 0
KeepsReported from chosen store within before now = (counts : Bool) (fits : StoreFits counts store before)
    → Moments (IsReportedOf from chosen store within fits.written counts before) before now

-- ---- at the end

-- These names were told, and nothing else.
abbrev pub TellsNames : ManifestText → List (List ℕ) → History → History → Type 0
TellsNames accepted names before now =
    (lines : List (List ℕ)) × ((lines_of now.acts ≡ lines_of before.acts ++ lines) × AreLines accepted [] lines names)

-- These names were told, and behind them the whole, with their numbers and those of what was put of these.
abbrev pub TellsWhole : ManifestText → List (List ℕ) → List Addition → Carried → History → History → Type 0
TellsWhole accepted names added carried before now = IsTotalOf accepted names added carried
    × ((lines : List (List ℕ)) × ((lines_of now.acts ≡ lines_of before.acts ++ (lines ++ total_line carried ∷ [])) × AreLines accepted [] lines names))

-- These names were carried, and what was added is all that is added for them, with their records.
abbrev pub CarriesNames : Origin → List (List ℕ) → List TaggedRecord → List Addition → Store → Store → History → History → Type 0
CarriesNames from chosen records added store store_now before now = Grows [] from chosen added store store_now before now
    × ListsNames from (repo_view store.repo).keys (accepted_in store) [] chosen records added

-- The manifest that is accepted is the one behind the archives of these names, by the ids of their records, whose salts were drawn, and each on the way to it
-- is no larger than the content of an object may be.
abbrev pub AcceptsNames : Origin → List (List ℕ) → List TaggedRecord → Store → Store → Option (List ℕ) → Option (List ℕ) → Type 0
AcceptsNames from chosen records store store_now drawn drawn_now =
    AreNamedNext from.time from.repo.manifest (repo_view store.repo).keys (accepted_in store) chosen records (accepted_in store_now)
    × DrawsSalts records drawn drawn_now

-- What was added for these names, as far as it came, where the target tells its files.
abbrev pub BeginsAll : Option Told → Origin → Store → List (List ℕ) → List Addition → Type 0
BeginsAll before from store chosen begun = IfSome before (λ _. BeginsNames from (repo_view store.repo).keys (accepted_in store) [] chosen begun)

-- What was done of the archives of names, one after another, each of which was told behind it, and counted. For each content that was added, and for each
-- name, two segments were begun at most.
pub record Reports (from : Origin) (chosen : List (List ℕ)) (to to_now : TargetState) (carried carried_now : Carried) (drawn : Drawn)
    (result : Result (Unit {0}) CarryFault) : Type 0 where
  pub added : List Addition
  pub records : List TaggedRecord
  pub begins : BeginsAll to.told from to.store chosen added
  pub works : Works (KeepsReported from chosen to.store added)
      (λ _ h g. CarriesNames from chosen records added to.store to_now.store h g × TellsNames (accepted_in to.store) chosen h g) to.told to_now.told
      to.faults to_now.faults result
  pub accepts : OnOk result (AcceptsNames from chosen records to.store to_now.store drawn.before drawn.now)
  pub counted : OnOk result (CountsMore (accepted_in to.store) chosen added carried carried_now)
  pub last : StopsLast to.told (repo_view to.store.repo).keys added result
  pub held : HoldsRefused AtBegin from.most to.store added to_now.store to.told to_now.told result
  pub fills : IfErr result (λ fault. FillsAll to.told from to.store chosen fault added)
  pub few : BeginsSegments (2 * length added + 2 * length chosen) to.store to_now.store result

-- The same from the begin on, and behind them the whole was told.
pub record ReportsWhole (from : Origin) (chosen : List (List ℕ)) (to to_now : TargetState) (drawn : Drawn) (result : Result Carried CarryFault) : Type 0 where
  pub added : List Addition
  pub records : List TaggedRecord
  pub begins : BeginsAll to.told from to.store chosen added
  pub works : Works (KeepsReported from chosen to.store added)
      (λ carried h g. CarriesNames from chosen records added to.store to_now.store h g
      × TellsWhole (accepted_in to.store) chosen added carried h g) to.told to_now.told to.faults to_now.faults result
  pub accepts : OnOk result (AcceptsNames from chosen records to.store to_now.store drawn.before drawn.now)
  pub last : StopsLast to.told (repo_view to.store.repo).keys added result
  pub held : HoldsRefused AtBegin from.most to.store added to_now.store to.told to_now.told result
  pub fills : IfErr result (λ fault. FillsAll to.told from to.store chosen fault added)
  pub few : BeginsSegments (2 * length added + 2 * length chosen) to.store to_now.store result

-- ---- where it is refused

-- Of these names those of a front were carried and told, and no other came.
pub record StopsBehind (from : Origin) (names : List (List ℕ)) (store : Store) (before now : Option Told) : Type 0 where
  pub done : List (List ℕ)
  pub rest : List (List ℕ)
  pub split : names ≡ done ++ rest
  pub added : List Addition
  pub begins : BeginsAll before from store names added
  pub each : Between before now (λ h g. KeepsReported from done store added h g × TellsNames (accepted_in store) done h g)

-- Of the archive of a name something was added, as far as it came, and nothing was named.
pub record StopsUnnamed (from : Origin) (name : List ℕ) (store : Store) (before now : Option Told) : Type 0 where
  pub added : List Addition
  pub begins : BeginsAll before from store (name ∷ []) added
  pub each : Between before now (KeepsGrowing [] from [] store added)
