-- What the turns of a flight ask of a store, and what they leave of it: one turn, all of one archive, and those of several archives.
use Rattle.std.specs.Prelude.{◌≡◌, ◌≢◌, ◌≤◌, ℕ, false, List, [], Option, None, Result, Ok, Err, IfErr, IfOk, IfSome, IsSome, OnOk}
use Rattle.ferry_compare.specs.declared.comparison.Compared.{Compared}
use Rattle.ferry_compare.specs.declared.comparison.Compared.TheVariants.{Differs, Equal}
use Rattle.ferry_compare.specs.Compare.{Seen}
use Rattle.ferry_disk.specs.Device.{HasCause, Told, heard}
use Rattle.ferry_disk.specs.Moments.{Between}
use Rattle.ferry_manifest.specs.Manifest.Writing.{IsPackable}
use Rattle.ferry_manifest.specs.declared.manifest.ArchiveRef.{ArchiveRef}
use Rattle.ferry_piece.specs.Fault.{IsOfWork, random_failed, shelf_failed}
use Rattle.ferry_piece.specs.Stops.{StopsTarget}
use Rattle.ferry_piece.specs.declared.fault.CarryFault.{CarryFault}
use Rattle.ferry_piece.specs.declared.fault.CarryFault.TheVariants.{Taken, Target}
use Rattle.ferry_repo.specs.Archives.{archive_named}
use Rattle.ferry_repo.specs.Opening.{RepoState, repo_view}
use Rattle.ferry_stops.specs.Tells.{TellsNothing}
use Rattle.ferry_store.specs.Commit.{accepted_in, IsSettled}
use Rattle.ferry_store.specs.Store.{IsUnspent}
use Rattle.ferry_store.specs.declared.fault.StoreRefusal.TheVariants.{TooLarge}
use Rattle.ferry_store.specs.declared.store.Store.{Store}
use Rattle.ferry_carry.specs.Accepting.{HasLargeNext, LimitsNames}
use Rattle.ferry_carry.specs.Calls.{FitsDepot, FitsShelf, ReadsSource}
use Rattle.ferry_carry.specs.States.{SourceState, TargetState}
use Rattle.ferry_carry.specs.Carrying.{Origin, origin}
use Rattle.ferry_carry.specs.Flight.{IsCommitted, IsSame}
use Rattle.ferry_carry.specs.Grow.{AcceptsMore, KeepsMost}
use Rattle.ferry_carry.specs.Refusals.{DiffersThere, EndsAt, IsChunk, IsLimited, Leaves, RefusesComparing, RefusesMet, RefusesName, StopsAtChunk, WhereTold}
use Rattle.ferry_carry.specs.Refusals.{is_of_telling}
use Rattle.ferry_carry.specs.Telling.{StopsBehind, StopsUnnamed, TellsNames}
use Rattle.ferry_carry.specs.declared.flight.Flight.{Flight}
use Rattle.ferry_carry.specs.declared.flight.Turn.{Turn}
use Rattle.ferry_carry.specs.declared.flight.Turn.TheVariants.{More, Named, Present}
use Rattle.ferry_carry.specs.declared.flight.Work.{Work}
use Rattle.ferry_carry.specs.declared.flight.Work.TheVariants.{Comparing}

-- ---- one turn

-- A store that can be flown into: no more is pending than may be, it fits and can be written, what it accepted can be packed, with each archive that it
-- committed, and an archive of this name is committed where it is accepted.
pub record CanFly (most : ℕ) (name : List ℕ) (told : Option Told) (store : Store) : Type 0 where
  pub pending : store.pending ≤ most
  pub unspent : IsUnspent store
  pub fits : FitsDepot told store
  pub packable : IsPackable (accepted_in store)
  pub accepts : AcceptsMore store
  pub committed : IsCommitted store name

-- Such a store is left by a turn, with each archive that it had; it has committed all that it accepted where it had.
pub record FliesOn (most : ℕ) (name : List ℕ) (store : Store) (now : Option Told) (store_now : Store) : Type 0 where
  pub pending : store_now.pending ≤ most
  pub unspent : IsUnspent store_now
  pub fits : FitsDepot now store_now
  pub packable : IsPackable (accepted_in store_now)
  pub accepts : AcceptsMore store_now
  pub committed : IsCommitted store_now name
  pub most_kept : KeepsMost store store_now
  pub settled : IsSettled store → IsSettled store_now

-- What a turn's answer says: an archive is named whose name was in no archive that the store had accepted, and answered as present where its name was in one;
-- behind both nothing is pending. The flight is of the same archive, copied so.
pub record EndsTurn (flight flight_now : Flight) (store store_now : Store) (result : Result Turn CarryFault) : Type 0 where
  pub more : result ≡ Ok More → accepted_in store_now ≡ accepted_in store
  pub new : result ≡ Ok Named → archive_named flight.named.name (accepted_in store).archives ≡ None
  pub there : result ≡ Ok Present → IsSome (archive_named flight.named.name (accepted_in store).archives)
  pub still : result ≡ Ok Present → accepted_in store_now ≡ accepted_in store
  pub ended : IfOk result (λ turn. turn ≢ More → store_now.pending ≡ 0)
  pub name : flight_now.named ≡ flight.named
  pub options : flight_now.options ≡ flight.options

-- What a turn drew: random bytes where an archive is named alone; and the source of them counted a fault where it failed.
pub record DrawsInTurn (drawn drawn_now : Option (List ℕ)) (count after : ℕ) (result : Result Turn CarryFault) : Type 0 where
  pub undrawn : IfOk result (λ turn. turn ≢ Named → drawn_now ≡ drawn)
  pub entropy : HasCause random_failed count after result

-- A turn that compares names nothing, and draws nothing.
pub record OnlyCompares (result : Result Turn CarryFault) : Type 0 where
  pub unnamed : result ≢ Ok Named
  pub drawn : IfErr result (λ fault. random_failed fault ≡ false)

-- Why a turn of the flight of an archive is refused, which limit is met, and what is left of the store: behind a refusal that isn't the target's it can be used
-- on, by other flights too. A difference is one of this target, in which it was met.
pub record StopsTurn (from : Origin) (before : Option Told) (store : Store) (now : Option Told) (store_now : Store) (met : Seen) (named : ArchiveRef)
    (fault : CarryFault) : Type 0 where
  pub refused : RefusesMet from before store now store_now met named.name fault
  pub limit : IsLimited now from.time from.repo store named fault
  pub left : Leaves from.most store now store_now fault

-- A target tells what it told, and its repository says the same.
pub record IsUntouched (to to_now : TargetState) : Type 0 where
  pub told : heard to_now.told ≡ heard to.told
  pub repo : repo_view to_now.store.repo ≡ repo_view to.store.repo

-- A turn that compares leaves the target so where it goes on, and where it ends at a difference.
abbrev pub OnlyReads : TargetState → TargetState → Result Turn CarryFault → Type 0
OnlyReads to to_now (Ok More) = IsUntouched to to_now
OnlyReads to to_now (Err (Taken name)) = IsUntouched to to_now
OnlyReads to to_now result = Unit {0}

-- So does each turn behind the first, where archives are compared.
abbrev pub ReadsWhere : Work → TargetState → TargetState → Result Turn CarryFault → Type 0
ReadsWhere (Comparing comparison) to to_now result = OnlyReads to to_now result
ReadsWhere work to to_now result = Unit {0}

-- What both archives of a name are found to be: the same, or not, in the target in which a difference was met.
pub record Finds (told : Option Told) (source : RepoState) (now : Option Told) (target : RepoState) (met : Seen) (name : List ℕ)
    (result : Result Compared CarryFault) : Type 0 where
  pub equal : result ≡ Ok Equal → (block most : ℕ) (time : Option (List ℕ)) → IsSame (origin told source block most time) now target name
  pub differs : result ≡ Ok Differs → (block most : ℕ) (time : Option (List ℕ)) → DiffersThere (origin told source block most time) met.told met.repo name

-- Why archives of a name aren't compared; no refusal is of a source of random bytes.
pub record StopsComparing {T : Type 0} (told : Option Told) (source : RepoState) (name : List ℕ) (result : Result T CarryFault) : Type 0 where
  pub refused : IfErr result (RefusesComparing told source name)
  pub drawn : IfErr result (λ fault. random_failed fault ≡ false)

-- Why the end of an archive is refused by a target, which limit is met, and what is left of the store.
pub record StopsEnding (most : ℕ) (source : RepoState) (given : Option (List ℕ)) (store : Store) (now : Option Told) (store_now : Store) (named : ArchiveRef)
    (fault : CarryFault) : Type 0 where
  pub stops : StopsTarget now (repo_view store.repo).keys fault
  pub left : Leaves most store now store_now fault
  pub limit : IsLimited now given source store named fault

-- A turn asks for a source, and a target that can be flown into.
pub record CanTurn (most : ℕ) (name : List ℕ) (from : SourceState) (to : TargetState) : Type 0 where
  pub source : FitsShelf from.told from.repo
  pub target : CanFly most name to.told to.store

-- It leaves both so, and its answer says what was done.
pub record Turns (flight flight_now : Flight) (from from_now : SourceState) (to to_now : TargetState) (result : Result Turn CarryFault) : Type 0 where
  pub source : ReadsSource shelf_failed from from_now result
  pub target : OnOk result (FliesOn flight.options.checkpoint flight_now.named.name to.store to_now.told to_now.store)
  pub turn : EndsTurn flight flight_now to.store to_now.store result

-- ---- many turns

-- Why a flight is refused, and which manifest is too large then.
pub record StopsFlight (from : Origin) (before : Option Told) (store : Store) (now : Option Told) (store_now : Store) (name : List ℕ) (fault : CarryFault)
    : Type 0 where
  pub refused : RefusesName from before store now store_now name fault
  pub limit : fault ≡ Target TooLarge → IfSome now (λ _. HasLargeNext from.time from.repo.manifest (repo_view store.repo).keys (accepted_in store) name)

-- What else a refusal says that ends the archive of a name, the source of random bytes having handed out this before and now: but for a line that isn't told
-- it comes before the name is told; which manifest is too large; which content a live chunk that stops it has the id of; and but for a device that failed and
-- want of memory nothing is named.
pub record StopsName (from : Origin) (name : List ℕ) (store : Store) (before now : Option Told) (drawn drawn_now : Option (List ℕ)) (fault : CarryFault)
    : Type 0 where
  pub untold : is_of_telling fault ≡ false → Between before now TellsNothing
  pub limit : fault ≡ Target TooLarge → IfSome now (λ _. HasLargeNext from.time from.repo.manifest (repo_view store.repo).keys (accepted_in store) name)
  pub chunk : (id : List ℕ) → IsChunk id fault
      → WhereTold from before (λ _. EndsAt from (repo_view store.repo).keys (accepted_in store) [] name drawn drawn_now id)
  pub stands : IsOfWork fault → StopsUnnamed from name store before now

-- The same of the archives of names, one after another: what is said of the name behind those that were told, and these came, and no other.
pub record StopsNames (from : Origin) (names : List (List ℕ)) (store : Store) (before now : Option Told) (drawn drawn_now : Option (List ℕ))
    (fault : CarryFault) : Type 0 where
  pub limit : fault ≡ Target TooLarge → IfSome before (λ b. IfSome now (λ t. LimitsNames from.time from.repo.manifest (repo_view store.repo).keys
      (accepted_in store) names (λ done. TellsNames (accepted_in store) done b.history t.history)))
  pub chunk : (id : List ℕ) → IsChunk id fault → IfSome before (λ b. IfSome now (λ t. IfSome from.files (λ _. StopsAtChunk from (repo_view store.repo).keys
      (accepted_in store) names (λ done. TellsNames (accepted_in store) done b.history t.history) drawn drawn_now id)))
  pub stands : IsOfWork fault → StopsBehind from names store before now
