-- The steps of a plan: an item that is taken, the items so far, an archive, a name; and what a refusal of each says.
use Rattle.std.specs.Prelude.{◌≡◌, ◌≢◌, ◌⊎◌, ◌++◌, ℕ, List, [], ◌∷◌, Option, Some, None, IfSome, IsSome}
use Rattle.std.specs.List.{AllByRecursion}
use Rattle.ferry_carry.specs.Copied.{copied_item, pieces_of}
use Rattle.ferry_carry.specs.Listing.{FillsOn, ListsItems}
use Rattle.ferry_carry.specs.Refusals.{HasLongItem, IsTooLong}
use Rattle.ferry_disk.specs.Device.{Told, told_files}
use Rattle.ferry_disk.specs.Files.{Files}
use Rattle.ferry_item.specs.Item.{ItemText}
use Rattle.ferry_item.specs.Writing.{item_text}
use Rattle.ferry_mac.specs.declared.keys.Keys.{Keys}
use Rattle.ferry_piece.specs.Puts.{Addition, ArePieces, Content}
use Rattle.ferry_plan.specs.Plan.{HasNoLong, IsEqual, PlansName, source_of}
use Rattle.ferry_plan.specs.declared.fault.PlanFault.{PlanFault}
use Rattle.ferry_plan.specs.declared.fault.PlanFault.TheVariants.{Source, Pieces, Memory}
use Rattle.ferry_repo.specs.Archives.{archive_named, RefusesJoined}
use Rattle.ferry_repo.specs.Fault.{IsOfFiles}
use Rattle.ferry_repo.specs.Opening.{RepoState}
use Rattle.ferry_repo.specs.Walk.{IsToCome, LeadsOn, WalkState}
use Rattle.ferry_repo.specs.Whole.{HoldsItem, RefusesWhole, WholeItem, WholesCome}
use Rattle.ferry_repo.specs.declared.fault.RepoFault.{RepoFault}
use Rattle.ferry_repo.specs.declared.fault.RepoFault.TheVariants as Repos

-- What a refusal says of the source's files: that this is refused, so, or that this is too long.
abbrev pub RefusesBy : Option Told → (Files → RepoFault → Type 0) → (Files → Type 0) → PlanFault → Type 0
RefusesBy told Refused Long (Source fault) = (fault ≢ Repos.Memory) × (IsOfFiles fault → IfSome told (λ t. Refused (told_files t) fault))
RefusesBy told Refused Long Pieces = IfSome told (λ t. Long (told_files t))
RefusesBy told Refused Long Memory = Unit {0}
RefusesBy told Refused Long fault = ⊥

-- ---- items

-- An item isn't too long.
abbrev pub IsShort : ℕ → ItemText → Type 0
IsShort block item = IsTooLong block item.chunks → ⊥

-- The content of an item that isn't too long is refused, so.
abbrev pub RefusesShort : Files → RepoState → ℕ → ItemText → RepoFault → Type 0
RefusesShort there source block item fault = RefusesJoined there source.log source.keys item.chunks fault × IsShort block item

-- An item of a source has this content, whose pieces were taken, and those of the stream that its spelling completes.
pub record TakesItem (there : Files) (source : RepoState) (keys : Keys) (block : ℕ) (item : ItemText) (piece : List ℕ) (more : List Addition)
    (piece_now : List ℕ) : Type 0 where
  pub short : IsShort block item
  pub whole : WholeItem
  pub holds : HoldsItem there source.log source.keys item whole
  pub own : List Addition
  pub own_is : ArePieces Content (pieces_of block whole.content) own
  pub full : List Addition
  pub fills : FillsOn piece (item_text (copied_item keys block whole)) full piece_now
  pub more_is : more ≡ own ++ full

-- From where a walk stood, these items came with their contents, none of them too long, and then the walk stands there.
pub record ComesTo (there : Files) (source : RepoState) (block : ℕ) (from now : WalkState) : Type 0 where
  pub items : List ItemText
  pub leads : LeadsOn there source.log source.keys from items now
  pub wholes : List WholeItem
  pub come : WholesCome there source.log source.keys items None wholes None
  pub short : AllByRecursion (IsShort block) items

-- The same, and these pieces of them were taken.
pub record GoesOn (there : Files) (source : RepoState) (keys : Keys) (block : ℕ) (from : WalkState) (piece : List ℕ) (now : WalkState)
    (more : List Addition) (piece_now : List ℕ) : Type 0 where
  pub comes : ComesTo there source block from now
  pub lists : ListsItems keys block piece comes.wholes more piece_now

-- Those are all.
pub record TakesAll (there : Files) (source : RepoState) (keys : Keys) (block : ℕ) (from : WalkState) (piece : List ℕ) (more : List Addition)
    (piece_now : List ℕ) : Type 0 where
  pub last : WalkState
  pub goes : GoesOn there source keys block from piece last more piece_now
  pub end : IsToCome there source.log source.keys last [] None

-- Of the items from there on, the content of the next one, or the stream in front of it, is refused, so.
pub record StopsStream (there : Files) (source : RepoState) (block : ℕ) (from : WalkState) (fault : RepoFault) : Type 0 where
  pub now : WalkState
  pub comes : ComesTo there source block from now
  pub refused : IsToCome there source.log source.keys now [] (Some fault)
      ⊎ ((item : ItemText) × ((after : WalkState) × (LeadsOn there source.log source.keys now (item ∷ []) after × RefusesShort there source block item fault)))

-- Of the items from there on, the next one is too long.
pub record StopsLong (there : Files) (source : RepoState) (block : ℕ) (from : WalkState) : Type 0 where
  pub now : WalkState
  pub comes : ComesTo there source block from now
  pub item : ItemText
  pub after : WalkState
  pub taken : LeadsOn there source.log source.keys now (item ∷ []) after
  pub long : IsTooLong block item.chunks

-- ---- archives

-- The archive of a name isn't whole in the source, so; no item that is too long is reached before.
abbrev pub RefusesFirst : RepoState → ℕ → List ℕ → Files → RepoFault → Type 0
RefusesFirst source block name there fault = RefusesWhole there source.log source.keys source.manifest.archives name fault
    × HasNoLong there source block name

-- An item of the archive of a name is reached that is too long.
abbrev pub ReachesLong : RepoState → ℕ → List ℕ → Files → Type 0
ReachesLong source block name there = HasLongItem there (source_of there source block) name

-- ---- names

-- What is planned for a name behind others: this is added, and where the target has the name its archive is equal.
pub record PlansOne (there : Files) (source : RepoState) (block : ℕ) (files : Files) (target : RepoState) (before : List (List ℕ)) (name : List ℕ)
    (one : List Addition) : Type 0 where
  pub present : IsSome (archive_named name target.manifest.archives) → IsEqual there source files target name
  pub plans : PlansName there source block target.keys target.manifest before name one
