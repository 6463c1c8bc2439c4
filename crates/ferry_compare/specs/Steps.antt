-- Steps of the bodies that compare two archives: where they begin, the next item of each, and the contents of two items.
use Rattle.std.specs.Prelude.{◌≡◌, ℕ, ◌≤◌, Bool, true, false, List, [], ◌∷◌, ◌++◌, length, take, drop, Option, Some, None, IfSome, option_map}
use Rattle.ferry_disk.specs.Device.{Told, told_files}
use Rattle.ferry_disk.specs.Files.{Files}
use Rattle.ferry_item.specs.Item.{ItemText}
use Rattle.ferry_item.specs.Stream.{joined}
use Rattle.ferry_item.specs.declared.item.ChunkRef.{ChunkRef}
use Rattle.ferry_manifest.specs.Record.Text.{ArchiveText, archive_view}
use Rattle.ferry_manifest.specs.declared.manifest.ArchiveRef.{ArchiveRef}
use Rattle.ferry_msgpack.specs.Tree.{Tree}
use Rattle.ferry_repo.specs.Archives.{archive_named, HoldsRecord, RefusesRecord, HoldsContent, ContentsCome, HoldsJoined, RefusesJoined}
use Rattle.ferry_repo.specs.Fault.{IsOfFiles}
use Rattle.ferry_repo.specs.Opening.{RepoState}
use Rattle.ferry_repo.specs.Walk.{WalkState, walk_view, begin_walk, IsToCome, LeadsOn, FitsWalk}
use Rattle.ferry_repo.specs.Whole.{WholeItem, HoldsItem, WholeArchive, RefusesWhole}
use Rattle.ferry_repo.specs.declared.fault.RepoFault.{RepoFault}
use Rattle.ferry_compare.specs.Compare.{Says}
use Rattle.ferry_compare.specs.declared.beginning.Side.{Side}
use Rattle.ferry_compare.specs.declared.cursor.Cursor.{Cursor}
use Rattle.ferry_compare.specs.declared.fault.CompareFault.{CompareFault}
use Rattle.ferry_compare.specs.declared.fault.CompareFault.TheVariants.{Source, Target, Memory}

-- What holds by an answer: the statement, or that it doesn't hold.
abbrev pub HoldsWhere : Bool → Type 0 → Type 0
HoldsWhere true statement = statement
HoldsWhere false statement = statement → ⊥

-- ---- refusals of the source

-- What a refusal says of the source's archive: it isn't whole, and this comes first.
abbrev pub RefusesSource : Option Told → RepoState → List ℕ → CompareFault → Type 0
RefusesSource told repo name (Source fault) =
    IsOfFiles fault → IfSome told (λ t. RefusesWhole (told_files t) repo.log repo.keys repo.manifest.archives name fault)
RefusesSource told repo name (Target fault) = Unit {0}
RefusesSource told repo name Memory = Unit {0}

-- What a refusal says of the content of an item of the source: one of its chunks is refused first, so.
abbrev pub RefusesItem : Option Told → RepoState → Option (List ChunkRef) → CompareFault → Type 0
RefusesItem told repo chunks (Source fault) = IsOfFiles fault → IfSome told (λ t. RefusesJoined (told_files t) repo.log repo.keys chunks fault)
RefusesItem told repo chunks (Target fault) = Unit {0}
RefusesItem told repo chunks Memory = Unit {0}

-- ---- where a comparison begins

-- an archive whose record was read, with a walk in front of its items
pub record SideState : Type 0 where
  pub archive : ArchiveText
  pub walk : WalkState

abbrev pub side_view : Side → SideState
side_view side = record { archive = archive_view side.archive; walk = walk_view side.walk }

-- The record of the archive of this name reads, and the walk stands in front of its stream.
pub record Opens (files : Files) (repo : RepoState) (name : List ℕ) (side : SideState) : Type 0 where
  pub named : ArchiveRef
  pub named_is : archive_named name repo.manifest.archives ≡ Some named
  pub record_is : HoldsRecord files repo.log repo.keys named.id side.archive
  pub walk_is : side.walk ≡ begin_walk named.id side.archive.items

-- Why it doesn't read: its record is refused.
abbrev pub RefusesSide : Files → RepoState → List ℕ → RepoFault → Type 0
RefusesSide files repo name fault =
    (named : ArchiveRef) × (archive_named name repo.manifest.archives ≡ Some named) × RefusesRecord files repo.log repo.keys named.id fault

-- The target's record reads, or no archive is whole under this name.
abbrev pub OpensBeside : Files → RepoState → List ℕ → Option SideState → Type 0
OpensBeside files repo name None = (whole : WholeArchive) → Says files repo name whole → ⊥
OpensBeside files repo name (Some side) = Opens files repo name side

-- the time that a manifest has for a name
abbrev pub time_named : List ℕ → List ArchiveRef → Option (List ℕ)
time_named name archives = option_map (λ a. a.time) (archive_named name archives)

-- Both archives have the same time, and their records the same fields.
abbrev pub SameHead : RepoState → RepoState → List ℕ → Tree → SideState → Type 0
SameHead source target name fields side =
    (time_named name source.manifest.archives ≡ time_named name target.manifest.archives) × (fields ≡ side.archive.fields)

-- The target's walk goes along where its record reads, and the head of both archives is the same.
abbrev pub KeepsSide : RepoState → RepoState → List ℕ → Tree → Option SideState → Option WalkState → Type 0
KeepsSide source target name fields None None = Unit {0}
KeepsSide source target name fields None (Some walk) = ⊥
KeepsSide source target name fields (Some side) None = SameHead source target name fields side → ⊥
KeepsSide source target name fields (Some side) (Some walk) = (walk ≡ side.walk) × SameHead source target name fields side

-- ---- the next item of the target

-- The walk has answered this item, and fits still.
pub record Goes (files : Files) (repo : RepoState) (from : WalkState) (item : ItemText) (now : WalkState) : Type 0 where
  pub leads : LeadsOn files repo.log repo.keys from (item ∷ []) now
  pub fits : FitsWalk files repo.log repo.keys now
  pub id : now.id ≡ from.id
  pub ids : now.ids ≡ from.ids

-- The walk has answered one more item, and fits still.
abbrev pub GoesOn : Files → RepoState → WalkState → WalkState → Type 0
GoesOn files repo from now = (item : ItemText) × Goes files repo from item now

-- From where the walk stands, no item comes next in front of the end of a whole stream.
abbrev pub HasNoItem : Files → RepoState → WalkState → Type 0
HasNoItem files repo walk = (item : ItemText) (items : List ItemText) → IsToCome files repo.log repo.keys walk (item ∷ items) None → ⊥

-- A walk goes to the next item, or has none.
abbrev pub FindsAt : Files → RepoState → WalkState → Option ItemText → WalkState → Type 0
FindsAt files repo from None now = HasNoItem files repo from
FindsAt files repo from (Some item) now = Goes files repo from item now

-- The target's walk, if there is one, goes to the next item, or has none.
abbrev pub FindsBeside : Files → RepoState → Option WalkState → Option ItemText → Option WalkState → Type 0
FindsBeside files repo None None now = Unit {0}
FindsBeside files repo None (Some item) now = ⊥
FindsBeside files repo (Some from) found None = ⊥
FindsBeside files repo (Some from) found (Some now) = FindsAt files repo from found now

-- The target's walk, if there is one, fits the files.
abbrev pub WalksBeside : Files → RepoState → Option WalkState → Type 0
WalksBeside files repo None = Unit {0}
WalksBeside files repo (Some walk) = FitsWalk files repo.log repo.keys walk

-- From where the walk stands, no item comes next that says this, in front of the end of a whole stream.
abbrev pub Lacks : Files → RepoState → WalkState → WholeItem → Type 0
Lacks files repo walk whole = (item : ItemText) (items : List ItemText) → IsToCome files repo.log repo.keys walk (item ∷ items) None
    → HoldsItem files repo.log repo.keys item whole → ⊥

-- The next item of the target says this, and the walk stands behind it; or there is none that does, and the walk isn't kept.
abbrev pub MovesBeside : Files → RepoState → Option WalkState → WholeItem → Option WalkState → Type 0
MovesBeside files repo None whole None = Unit {0}
MovesBeside files repo None whole (Some now) = ⊥
MovesBeside files repo (Some from) whole None = Lacks files repo from whole
MovesBeside files repo (Some from) whole (Some now) =
    (item : ItemText) × Goes files repo from item now × HoldsItem files repo.log repo.keys item whole

-- The item of the source says this, and the target's walk was moved.
pub record TakesItem (told : Option Told) (source : RepoState) (heard : Option Told) (target : RepoState) (item : ItemText) (from now : Option WalkState)
    : Type 0 where
  pub whole : WholeItem
  pub holds : IfSome told (λ t. HoldsItem (told_files t) source.log source.keys item whole)
  pub moves : IfSome heard (λ t. MovesBeside (told_files t) target from whole now)

-- the walk, where the test holds
abbrev pub kept_where : Bool → Option WalkState → Option WalkState
kept_where true walk = walk
kept_where false walk = None

-- The target's stream ends whole, where its walk stands.
abbrev pub EndsBeside : Files → RepoState → Option WalkState → Type 0
EndsBeside files repo None = ⊥
EndsBeside files repo (Some walk) = IsToCome files repo.log repo.keys walk [] None

-- ---- two items

-- The item of the source says this, and that of the target does or doesn't.
pub record ComparesItems (told : Option Told) (source : RepoState) (heard : Option Told) (target : RepoState) (item other : ItemText) (same : Bool)
    : Type 0 where
  pub whole : WholeItem
  pub holds : IfSome told (λ t. HoldsItem (told_files t) source.log source.keys item whole)
  pub beside : IfSome heard (λ t. HoldsWhere same (HoldsItem (told_files t) target.log target.keys other whole))

-- The chunks of an item of the source have this content, and those of the target have it or don't.
pub record ComparesContents (told : Option Told) (source : RepoState) (heard : Option Told) (target : RepoState)
    (chunks others : Option (List ChunkRef)) (same : Bool) : Type 0 where
  pub content : Option (List ℕ)
  pub holds : IfSome told (λ t. HoldsJoined (told_files t) source.log source.keys chunks content)
  pub beside : IfSome heard (λ t. HoldsWhere same (HoldsJoined (told_files t) target.log target.keys others content))

-- These chunks have some content.
pub record HoldsSome (told : Option Told) (repo : RepoState) (chunks : Option (List ChunkRef)) : Type 0 where
  pub content : Option (List ℕ)
  pub holds : IfSome told (λ t. HoldsJoined (told_files t) repo.log repo.keys chunks content)

-- The contents of these chunks, joined, are some bytes.
pub record HoldsBytes (told : Option Told) (repo : RepoState) (chunks : List ChunkRef) : Type 0 where
  pub bytes : List ℕ
  pub holds : IfSome told (λ t. HoldsJoined (told_files t) repo.log repo.keys (Some chunks) (Some bytes))

-- ---- the target's content

-- how many chunks were read, the content of the last one, and how many of its bytes were passed
pub record CursorState : Type 0 where
  pub next : ℕ
  pub piece : List ℕ
  pub at : ℕ

abbrev pub cursor_view : Cursor → CursorState
cursor_view c = record { next = c.next; piece = c.piece.items; at = c.at }

-- the bytes of the last piece that weren't passed
abbrev pub left_in : CursorState → List ℕ
left_in cursor = drop cursor.at cursor.piece

-- A cursor stands within its piece and its chunks.
pub record IsWithin (others : List ChunkRef) (cursor : CursorState) : Type 0 where
  pub next : cursor.next ≤ length others
  pub at : cursor.at ≤ length cursor.piece

-- The contents of the chunks that were read, joined, are these bytes, and behind them what is left of the last piece.
pub record HasPassed (files : Files) (repo : RepoState) (others : List ChunkRef) (cursor : CursorState) (done : List ℕ) : Type 0 where
  pub contents : List (List ℕ)
  pub come : ContentsCome files repo.log repo.keys (take cursor.next others) contents None
  pub joined_is : joined contents ≡ done ++ left_in cursor

-- No content of these chunks begins with these bytes.
abbrev pub Strays : Files → RepoState → List ChunkRef → List ℕ → Type 0
Strays files repo others done = (rest : List ℕ) → HoldsJoined files repo.log repo.keys (Some others) (Some (done ++ rest)) → ⊥

-- The cursor has passed these bytes, or no content begins with them.
abbrev pub Passes : Bool → Files → RepoState → List ChunkRef → CursorState → List ℕ → Type 0
Passes true files repo others cursor done = HasPassed files repo others cursor done
Passes false files repo others cursor done = Strays files repo others done

-- After these bytes more, behind whatever was passed.
abbrev pub PassesOn : Option Told → RepoState → List ChunkRef → CursorState → List ℕ → Bool → CursorState → Type 0
PassesOn heard repo others before bytes same after = (done : List ℕ) → IfSome heard (λ t. HasPassed (told_files t) repo others before done)
    → IfSome heard (λ t. Passes same (told_files t) repo others after (done ++ bytes))

-- The content of a chunk of an item, where it has one of its length.
abbrev pub GivesContent : Files → RepoState → ChunkRef → Option (List ℕ) → Type 0
GivesContent files repo chunk None = (content : List ℕ) → HoldsContent files repo.log repo.keys chunk content → ⊥
GivesContent files repo chunk (Some content) = HoldsContent files repo.log repo.keys chunk content

-- Behind whatever was passed the content ends, or goes on.
abbrev pub EndsContent : Option Told → RepoState → List ChunkRef → CursorState → Bool → Type 0
EndsContent heard repo others cursor ended = (done : List ℕ) → IfSome heard (λ t. HasPassed (told_files t) repo others cursor done)
    → IfSome heard (λ t. HoldsWhere ended (HoldsJoined (told_files t) repo.log repo.keys (Some others) (Some done)))
