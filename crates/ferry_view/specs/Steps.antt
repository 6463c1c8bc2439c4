-- Steps of the bodies that show what an archive holds: from where a walk begins or stands.
use Rattle.std.specs.Prelude.{◌≡◌, ◌⊎◌, true, ℕ, List, [], ◌∷◌, ◌++◌, Option, Some, None, IfSome, option_map}
use Rattle.ferry_disk.specs.Device.{Told, told_files}
use Rattle.ferry_disk.specs.Files.{Files}
use Rattle.ferry_item.specs.Item.{ItemText}
use Rattle.ferry_item.specs.Stream.{joined}
use Rattle.ferry_item.specs.declared.item.ChunkRef.{ChunkRef}
use Rattle.ferry_manifest.specs.Record.Text.{ArchiveText}
use Rattle.ferry_manifest.specs.declared.manifest.ArchiveRef.{ArchiveRef}
use Rattle.ferry_repo.specs.Archives.{archive_named, HoldsRecord, RefusesRecord, ContentsCome}
use Rattle.ferry_repo.specs.Fault.{IsOfFiles}
use Rattle.ferry_repo.specs.Opening.{RepoState}
use Rattle.ferry_repo.specs.Walk.{WalkState, begin_walk, IsToCome, LeadsOn, FitsWalk}
use Rattle.ferry_repo.specs.declared.fault.RepoFault.{RepoFault}
use Rattle.ferry_view.specs.Items.{is_file, file_at}
use Rattle.ferry_view.specs.Lines.{item_lines}
use Rattle.ferry_view.specs.Output.{Sends}
use Rattle.ferry_view.specs.declared.fault.ViewFault.{ViewFault}
use Rattle.ferry_view.specs.declared.fault.ViewFault.TheVariants.{Repo, NotFound, Output, Memory}

-- ---- where a walk begins

-- The walk stands in front of the stream of the record of a name.
pub record Begins (files : Files) (repo : RepoState) (name : List ℕ) (walk : WalkState) : Type 0 where
  pub named : ArchiveRef
  pub named_is : archive_named name repo.manifest.archives ≡ Some named
  pub archive : ArchiveText
  pub record_is : HoldsRecord files repo.log repo.keys named.id archive
  pub walk_is : walk ≡ begin_walk named.id archive.items

-- Why there is none: no archive has the name, or its record is refused.
abbrev pub RefusesBegin : Files → RepoState → List ℕ → ViewFault → Type 0
RefusesBegin files repo name (Repo fault) =
    (named : ArchiveRef) × (archive_named name repo.manifest.archives ≡ Some named) × RefusesRecord files repo.log repo.keys named.id fault
RefusesBegin files repo name NotFound = archive_named name repo.manifest.archives ≡ None
RefusesBegin files repo name Output = ⊥
RefusesBegin files repo name Memory = Unit {0}

-- ---- lines

-- From where a walk stands these items come, and then this end, and the text has their lines.
pub record LinesCome (files : Files) (repo : RepoState) (walk : WalkState) (end : Option RepoFault) (text : List ℕ) : Type 0 where
  pub items : List ItemText
  pub come : IsToCome files repo.log repo.keys walk items end
  pub lines : text ≡ item_lines items

-- the lines of the items that come up to the end of the stream
abbrev pub AllLines : Files → RepoState → WalkState → List ℕ → Type 0
AllLines files repo walk text = LinesCome files repo walk None text

-- the lines of the items that come up to some end
abbrev pub SomeLines : Files → RepoState → WalkState → List ℕ → Type 0
SomeLines files repo walk text = (end : Option RepoFault) × LinesCome files repo walk end text

-- From where a walk stands its stream ends whole.
abbrev pub ReachesEnd : Files → RepoState → WalkState → Type 0
ReachesEnd files repo walk = (items : List ItemText) × IsToCome files repo.log repo.keys walk items None

-- What a refusal says of a walk: its items end with this fault.
abbrev pub EndsWalk : Files → RepoState → WalkState → ViewFault → Type 0
EndsWalk files repo walk (Repo fault) = IsOfFiles fault → (items : List ItemText) × IsToCome files repo.log repo.keys walk items (Some fault)
EndsWalk files repo walk NotFound = ⊥
EndsWalk files repo walk Output = Unit {0}
EndsWalk files repo walk Memory = Unit {0}

-- A walk has answered these items since it stood there, and fits still.
pub record Answers (files : Files) (repo : RepoState) (from : WalkState) (done : List ItemText) (now : WalkState) : Type 0 where
  pub leads : LeadsOn files repo.log repo.keys from done now
  pub fits : FitsWalk files repo.log repo.keys now

-- ---- files

-- A walk has come to the first item with content and this path, which has these chunks.
pub record FindsFile (files : Files) (repo : RepoState) (from : WalkState) (path : List ℕ) (chunks : List ChunkRef) (now : WalkState) : Type 0 where
  pub done : List ItemText
  pub before : file_at path done ≡ []
  pub item : ItemText
  pub is : is_file path item ≡ true
  pub chunks_are : item.chunks ≡ Some chunks
  pub answers : Answers files repo from (done ++ (item ∷ [])) now

-- From where a walk stands, these items end so, and none with content has the path.
pub record FindsNone (files : Files) (repo : RepoState) (walk : WalkState) (path : List ℕ) (end : Option RepoFault) : Type 0 where
  pub items : List ItemText
  pub come : IsToCome files repo.log repo.keys walk items end
  pub none : file_at path items ≡ []

-- What a refusal says of a walk to a file: its items end with this fault, and none of them is the file.
abbrev pub EndsBefore : Files → RepoState → WalkState → List ℕ → ViewFault → Type 0
EndsBefore files repo walk path (Repo fault) = IsOfFiles fault → FindsNone files repo walk path (Some fault)
EndsBefore files repo walk path NotFound = ⊥
EndsBefore files repo walk path Output = ⊥
EndsBefore files repo walk path Memory = Unit {0}

-- The text has the contents of these chunks up to this end.
pub record ContentsShown (files : Files) (repo : RepoState) (chunks : List ChunkRef) (end : Option RepoFault) (text : List ℕ) : Type 0 where
  pub contents : List (List ℕ)
  pub come : ContentsCome files repo.log repo.keys chunks contents end
  pub joined_is : text ≡ joined contents

-- all contents of these chunks
abbrev pub AllContents : Files → RepoState → List ChunkRef → List ℕ → Type 0
AllContents files repo chunks text = ContentsShown files repo chunks None text

-- the contents of these chunks up to some end
abbrev pub SomeContents : Files → RepoState → List ChunkRef → List ℕ → Type 0
SomeContents files repo chunks text = (end : Option RepoFault) × ContentsShown files repo chunks end text

-- What a refusal says of chunks: one is refused so, the first.
abbrev pub EndsContents : Files → RepoState → List ChunkRef → ViewFault → Type 0
EndsContents files repo chunks (Repo fault) = IsOfFiles fault → (text : List ℕ) × ContentsShown files repo chunks (Some fault) text
EndsContents files repo chunks NotFound = ⊥
EndsContents files repo chunks Output = Unit {0}
EndsContents files repo chunks Memory = Unit {0}

-- The text has all contents of these chunks, and from where a walk stands its stream ends whole.
pub record WritesFile (files : Files) (repo : RepoState) (walk : WalkState) (chunks : List ChunkRef) (text : List ℕ) : Type 0 where
  pub contents : AllContents files repo chunks text
  pub reaches : ReachesEnd files repo walk

-- all contents of these chunks are there, and then the items of a walk end with this fault
pub record EndsBehind (files : Files) (repo : RepoState) (walk : WalkState) (chunks : List ChunkRef) (fault : RepoFault) : Type 0 where
  pub text : List ℕ
  pub contents : AllContents files repo chunks text
  pub items : List ItemText
  pub come : IsToCome files repo.log repo.keys walk items (Some fault)

-- What a refusal says of the chunks of a file and of the walk behind it: a content is refused so, or else the items that are to come end so.
abbrev pub EndsFile : Files → RepoState → WalkState → List ChunkRef → ViewFault → Type 0
EndsFile files repo walk chunks (Repo fault) = IsOfFiles fault
    → ((text : List ℕ) × ContentsShown files repo chunks (Some fault) text) ⊎ EndsBehind files repo walk chunks fault
EndsFile files repo walk chunks NotFound = ⊥
EndsFile files repo walk chunks Output = Unit {0}
EndsFile files repo walk chunks Memory = Unit {0}

-- ---- what a loop has done so far

-- The walk has answered some items.
pub record GoesOn (told : Option Told) (repo : RepoState) (from now : WalkState) : Type 0 where
  pub done : List ItemText
  pub answers : IfSome told (λ t. Answers (told_files t) repo from done now)

-- The walk has answered some items, and their lines are gathered or out.
pub record ListsSoFar (told : Option Told) (repo : RepoState) (from now : WalkState) (old out : Option (List ℕ)) (gathered : List ℕ) : Type 0 where
  pub done : List ItemText
  pub answers : IfSome told (λ t. Answers (told_files t) repo from done now)
  pub sends : Sends old out gathered (item_lines done)

-- The walk has answered some items, and none of them is the file.
pub record SeeksFile (told : Option Told) (repo : RepoState) (from now : WalkState) (path : List ℕ) : Type 0 where
  pub done : List ItemText
  pub answers : IfSome told (λ t. Answers (told_files t) repo from done now)
  pub before : file_at path done ≡ []

-- The contents of the chunks so far are out.
pub record WritesSoFar (told : Option Told) (repo : RepoState) (chunks : List ChunkRef) (old out : Option (List ℕ)) : Type 0 where
  pub contents : List (List ℕ)
  pub come : IfSome told (λ t. ContentsCome (told_files t) repo.log repo.keys chunks contents None)
  pub written : out ≡ option_map (λ w. w ++ joined contents) old
