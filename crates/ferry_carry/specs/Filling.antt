-- What was added where the source refused an archive: all up to its fault, of the content with the fault each piece of a whole block in front of it.
use Rattle.std.specs.Prelude.{◌≡◌, ◌⊎◌, ◌<◌, ◌++◌, ℕ, List, [], ◌∷◌, length, Option, Some, None, IfSome}
use Rattle.std.specs.List.{concat}
use Rattle.ferry_disk.specs.Device.{Told, told_files}
use Rattle.ferry_disk.specs.Files.{Files}
use Rattle.ferry_item.specs.Item.{ItemText}
use Rattle.ferry_item.specs.declared.item.ChunkRef.{ChunkRef}
use Rattle.ferry_mac.specs.declared.keys.Keys.{Keys}
use Rattle.ferry_manifest.specs.Manifest.Text.{ManifestText}
use Rattle.ferry_manifest.specs.declared.manifest.ArchiveRef.{ArchiveRef}
use Rattle.ferry_rechunk.specs.Cutting.{Cutting, IsFed}
use Rattle.ferry_repo.specs.Archives.{RefusesContent, RefusesRecord, archive_named, ContentsCome}
use Rattle.ferry_repo.specs.Fault.{IsOfFiles}
use Rattle.ferry_repo.specs.Opening.{RepoState, repo_view}
use Rattle.ferry_repo.specs.Walk.{IsToCome, walk_view}
use Rattle.ferry_repo.specs.declared.fault.RepoFault.{RepoFault}
use Rattle.ferry_store.specs.Commit.{accepted_in}
use Rattle.ferry_store.specs.declared.store.Store.{Store}
use Rattle.ferry_carry.specs.Carrying.{Origin}
use Rattle.ferry_carry.specs.Listing.{AddsName, IsThere, TakesItems}
use Rattle.ferry_piece.specs.Puts.{Addition, AreOf, Content, contents_in}
use Rattle.ferry_carry.specs.declared.copy.Copy.{Copy}
use Rattle.ferry_piece.specs.declared.fault.CarryFault.{CarryFault}
use Rattle.ferry_piece.specs.declared.fault.CarryFault.TheVariants.{Source}

-- What holds of a fault of the source's files, where files are told.
abbrev pub WhereSource : Option Told → CarryFault → (Files → RepoFault → Type 0) → Type 0
WhereSource told (Source fault) P = IsOfFiles fault → IfSome told (λ t. P (told_files t) fault)
WhereSource told fault P = Unit {0}

-- ---- the content of an item

-- Of these chunks one is refused, so. These are the pieces of a whole block, behind what is in hand, of the contents of the chunks in front of it: all of them.
pub record FillsChunks (there : Files) (source : RepoState) (refs : List ChunkRef) (cutter : Cutting) (fault : RepoFault) (more : List (List ℕ)) : Type 0 where
  pub first : List ChunkRef
  pub one : ChunkRef
  pub rest : List ChunkRef
  pub split : refs ≡ first ++ one ∷ rest
  pub contents : List (List ℕ)
  pub come : ContentsCome there source.log source.keys first contents None
  pub refused : RefusesContent there source.log source.keys one fault
  pub left : List ℕ
  pub fed : IsFed cutter.block (cutter.piece ++ concat contents) more left
  pub less : length left < cutter.block

-- The same of an item's content, which is cut anew.
abbrev pub FillsContent : Files → RepoState → ℕ → Option (List ChunkRef) → RepoFault → List (List ℕ) → Type 0
FillsContent there source block None fault more = ⊥
FillsContent there source block (Some refs) fault more = FillsChunks there source refs (record { block = block; piece = [] }) fault more

-- ---- an archive

-- Of the first of these items a chunk is refused, so, and these are added of its content.
pub record FillsItem (there : Files) (source : RepoState) (block : ℕ) (more : List ItemText) (fault : RepoFault) (next : List Addition) : Type 0 where
  pub item : ItemText
  pub others : List ItemText
  pub first : more ≡ item ∷ others
  pub fills : FillsContent there source block item.chunks fault (contents_in next)
  pub of_content : AreOf Content next

-- What is added behind items that were taken, where these are to come and this end: nothing where none is and the stream is refused, so, and else what is in
-- front of the refused chunk.
abbrev pub FillsNext : Files → RepoState → ℕ → List ItemText → Option RepoFault → RepoFault → List Addition → Type 0
FillsNext there source block more ends fault next =
    ((next ≡ []) × ((more ≡ []) × (ends ≡ Some fault))) ⊎ FillsItem there source block more fault next

-- The first items of an archive's stream are there with their contents, and what is next is refused, so: what is added of them all, and of what is next.
pub record FillsItems (there : Files) (from : Origin) (keys : Keys) (named : ArchiveRef) (fault : RepoFault) (begun : List Addition) : Type 0 where
  pub taken : TakesItems there from keys named
  pub open taken use *
  pub next : List Addition
  pub next_is : FillsNext there from.repo from.block more ends fault next
  pub begun_is : begun ≡ listed ++ next

-- What is added of the archive of a name that is refused, so: nothing where its record is.
pub record FillsArchive (there : Files) (from : Origin) (keys : Keys) (name : List ℕ) (fault : RepoFault) (begun : List Addition) : Type 0 where
  pub named : ArchiveRef
  pub named_is : archive_named name from.repo.manifest.archives ≡ Some named
  pub fills : ((begun ≡ []) × RefusesRecord there from.repo.log from.repo.keys named.id fault) ⊎ FillsItems there from keys named fault begun

-- The same of a source that tells its files.
abbrev pub FillsOne : Origin → Keys → List ℕ → RepoFault → List Addition → Type 0
FillsOne from keys name fault begun = IfSome from.files (λ there. FillsArchive there from keys name fault begun)

-- What is added for a name behind others whose archive is refused: nothing where the name is there.
abbrev pub FillsName : Origin → Keys → ManifestText → List (List ℕ) → List ℕ → RepoFault → List Addition → Type 0
FillsName from keys accepted before name fault begun =
    (IsThere accepted before name × (begun ≡ [])) ⊎ ((IsThere accepted before name → ⊥) × FillsOne from keys name fault begun)

-- What is added for these names behind others, of which one is refused: all that is added for those in front of it, and what is for that one.
abbrev pub FillsNames : Origin → Keys → ManifestText → List (List ℕ) → List (List ℕ) → RepoFault → List Addition → Type 0
FillsNames from keys accepted before [] fault begun = ⊥
FillsNames from keys accepted before (name ∷ names) fault begun = FillsName from keys accepted before name fault begun
    ⊎ ((one : List Addition) × ((rest : List Addition) × ((begun ≡ one ++ rest)
    × (AddsName from keys accepted before name one × FillsNames from keys accepted (before ++ name ∷ []) names fault rest))))

-- ---- where the source refused

-- What holds of a fault of the source's files, where the target tells its own.
abbrev pub WhereHeard : Option Told → CarryFault → (RepoFault → Type 0) → Type 0
WhereHeard heard (Source fault) P = IsOfFiles fault → IfSome heard (λ _. P fault)
WhereHeard heard fault P = Unit {0}

-- Of what is to come of an archive on its way these were added.
pub record FillsCopy (there : Files) (source : RepoState) (copy : Copy) (fault : RepoFault) (next : List Addition) : Type 0 where
  pub more : List ItemText
  pub ends : Option RepoFault
  pub come : IsToCome there source.log source.keys (walk_view copy.walk) more ends
  pub next_is : FillsNext there source copy.block more ends fault next

-- Of an archive on its way these were added in its step.
abbrev pub FillsStep : Option Told → RepoState → Copy → CarryFault → List Addition → Type 0
FillsStep told source copy fault more = WhereSource told fault (λ there refusal. FillsCopy there source copy refusal more)

-- Of the archive of a name these were added, of archives of names these.
abbrev pub FillsFlight : Option Told → Origin → Keys → ManifestText → List ℕ → CarryFault → List Addition → Type 0
FillsFlight before from keys accepted name fault begun = WhereHeard before fault (λ refusal. FillsName from keys accepted [] name refusal begun)

abbrev pub FillsAll : Option Told → Origin → Store → List (List ℕ) → CarryFault → List Addition → Type 0
FillsAll before from store chosen fault begun =
    WhereHeard before fault (λ refusal. FillsNames from (repo_view store.repo).keys (accepted_in store) [] chosen refusal begun)
