-- How far an archive on its way is: what was taken of it in the source, and what is there of it in the target.
use Rattle.std.specs.Prelude.{◌≡◌, ◌-◌, ◌^◌, ℕ, Bool, true, false, List, [], ◌++◌, min, Option, None, Some, IfSome}
use Rattle.std.specs.List.{AllByRecursion}
use Rattle.ferry_disk.specs.Device.{Told, told_files}
use Rattle.ferry_disk.specs.Files.{Files}
use Rattle.ferry_item.specs.Item.{ItemText}
use Rattle.ferry_manifest.specs.Record.Text.{archive_view}
use Rattle.ferry_manifest.specs.declared.manifest.ArchiveRef.{ArchiveRef}
use Rattle.ferry_rechunk.specs.Cutting.{IsFed}
use Rattle.ferry_repo.specs.Archives.{HoldsRecord, archive_named}
use Rattle.ferry_repo.specs.Opening.{RepoState, repo_view}
use Rattle.ferry_repo.specs.Walk.{LeadsOn, begin_walk, walk_view}
use Rattle.ferry_repo.specs.Whole.{WholeItem, WholesCome}
use Rattle.ferry_store.specs.declared.store.Store.{Store}
use Rattle.ferry_carry.specs.Carrying.{HoldsApart, Origin, SaysIn}
use Rattle.ferry_carry.specs.Copied.{HasFewPieces, IsRead, contents_of, copied_item, copied_stream, stream_block}
use Rattle.ferry_piece.specs.Gather.{chunks_of}
use Rattle.ferry_carry.specs.Listing.{ListsItems}
use Rattle.ferry_piece.specs.Puts.{Addition, Content, Stream, put_bytes, put_count}
use Rattle.ferry_carry.specs.declared.copy.Copy.{Copy}

-- These items are written into the stream of a target: these pieces of it became whole. Their contents and those pieces are there. All that was added of
-- them is this.
pub record WritesItems (files : Files) (repo : RepoState) (copy : Copy) (wholes : List WholeItem) (added : List Addition) : Type 0 where
  pub taken : List (List ℕ)
  pub fed : IsFed stream_block (copied_stream repo.keys copy.block wholes) taken copy.stream.cutter.piece
  pub chunks : copy.stream.chunks.items ≡ chunks_of repo.keys taken
  pub spelled : AllByRecursion (λ (whole : WholeItem). IsRead (copied_item repo.keys copy.block whole)) wholes
  pub few : AllByRecursion (HasFewPieces copy.block) wholes
  pub held : HoldsApart files repo added (contents_of copy.block wholes ++ taken)
  pub lists : ListsItems repo.keys copy.block [] wholes added copy.stream.cutter.piece

-- These items were taken of the source's archive, with their contents they are these, and they are written.
pub record CopiesSoFar (there : Files) (source : RepoState) (named : ArchiveRef) (files : Files) (repo : RepoState) (copy : Copy)
    (added : List Addition) : Type 0 where
  pub items : List ItemText
  pub wholes : List WholeItem
  pub record_is : HoldsRecord there source.log source.keys named.id (archive_view copy.archive)
  pub leads : LeadsOn there source.log source.keys (begin_walk named.id (archive_view copy.archive).items) items (walk_view copy.walk)
  pub come : WholesCome there source.log source.keys items None wholes None
  pub writes : WritesItems files repo copy wholes added

-- The source's archive is whole, and all its items are written.
pub record CopiesAll (there : Files) (source : RepoState) (named : ArchiveRef) (files : Files) (repo : RepoState) (copy : Copy)
    (added : List Addition) : Type 0 where
  pub wholes : List WholeItem
  pub source_whole : SaysIn there source named.name (record { time = named.time; fields = (archive_view copy.archive).fields; items = wholes })
  pub writes : WritesItems files repo copy wholes added

-- An archive is copied with the block size and the checkpoint of its origin, and has counted what was put of these, up to the greatest numbers.
pub record IsCopyFrom (from : Origin) (copy : Copy) (added : List Addition) : Type 0 where
  pub block : from.block ≡ copy.block
  pub most : from.most ≡ copy.contents.checkpoint
  pub chunks : copy.contents.put ≡ min (put_count Content added) (2 ^ 64 - 1)
  pub bytes : copy.contents.bytes ≡ min (put_bytes Content added) (2 ^ 128 - 1)
  pub meta : copy.stream.put ≡ min (put_count Stream added) (2 ^ 64 - 1)

-- The same where the source and the target tell their files.
abbrev pub IsCopiedSoFar : Origin → ArchiveRef → Option Told → Store → Copy → List Addition → Type 0
IsCopiedSoFar from named heard store copy added = IsCopyFrom from copy added
    × IfSome heard (λ d. IfSome from.files (λ there. CopiesSoFar there from.repo named (told_files d) (repo_view store.repo) copy added))

abbrev pub IsAllCopied : Origin → ArchiveRef → Option Told → Store → Copy → List Addition → Type 0
IsAllCopied from named heard store copy added = IsCopyFrom from copy added
    × IfSome heard (λ d. IfSome from.files (λ there. CopiesAll there from.repo named (told_files d) (repo_view store.repo) copy added))

-- How far an archive is behind a step that added these pieces: one item further, or all of it is copied.
abbrev pub CopiesOn : Origin → ArchiveRef → Option Told → Store → Copy → List Addition → List Addition → Bool → Type 0
CopiesOn from named heard store copy added more true = IsCopiedSoFar from named heard store copy (added ++ more)
CopiesOn from named heard store copy added more false =
    (more ≡ []) × (archive_named named.name from.repo.manifest.archives ≡ Some named → IsAllCopied from named heard store copy added)
