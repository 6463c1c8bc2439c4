-- What a store is after contents were added, with commits between: each of them is there, and nothing that was live has changed.
use Rattle.std.specs.Prelude.{◌≡◌, ◌≢◌, ◌⊎◌, ℕ, ◌+◌, Bool, List, [], length, map, slice_get, Some}
use Rattle.std.specs.List.{AllByRecursion}
use Rattle.ferry_base.specs.Limits.{zero_id}
use Rattle.ferry_blob.specs.Blob.{OpensTo, content_id}
use Rattle.ferry_disk.specs.Act.{History, files_now}
use Rattle.ferry_disk.specs.Files.{Files}
use Rattle.ferry_disk.specs.Moments.{Moments}
use Rattle.ferry_item.specs.declared.item.ChunkRef.{ChunkRef}
use Rattle.ferry_mac.specs.declared.keys.Keys.{Keys}
use Rattle.ferry_repo.specs.Objects.{HoldsChunk}
use Rattle.ferry_repo.specs.Opening.{RepoState, repo_view}
use Rattle.ferry_segment.specs.Entry.{LogEntry}
use Rattle.ferry_stops.specs.Entries.{Shows}
use Rattle.ferry_stops.specs.Tells.{TellsNothing}
use Rattle.ferry_store.specs.Commit.{accepted_in}
use Rattle.ferry_store.specs.Standing.{Keeps, committed_of, entries_of, live_in}
use Rattle.ferry_store.specs.State.{Written}
use Rattle.ferry_store.specs.Store.{StoreFits}
use Rattle.ferry_store.specs.declared.store.Store.{Store}
use Rattle.ferry_piece.specs.Front.{HoldsFront, IsSoundWith}
use Rattle.ferry_piece.specs.Puts.{Addition, AddsAll, Border, ComesBefore, GoesOn, Within, contents_in}

-- ---- contents

-- A content is one of these.
abbrev pub IsAmong : List (List ℕ) → List ℕ → Type 0
IsAmong contents content = (place : ℕ) × (slice_get contents place ≡ Some content)

-- Among these contents equal ids mean equal contents, and none has the id of the manifest.
pub record NoCollision (keys : Keys) (scope : List (List ℕ)) : Type 0 where
  pub one : (a b : List ℕ) → IsAmong scope a → IsAmong scope b → content_id keys a ≡ content_id keys b → a ≡ b
  pub chunk : (a : List ℕ) → IsAmong scope a → content_id keys a ≢ zero_id

-- The content of each chunk that is live and opens is among these.
abbrev pub HoldsWithin : List (List ℕ) → Files → RepoState → Type 0
HoldsWithin scope files repo = (id content : List ℕ) → HoldsChunk files repo.log repo.keys id content → IsAmong scope content

-- Each of these contents is that of a chunk, under its id.
abbrev pub HoldsContents : Files → RepoState → List (List ℕ) → Type 0
HoldsContents files repo contents =
    AllByRecursion (λ (content : List ℕ). HoldsChunk files repo.log repo.keys (content_id repo.keys content) content) contents

-- Each of these contents is there now, where no contents collide among them and those that were there.
abbrev pub Brings : RepoState → List (List ℕ) → RepoState → History → History → Type 0
Brings repo contents repo_now before now = (scope : List (List ℕ)) → NoCollision repo.keys scope → AllByRecursion (IsAmong scope) contents
    → HoldsWithin scope (files_now before) repo → HoldsWithin scope (files_now now) repo_now × HoldsContents (files_now now) repo_now contents

-- the chunk of a piece
abbrev pub chunk_of : Keys → List ℕ → ChunkRef
chunk_of keys piece = record { id = content_id keys piece; size = length piece; csize = 43 + length piece }

-- those of pieces
abbrev pub chunks_of : Keys → List (List ℕ) → List ChunkRef
chunks_of keys pieces = map (chunk_of keys) pieces

-- ---- what stands

-- Each chunk that is live by the second entries is live by the first, with the same blob, or its blob opens.
abbrev pub BringsOpening : Keys → List LogEntry → List LogEntry → Type 0
BringsOpening keys before after = (id blob : List ℕ) → id ≢ zero_id → live_in id after ≡ Some blob
    → (live_in id before ≡ Some blob) ⊎ ((content : List ℕ) × OpensTo keys id blob content)

-- What is live stays, in what is committed and in what is written, what is new opens, and the settings stay.
pub record Moved (keys : Keys) (written written_now : Written) : Type 0 where
  pub committed : Keeps (committed_of written) (committed_of written_now)
  pub entries : Keeps (entries_of written) (entries_of written_now)
  pub opening : BringsOpening keys (entries_of written) (entries_of written_now)
  pub config : written_now.config ≡ written.config

-- Committed are entries by which all is live that was, and what is new opens, with the settings as they were: the manifest too is the one that was.
-- They are those that were, or go on from what was written, with the first of these added.
pub record StandsFrom (at : Border) (keys : Keys) (most : ℕ) (within : List Addition) (written : Written) (image : Files) : Type 0 where
  pub entries : List LogEntry
  pub shown : Shows image (Some entries)
  pub keeps : Keeps (committed_of written) entries
  pub opening : BringsOpening keys (entries_of written) entries
  pub puts : GoesOn at keys most within written entries
  pub config : image.config ≡ written.config

-- At each moment each stop shows so, no counter block serves two blobs, and all that the segments have is a front of what goes on so.
abbrev pub EachStands : Border → ℕ → Store → List Addition → History → History → Type 0
EachStands at most store within before now = (counts : Bool) (fits : StoreFits counts store before)
    → Moments (IsSoundWith (StandsFrom at (repo_view store.repo).keys most within fits.written)
    (HoldsFront at (repo_view store.repo).keys most (entries_of fits.written) within) counts) before now

-- The same where no line was told.
abbrev pub KeepsStandingAt : Border → ℕ → Store → List Addition → History → History → Type 0
KeepsStandingAt at most store within before now = TellsNothing before now × EachStands at most store within before now

-- The same within an archive.
abbrev pub KeepsStanding : ℕ → Store → List Addition → History → History → Type 0
KeepsStanding most store within before now = KeepsStandingAt Within most store within before now

-- ---- what was added

-- A store fits with these added, of which no more than `most` are pending.
pub record Gathered (at : Border) (most : ℕ) (counts : Bool) (store : Store) (added : List Addition) (store_now : Store) (before now : History)
    (fits : StoreFits counts store before) : Type 0 where
  pub fits_now : StoreFits counts store_now now
  pub moved : Moved (repo_view store.repo).keys fits.written fits_now.written
  pub puts : AddsAll at (repo_view store.repo).keys most (entries_of fits.written) added (entries_of fits_now.written)
  pub committed : GoesOn at (repo_view store.repo).keys most added fits.written (committed_of fits_now.written)
  pub brings : Brings (repo_view store.repo) (contents_in added) (repo_view store_now.repo) before now

abbrev pub GathersAt : Border → ℕ → Store → List Addition → Store → History → History → Type 0
GathersAt at most store added store_now before now = (counts : Bool) (fits : StoreFits counts store before)
    → Gathered at most counts store added store_now before now fits

-- The same within an archive.
abbrev pub Gathers : ℕ → Store → List Addition → Store → History → History → Type 0
Gathers most store added store_now before now = GathersAt Within most store added store_now before now

-- ---- a checkpoint

-- A store fits behind what comes before a content.
pub record MadeRoom (most : ℕ) (counts : Bool) (store : Store) (one : Addition) (store_now : Store) (before now : History)
    (fits : StoreFits counts store before) : Type 0 where
  pub fits_now : StoreFits counts store_now now
  pub moved : Moved (repo_view store.repo).keys fits.written fits_now.written
  pub comes : ComesBefore (repo_view store.repo).keys most (entries_of fits.written) one (entries_of fits_now.written)
  pub committed : (committed_of fits_now.written ≡ committed_of fits.written)
      ⊎ ComesBefore (repo_view store.repo).keys most (entries_of fits.written) one (committed_of fits_now.written)
  pub brings : Brings (repo_view store.repo) [] (repo_view store_now.repo) before now

abbrev pub MakesRoom : ℕ → Store → Addition → Store → History → History → Type 0
MakesRoom most store one store_now before now = (counts : Bool) (fits : StoreFits counts store before)
    → MadeRoom most counts store one store_now before now fits

-- Its repository has the settings, the secrets and the manifest that it had, and what was accepted is the same.
pub record KeepsRest (store store_now : Store) : Type 0 where
  pub keys : (repo_view store_now.repo).keys ≡ (repo_view store.repo).keys
  pub config : (repo_view store_now.repo).config ≡ (repo_view store.repo).config
  pub manifest : (repo_view store_now.repo).manifest ≡ (repo_view store.repo).manifest
  pub accepted : accepted_in store_now ≡ accepted_in store
