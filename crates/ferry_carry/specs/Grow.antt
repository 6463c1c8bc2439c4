-- What a target is as archives come into it: each archive that it had keeps its name and its chunks.
use Rattle.std.specs.Prelude.{◌≡◌, ◌≢◌, ◌⊎◌, ◌++◌, ℕ, Bool, List, Some, IsSome}
use Rattle.std.specs.List.{AllByRecursion}
use Rattle.ferry_base.specs.Limits.{zero_id}
use Rattle.ferry_disk.specs.Act.{History}
use Rattle.ferry_disk.specs.Files.{Files}
use Rattle.ferry_disk.specs.Moments.{Moments}
use Rattle.ferry_manifest.specs.Manifest.Text.{ManifestText}
use Rattle.ferry_manifest.specs.declared.manifest.ArchiveRef.{ArchiveRef}
use Rattle.ferry_repo.specs.Archives.{archive_named}
use Rattle.ferry_repo.specs.Opening.{RepoState, repo_view}
use Rattle.ferry_segment.specs.Entry.{LogEntry}
use Rattle.ferry_stops.specs.Entries.{Shows}
use Rattle.ferry_stops.specs.Tells.{TellsNothing}
use Rattle.ferry_store.specs.Commit.{accepted_in}
use Rattle.ferry_store.specs.Standing.{HoldsManifest, committed_of, entries_of, live_in, with_manifest}
use Rattle.ferry_store.specs.State.{Written}
use Rattle.ferry_store.specs.Store.{StoreFits}
use Rattle.ferry_store.specs.declared.store.Store.{Store}
use Rattle.ferry_carry.specs.Accepting.{AreNextOf}
use Rattle.ferry_carry.specs.Carrying.{AreCut, IsCarried, Origin}
use Rattle.ferry_piece.specs.Front.{HoldsFront, IsSoundWith}
use Rattle.ferry_piece.specs.Gather.{BringsOpening, IsAmong}
use Rattle.ferry_piece.specs.Puts.{Addition, AddsAll, AtBegin, GoesOn, border_behind}

-- Each chunk that is live by these entries is live by those, with the same blob.
abbrev pub KeepsChunks : List LogEntry → List LogEntry → Type 0
KeepsChunks before after = (id blob : List ℕ) → id ≢ zero_id → live_in id before ≡ Some blob → live_in id after ≡ Some blob

-- Each archive of the first manifest is in the second, with its record and its time.
abbrev pub KeepsNames : ManifestText → ManifestText → Type 0
KeepsNames before after =
    (name : List ℕ) (entry : ArchiveRef) → archive_named name before.archives ≡ Some entry → archive_named name after.archives ≡ Some entry

-- Its repository has the settings and the secrets that it had, and keeps each archive.
pub record KeepsMost (store store_now : Store) : Type 0 where
  pub keys : (repo_view store_now.repo).keys ≡ (repo_view store.repo).keys
  pub config : (repo_view store_now.repo).config ≡ (repo_view store.repo).config
  pub names : KeepsNames (repo_view store.repo).manifest (repo_view store_now.repo).manifest

-- Each archive of a manifest is in an accepted manifest, or its name is among these.
abbrev pub IsNamedBy : ManifestText → List (List ℕ) → ManifestText → Type 0
IsNamedBy accepted done manifest = (name : List ℕ) (entry : ArchiveRef) → archive_named name manifest.archives ≡ Some entry
    → (archive_named name accepted.archives ≡ Some entry) ⊎ IsAmong done name

-- Where all that was accepted is committed, this is the manifest behind the archives of these names.
abbrev pub IsBehind : Origin → ManifestText → ManifestText → List (List ℕ) → ManifestText → Type 0
IsBehind from accepted committed done manifest =
    accepted ≡ committed → (ids : List (List ℕ)) × AreNextOf from.time from.repo.manifest accepted done ids manifest

-- Committed are entries that keep each chunk and bring only such as open, and a manifest that keeps each archive, with the settings as they were. Of
-- the chosen names those of a front were carried, those that were not accepted are cut so, and beside what was accepted no other is named. The entries are
-- those that were, or go on from what was written, with the first of these added, behind others that were added earlier.
pub record StandsOn (earlier : List Addition) (from : Origin) (chosen : List (List ℕ)) (within : List Addition) (accepted : ManifestText) (repo : RepoState)
    (written : Written) (image : Files) : Type 0 where
  pub entries : List LogEntry
  pub manifest : ManifestText
  pub shown : Shows image (Some entries)
  pub chunks : KeepsChunks (committed_of written) entries
  pub opening : BringsOpening repo.keys (entries_of written) entries
  pub puts : GoesOn (border_behind AtBegin earlier) repo.keys from.most within written entries
  pub holds : HoldsManifest (with_manifest repo manifest) entries
  pub names : KeepsNames repo.manifest manifest
  pub config : image.config ≡ written.config
  pub done : List (List ℕ)
  pub rest : List (List ℕ)
  pub front : chosen ≡ done ++ rest
  pub next : IsBehind from accepted repo.manifest done manifest
  pub carried : AllByRecursion (IsCarried from (earlier ++ within) (entries_of written) repo.keys entries manifest.archives) done
  pub cut : AreCut accepted from repo.keys manifest.archives done
  pub only : IsNamedBy accepted done manifest

-- At each moment each stop shows so, no counter block serves two blobs, and all that the segments have is a front of what goes on so.
abbrev pub EachGrowsBy : List Addition → ManifestText → Origin → List (List ℕ) → Store → List Addition → History → History → Type 0
EachGrowsBy earlier accepted from chosen store within before now = (counts : Bool) (fits : StoreFits counts store before)
    → Moments (IsSoundWith (StandsOn earlier from chosen within accepted (repo_view store.repo) fits.written)
    (HoldsFront (border_behind AtBegin earlier) (repo_view store.repo).keys from.most (entries_of fits.written) within) counts) before now

-- The same where no line was told.
abbrev pub KeepsGrowingBy : List Addition → ManifestText → Origin → List (List ℕ) → Store → List Addition → History → History → Type 0
KeepsGrowingBy earlier accepted from chosen store within before now = TellsNothing before now × EachGrowsBy earlier accepted from chosen store within before now

abbrev pub KeepsGrowing : List Addition → Origin → List (List ℕ) → Store → List Addition → History → History → Type 0
KeepsGrowing earlier from chosen store = KeepsGrowingBy earlier (accepted_in store) from chosen store

-- what is carried: behind what was added earlier, into what a manifest accepted, from a source, the archives of these names
pub record Job : Type 0 where
  pub earlier : List Addition
  pub accepted : ManifestText
  pub from : Origin
  pub chosen : List (List ℕ)

abbrev pub job : List Addition → ManifestText → Origin → List (List ℕ) → Job
job earlier accepted from chosen = record { earlier = earlier; accepted = accepted; from = from; chosen = chosen }

-- A store fits in which each chunk and each archive is kept, with these added behind others. All chosen names were carried, and beside what was accepted no
-- other is.
pub record Grown (of : Job) (added : List Addition) (counts : Bool) (store store_now : Store) (before now : History) (fits : StoreFits counts store before)
    : Type 0 where
  pub fits_now : StoreFits counts store_now now
  pub chunks : KeepsChunks (committed_of fits.written) (committed_of fits_now.written)
  pub opening : BringsOpening (repo_view store.repo).keys (entries_of fits.written) (entries_of fits_now.written)
  pub puts : AddsAll (border_behind AtBegin of.earlier) (repo_view store.repo).keys of.from.most (entries_of fits.written) added (entries_of fits_now.written)
  pub committed : GoesOn (border_behind AtBegin of.earlier) (repo_view store.repo).keys of.from.most added fits.written (committed_of fits_now.written)
  pub config : fits_now.written.config ≡ fits.written.config
  pub most : KeepsMost store store_now
  pub next : IsBehind of.from of.accepted (repo_view store.repo).manifest of.chosen (repo_view store_now.repo).manifest
  pub settled : of.accepted ≡ (repo_view store.repo).manifest → accepted_in store_now ≡ (repo_view store_now.repo).manifest
  pub carried : AllByRecursion (IsCarried of.from (of.earlier ++ added) (entries_of fits.written) (repo_view store_now.repo).keys
      (committed_of fits_now.written) (repo_view store_now.repo).manifest.archives) of.chosen
  pub cut : AreCut of.accepted of.from (repo_view store_now.repo).keys (repo_view store_now.repo).manifest.archives of.chosen
  pub named : AllByRecursion (λ (name : List ℕ). IsSome (archive_named name (repo_view store_now.repo).manifest.archives)) of.chosen
  pub only : IsNamedBy of.accepted of.chosen (accepted_in store_now)

abbrev pub GrowsBy : Job → List Addition → Store → Store → History → History → Type 0
GrowsBy of added store store_now before now = (counts : Bool) (fits : StoreFits counts store before)
    → Grown of added counts store store_now before now fits

abbrev pub Grows : List Addition → Origin → List (List ℕ) → List Addition → Store → Store → History → History → Type 0
Grows earlier from chosen added store = GrowsBy (job earlier (accepted_in store) from chosen) added store

-- What a store accepted has each archive of its manifest.
abbrev pub AcceptsMore : Store → Type 0
AcceptsMore store = KeepsNames (repo_view store.repo).manifest (accepted_in store)
