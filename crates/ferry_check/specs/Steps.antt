-- Steps of the bodies that check a repository: what is known of its chunks, and which are marked as used.
use Rattle.std.specs.Prelude.{◌≡◌, ◌≢◌, ℕ, Bool, true, false, cond, ◌||◌, List, [], ◌∷◌, ◌++◌, length, filter, not}
use Rattle.std.specs.Prelude.{Option, Some, None, MatchOption, IfSome, option_map, unwrap_or}
use Rattle.std.specs.List.{AllByRecursion, flat_map}
use Rattle.std.specs.Ordering.{eq_by_cmp}
use Rattle.ferry_disk.specs.Device.{Told, told_files}
use Rattle.ferry_disk.specs.Files.{Files}
use Rattle.ferry_item.specs.Item.{ItemText}
use Rattle.ferry_item.specs.declared.item.ChunkRef.{ChunkRef}
use Rattle.ferry_log.specs.Live.{key_cmp}
use Rattle.ferry_manifest.specs.declared.manifest.ArchiveRef.{ArchiveRef}
use Rattle.ferry_repo.specs.Objects.{HoldsChunk, RefusesChunk}
use Rattle.ferry_repo.specs.Opening.{RepoState}
use Rattle.ferry_repo.specs.Walk.{WalkState, IsToCome, LeadsOn, FitsWalk}
use Rattle.ferry_repo.specs.declared.fault.RepoFault.{RepoFault}
use Rattle.ferry_repo.specs.declared.fault.RepoFault.TheVariants.{Missing, Size}
use Rattle.ferry_check.specs.Report.{ArchiveRead, IsRead, AreRead, is_among, ids_of, ids_used, orphans, untagged}
use Rattle.ferry_check.specs.Verify.{IsChunk, Opens, ReadsWhole, Verifies}
use Rattle.ferry_check.specs.declared.chunks.Chunk.{Chunk}
use Rattle.ferry_check.specs.declared.report.Tally.{Tally}

-- ---- what is known

-- what is known of each id: the length of its content, and whether it is marked; nothing where it isn't a chunk that was opened
abbrev pub Known : Type 0
Known = List ℕ → Option Chunk

-- a chunk with a content of this length that isn't marked
abbrev pub fresh : ℕ → Chunk
fresh size = record { size = size; used = false }

-- This length is known of the id as well, and all else as before.
abbrev pub Keeps : List ℕ → ℕ → Known → Known → Type 0
Keeps id size before after = (q : List ℕ) → after q ≡ cond (eq_by_cmp key_cmp id q) (Some (fresh size)) (before q)

-- The content of a chunk has this length.
pub record HasLength (files : Files) (repo : RepoState) (id : List ℕ) (size : ℕ) : Type 0 where
  pub content : List ℕ
  pub holds : HoldsChunk files repo.log repo.keys id content
  pub size_is : size ≡ length content

-- These chunks were opened, and no others.
abbrev pub KnowsOpened : Files → RepoState → List (List ℕ) → Known → Type 0
KnowsOpened files repo ids known = (id : List ℕ) → MatchOption (known id) (is_among id ids ≡ false)
    (λ chunk. (is_among id ids ≡ true) × HasLength files repo id chunk.size)

-- All live chunks were opened.
abbrev pub KnowsSizes : Files → RepoState → Known → Type 0
KnowsSizes files repo known = (id : List ℕ) → MatchOption (known id) (IsChunk repo.log id → ⊥) (λ chunk. HasLength files repo id chunk.size)

-- The first of these chunks that is refused is refused so.
pub record RefusesFirst (files : Files) (repo : RepoState) (ids : List (List ℕ)) (fault : RepoFault) : Type 0 where
  pub before : List (List ℕ)
  pub id : List ℕ
  pub behind : List (List ℕ)
  pub ids_are : ids ≡ before ++ (id ∷ behind)
  pub opened : AllByRecursion (λ i. Opens files repo i) before
  pub refused : RefusesChunk files repo.log repo.keys id fault

-- ---- marks

-- Of what is known the chunks of these ids are marked, and no others.
abbrev pub HasMarks : List (List ℕ) → Known → Type 0
HasMarks used known = (id : List ℕ) → IfSome (known id) (λ chunk. chunk.used ≡ is_among id used)

-- what a shelf tells of the chunks that are opened so far, none of which is marked
pub record OpensSoFar (told : Option Told) (repo : RepoState) (front : List (List ℕ)) (known : Known) : Type 0 where
  pub knows : IfSome told (λ t. KnowsOpened (told_files t) repo front known × AllByRecursion (λ i. Opens (told_files t) repo i) front)
  pub unused : HasMarks [] known

-- whether a chunk is known and marked
abbrev pub is_used : Option Chunk → Bool
is_used None = false
is_used (Some chunk) = chunk.used

-- those of these chunks that aren't marked
abbrev pub unused : Known → List (List ℕ) → List (List ℕ)
unused known ids = filter (λ id. not (is_used (known id))) ids

-- a chunk that is marked, where the test holds, or was before
abbrev pub marked : Bool → Chunk → Chunk
marked test chunk = record { size = chunk.size; used = chunk.used || test }

-- The chunks of these ids, where they are known, are marked as well as those that were.
abbrev pub Marks : List (List ℕ) → Known → Known → Type 0
Marks ids before after = (id : List ℕ) → after id ≡ option_map (λ c. marked (is_among id ids) c) (before id)

-- ---- the contents of items

-- A chunk of an item is known, with the length that is stated.
pub record IsRight (known : Known) (chunk : ChunkRef) : Type 0 where
  pub found : Chunk
  pub is : known chunk.id ≡ Some found
  pub size : found.size ≡ chunk.size

-- A chunk of an item is known, with another length.
pub record IsWrong (known : Known) (chunk : ChunkRef) : Type 0 where
  pub found : Chunk
  pub is : known chunk.id ≡ Some found
  pub size : found.size ≢ chunk.size

-- Why a chunk of an item isn't right.
abbrev pub RefusesUse : Known → ChunkRef → RepoFault → Type 0
RefusesUse known chunk (Missing named) = (named ≡ chunk.id) × (known chunk.id ≡ None)
RefusesUse known chunk (Size named) = (named ≡ chunk.id) × IsWrong known chunk
RefusesUse known chunk fault = ⊥

-- All these chunks are right.
abbrev pub AreRight : Known → List ChunkRef → Type 0
AreRight known chunks = AllByRecursion (λ c. IsRight known c) chunks

-- One of these chunks isn't right, so, and those before it are.
pub record RefusesUses (known : Known) (chunks : List ChunkRef) (fault : RepoFault) : Type 0 where
  pub before : List ChunkRef
  pub chunk : ChunkRef
  pub behind : List ChunkRef
  pub chunks_are : chunks ≡ before ++ (chunk ∷ behind)
  pub right : AreRight known before
  pub refused : RefusesUse known chunk fault

-- the chunks of an item, none where it has no content
abbrev pub chunks_of : ItemText → List ChunkRef
chunks_of item = unwrap_or item.chunks []

-- All chunks of these items are right.
abbrev pub ItemsRight : Known → List ItemText → Type 0
ItemsRight known items = AllByRecursion (λ i. AreRight known (chunks_of i)) items

-- ---- walks

-- A walk has answered these items since it stood there, and fits still.
pub record Answers (files : Files) (repo : RepoState) (from : WalkState) (done : List ItemText) (now : WalkState) : Type 0 where
  pub leads : LeadsOn files repo.log repo.keys from done now
  pub fits : FitsWalk files repo.log repo.keys now

-- The walk has answered some items, whose chunks are right and are marked.
pub record GoesOn (told : Option Told) (repo : RepoState) (from now : WalkState) (before after : Known) : Type 0 where
  pub done : List ItemText
  pub answers : IfSome told (λ t. Answers (told_files t) repo from done now)
  pub right : ItemsRight before done
  pub marks : Marks (flat_map ids_of done) before after

-- From where a walk stands these items come up to the end of the whole stream; their chunks are right and are marked.
pub record ChecksItems (told : Option Told) (repo : RepoState) (walk : WalkState) (before after : Known) : Type 0 where
  pub items : List ItemText
  pub come : IfSome told (λ t. IsToCome (told_files t) repo.log repo.keys walk items None)
  pub right : ItemsRight before items
  pub marks : Marks (flat_map ids_of items) before after

-- From where a walk stands these items come, whose chunks are right, and this fault ends them.
pub record StreamEnds (files : Files) (repo : RepoState) (walk : WalkState) (known : Known) (fault : RepoFault) : Type 0 where
  pub items : List ItemText
  pub come : IsToCome files repo.log repo.keys walk items (Some fault)
  pub right : ItemsRight known items

-- From where a walk stands items come, whose chunks are right up to one that isn't, so.
pub record ItemEnds (files : Files) (repo : RepoState) (walk : WalkState) (known : Known) (fault : RepoFault) : Type 0 where
  pub before : List ItemText
  pub item : ItemText
  pub behind : List ItemText
  pub end : Option RepoFault
  pub come : IsToCome files repo.log repo.keys walk (before ++ (item ∷ behind)) end
  pub right : ItemsRight known before
  pub refused : RefusesUses known (chunks_of item) fault

-- ---- archives

-- The archive of this name has this record and these items, and is whole.
abbrev pub Checked : Files → RepoState → List ℕ → ArchiveRead → Type 0
Checked files repo name read = IsRead files repo name read × ReadsWhole files repo name

-- The archive of this name is whole; what it uses is marked, and its record is tagged or isn't.
pub record ChecksArchive (told : Option Told) (repo : RepoState) (name : List ℕ) (before after : Known) (tagged : Bool) : Type 0 where
  pub read : ArchiveRead
  pub is : IfSome told (λ t. Checked (told_files t) repo name read)
  pub marks : Marks (ids_used read) before after
  pub tagged_is : tagged ≡ read.archive.tagged

-- how many records of one archive are untagged
abbrev pub one_untagged : Bool → ℕ
one_untagged tagged = cond tagged 0 1

-- These archives are whole; what they use is marked, and those with an untagged record are counted.
pub record ChecksArchives (told : Option Told) (repo : RepoState) (archives : List ArchiveRef) (before after : Known) (count : ℕ) : Type 0 where
  pub reads : List ArchiveRead
  pub are : IfSome told (λ t. AreRead (told_files t) repo archives reads × AllByRecursion (λ a. ReadsWhole (told_files t) repo a.name) archives)
  pub marks : Marks (flat_map ids_used reads) before after
  pub count_is : count ≡ length (untagged reads)

-- The repository verifies; what no archive uses of these chunks is counted, and the untagged records.
pub record CountsRest (files : Files) (repo : RepoState) (ids : List (List ℕ)) (tally : Tally) : Type 0 where
  pub verifies : Verifies files repo
  pub reads : List ArchiveRead
  pub are_read : AreRead files repo repo.manifest.archives reads
  pub orphans : tally.orphans ≡ length (orphans ids reads)
  pub untagged : tally.untagged ≡ length (untagged reads)
