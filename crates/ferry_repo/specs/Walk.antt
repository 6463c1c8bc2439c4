-- The items of an archive: its record names the chunks whose contents, joined, are its item stream (BorgBackup 1.2, Internals,
-- "Data structures and file formats", Archives).
use Rattle.std.specs.Prelude.{◌≡◌, ◌≢◌, ℕ, ◌≤◌, List, [], ◌∷◌, ◌++◌, length, take, drop, slice_index_or, Option, Some, None}
use Rattle.ferry_disk.specs.Files.{Files}
use Rattle.ferry_item.specs.Item.{ItemText}
use Rattle.ferry_item.specs.Stream.{front_item, an_item, nothing_yet, a_fault, ItemsOf, joined}
use Rattle.ferry_item.specs.declared.fault.ItemFault.{ItemFault}
use Rattle.ferry_item.specs.declared.fault.ItemFault.TheVariants as Items
use Rattle.ferry_log.specs.State.{LogState}
use Rattle.ferry_mac.specs.declared.keys.Keys.{Keys}
use Rattle.ferry_repo.specs.Fault.{IsOfFiles}
use Rattle.ferry_repo.specs.Objects.{HoldsChunk, RefusesChunk}
use Rattle.ferry_repo.specs.declared.fault.RepoFault.{RepoFault}
use Rattle.ferry_repo.specs.declared.fault.RepoFault.TheVariants.{Item}
use Rattle.ferry_repo.specs.declared.walk.Walk.{Walk}
use Rattle.ferry_repo.specs.declared.walk.Ending.{Ending}
use Rattle.ferry_repo.specs.declared.walk.Ending.TheVariants.{Open, Whole, Cut}

-- ---- the stream of an archive

-- These are the contents of these chunks.
abbrev pub HoldChunks : Files → LogState → Keys → List (List ℕ) → List (List ℕ) → Type 0
HoldChunks files log keys [] [] = Unit {0}
HoldChunks files log keys [] (content ∷ contents) = ⊥
HoldChunks files log keys (id ∷ ids) [] = ⊥
HoldChunks files log keys (id ∷ ids) (content ∷ contents) = HoldsChunk files log keys id content × HoldChunks files log keys ids contents

-- The contents of these chunks, joined, are exactly the spellings of these items.
pub record IsStream (files : Files) (log : LogState) (keys : Keys) (ids : List (List ℕ)) (items : List ItemText) : Type 0 where
  pub contents : List (List ℕ)
  pub hold : HoldChunks files log keys ids contents
  pub spelled : ItemsOf (joined contents) items

-- From these bytes of the stream, with these chunks to follow, come these items and this end: none where the stream is whole,
-- else the fault that ends them. A chunk is read where no item stands in front.
pub data Comes (files : Files) (log : LogState) (keys : Keys) (record_id : List ℕ) : List ℕ → List (List ℕ) → List ItemText → Option RepoFault → Type 0 where
  item_comes : (bytes rest : List ℕ) (ids : List (List ℕ)) (item : ItemText) (items : List ItemText) (end : Option RepoFault)
      → front_item bytes ≡ an_item item rest → Comes files log keys record_id rest ids items end
      → Comes files log keys record_id bytes ids (item ∷ items) end
  chunk_comes : (bytes id content : List ℕ) (ids : List (List ℕ)) (items : List ItemText) (end : Option RepoFault)
      → front_item bytes ≡ nothing_yet → HoldsChunk files log keys id content → Comes files log keys record_id (bytes ++ content) ids items end
      → Comes files log keys record_id bytes (id ∷ ids) items end
  chunk_refused : (bytes id : List ℕ) (ids : List (List ℕ)) (fault : RepoFault)
      → front_item bytes ≡ nothing_yet → IsOfFiles fault → RefusesChunk files log keys id fault
      → Comes files log keys record_id bytes (id ∷ ids) [] (Some fault)
  item_faulty : (bytes : List ℕ) (ids : List (List ℕ)) (fault : ItemFault)
      → front_item bytes ≡ a_fault fault → Comes files log keys record_id bytes ids [] (Some (Item record_id fault))
  stream_whole : Comes files log keys record_id [] [] [] None
  stream_cut : (bytes : List ℕ) → front_item bytes ≡ nothing_yet → bytes ≢ []
      → Comes files log keys record_id bytes [] [] (Some (Item record_id Items.Rest))

-- ---- where a walk stands

-- the id of the record, its chunks, how many of them were read, what was read ahead and isn't answered, and whether the end was met
pub record WalkState : Type 0 where
  pub id : List ℕ
  pub ids : List (List ℕ)
  pub read : ℕ
  pub ahead : List ℕ
  pub ending : Ending

-- what a `Walk` says, apart from where its parts lie in memory
abbrev pub walk_view : Walk → WalkState
walk_view walk = record { id = walk.id; ids = walk.ids; read = walk.read; ahead = walk.reader; ending = walk.ending }

-- a walk in front of the stream of these chunks
abbrev pub begin_walk : List ℕ → List (List ℕ) → WalkState
begin_walk id ids = record { id = id; ids = ids; read = 0; ahead = []; ending = Open }

-- the items to come and their end, by whether the end of the stream was met
abbrev pub ComesAt : Files → LogState → Keys → List ℕ → List ℕ → List (List ℕ) → Ending → List ItemText → Option RepoFault → Type 0
ComesAt files log keys id ahead ids Open items end = Comes files log keys id ahead ids items end
ComesAt files log keys id ahead ids Whole items end = (items ≡ []) × (end ≡ None)
ComesAt files log keys id ahead ids Cut items end = (items ≡ []) × (end ≡ Some (Item id Items.Rest))

-- From where a walk stands, these items are to come, and this end.
unfoldable pub IsToCome : Files → LogState → Keys → WalkState → List ItemText → Option RepoFault → Type 0
IsToCome files log keys walk items end = ComesAt files log keys walk.id walk.ahead (drop walk.read walk.ids) walk.ending items end

-- What is to come from the second place of a walk comes from the first one too, behind these items.
abbrev pub LeadsOn : Files → LogState → Keys → WalkState → List ItemText → WalkState → Type 0
LeadsOn files log keys from before to = (items : List ItemText) (end : Option RepoFault)
    → IsToCome files log keys to items end → IsToCome files log keys from (before ++ items) end

-- ---- what fits

-- the bytes that were left of the stream, by what was read ahead; once the end was met, the reader has none
abbrev pub IsLeft : Ending → List ℕ → List ℕ → Type 0
IsLeft Open ahead left = left ≡ ahead
IsLeft Whole ahead left = left ≡ []
IsLeft Cut ahead left = (left ≢ []) × (front_item left ≡ nothing_yet)

-- the end is met behind the last chunk alone
abbrev pub IsMetAt : Ending → List (List ℕ) → ℕ → Type 0
IsMetAt Open ids read = read ≤ length ids
IsMetAt Whole ids read = read ≡ length ids
IsMetAt Cut ids read = read ≡ length ids

-- A walk fits files, by the log and the keys of its repository: the contents of the chunks that were read, joined, are the spellings of the items that were
-- answered, and behind them what was read ahead.
pub record FitsWalk (files : Files) (log : LogState) (keys : Keys) (walk : WalkState) : Type 0 where
  pub contents : List (List ℕ)
  pub hold : HoldChunks files log keys (take walk.read walk.ids) contents
  pub items : List ItemText
  pub front : List ℕ
  pub answered : ItemsOf front items
  pub left : List ℕ
  pub split : joined contents ≡ front ++ left
  pub left_is : IsLeft walk.ending walk.ahead left
  pub met : IsMetAt walk.ending walk.ids walk.read

-- ---- the steps of a body

-- The walk has read the content of its next chunk.
pub record ReadsOn (files : Files) (log : LogState) (keys : Keys) (before after : WalkState) : Type 0 where
  pub content : List ℕ
  pub chunk : HoldsChunk files log keys (slice_index_or before.ids before.read []) content
  pub ahead : after.ahead ≡ before.ahead ++ content

-- A stream with these bytes left has this ending.
abbrev pub Ends : List ℕ → Ending → Type 0
Ends bytes Open = ⊥
Ends bytes Whole = bytes ≡ []
Ends bytes Cut = bytes ≢ []

-- how many steps end a walk that has no chunk to read
abbrev pub open_steps : Ending → ℕ
open_steps Open = 1
open_steps Whole = 0
open_steps Cut = 0
