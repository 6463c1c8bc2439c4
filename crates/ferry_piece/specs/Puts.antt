-- Which contents are put: of those that are added one after another, those whose ids aren't live by what stands; and where a commit comes between them.
use Rattle.std.specs.Prelude.{◌≡◌, ◌≢◌, ◌⊎◌, ◌<◌, ◌≤◌, ◌+◌, ◌++◌, ◌&&◌, ℕ, suc, Bool, true, false, if◌then◌else◌, List, [], ◌∷◌, length, map, IsSome}
use Rattle.std.specs.List.{AllByRecursion}
use Rattle.std.specs.Str.{bytes_eq}
use Rattle.ferry_base.specs.Limits.{zero_id}
use Rattle.ferry_blob.specs.Blob.{OpensTo, content_id}
use Rattle.ferry_mac.specs.declared.keys.Keys.{Keys}
use Rattle.ferry_segment.specs.Entry.{LogEntry, PutEntry, DeleteEntry, CommitEntry}
use Rattle.ferry_store.specs.Standing.{committed_of, entries_of, live_in}
use Rattle.ferry_store.specs.State.{Written}

-- ---- what is added

-- what is added to a target: a piece of a content, a piece of an item stream, or the record of an archive
pub data Kind : Type 0 where
  Content : Kind
  Stream : Kind
  Record : Kind

-- a content that is added, what it is, and whether it is put, which it isn't where its id is live
pub record Addition : Type 0 where
  pub kind : Kind
  pub content : List ℕ
  pub put : Bool

abbrev pub addition : Kind → List ℕ → Bool → Addition
addition kind content put = record { kind = kind; content = content; put = put }

-- their contents
abbrev pub contents_in : List Addition → List (List ℕ)
contents_in added = map (λ (one : Addition). one.content) added

-- All of these are of a kind.
abbrev pub AreOf : Kind → List Addition → Type 0
AreOf kind added = AllByRecursion (λ (one : Addition). one.kind ≡ kind) added

-- These are of a kind, and have these contents.
abbrev pub ArePieces : Kind → List (List ℕ) → List Addition → Type 0
ArePieces kind contents added = (contents_in added ≡ contents) × AreOf kind added

-- These are the first of those.
abbrev pub IsFront : List Addition → List Addition → Type 0
IsFront front all = (rest : List Addition) × (all ≡ front ++ rest)

-- ---- how much is put

abbrev pub same_kind : Kind → Kind → Bool
same_kind Content Content = true
same_kind Stream Stream = true
same_kind Record Record = true
same_kind one other = false

-- whether it is put and of this kind
abbrev pub counts_as : Kind → Addition → Bool
counts_as kind one = one.put && same_kind kind one.kind

-- how many of a kind are put, and how many bytes they have
unfoldable pub put_count : Kind → List Addition → ℕ
put_count kind [] = 0
put_count kind (one ∷ rest) = (if counts_as kind one then 1 else 0) + put_count kind rest

unfoldable pub put_bytes : Kind → List Addition → ℕ
put_bytes kind [] = 0
put_bytes kind (one ∷ rest) = (if counts_as kind one then length one.content else 0) + put_bytes kind rest

-- ---- what is pending

-- A number of pieces after which a transfer commits what it put is in its range.
pub record IsCheckpoint (most : ℕ) : Type 0 where
  pub some : 1 ≤ most
  pub limit : most ≤ 1000000

-- how many chunks are put or deleted behind the last commit of these entries, where so many are in front of them
unfoldable pub pending_from : ℕ → List LogEntry → ℕ
pending_from count [] = count
pending_from count (CommitEntry ∷ rest) = pending_from 0 rest
pending_from count (DeleteEntry id ∷ rest) = pending_from (suc count) rest
pending_from count (PutEntry id blob ∷ rest) = pending_from (if bytes_eq id zero_id then count else suc count) rest

abbrev pub pending_in : List LogEntry → ℕ
pending_in entries = pending_from 0 entries

-- below how many pending chunks it is put: a record may be one more than the pieces, as it ends an archive, which is committed then
abbrev pub room_for : ℕ → Kind → ℕ
room_for most Content = most
room_for most Stream = most
room_for most Record = suc most

-- ---- what is put

-- An id is the manifest's, or is live by these entries.
abbrev pub IsLiveIn : List LogEntry → List ℕ → Type 0
IsLiveIn entries id = (id ≡ zero_id) ⊎ IsSome (live_in id entries)

-- A content is put behind these entries: its id isn't live by them, there is room for it, and its blob opens to it.
pub record IsPutBehind (keys : Keys) (most : ℕ) (front : List LogEntry) (one : Addition) (blob : List ℕ) : Type 0 where
  pub new : IsLiveIn front (content_id keys one.content) → ⊥
  pub room : pending_in front < room_for most one.kind
  pub opens : OpensTo keys (content_id keys one.content) blob one.content

-- A content is added behind these entries: where its id is live nothing is put, and else the content is.
abbrev pub IsAddedBehind : Keys → ℕ → List LogEntry → Addition → List LogEntry → Type 0
IsAddedBehind keys most front one after = ((one.put ≡ false) × (IsLiveIn front (content_id keys one.content) × (after ≡ front)))
    ⊎ ((one.put ≡ true) × ((blob : List ℕ) × (IsPutBehind keys most front one blob
    × (after ≡ front ++ PutEntry (content_id keys one.content) blob ∷ []))))

-- ---- where a commit comes

-- where entries stand: within an archive, behind the record of one, or at the begin of a transfer
pub data Border : Type 0 where
  Within : Border
  AtEnd : Border
  AtBegin : Border

-- where they stand behind a content of a kind
abbrev pub border_of : Kind → Border
border_of Content = Within
border_of Stream = Within
border_of Record = AtEnd

-- where they stand behind these
unfoldable pub border_behind : Border → List Addition → Border
border_behind at [] = at
border_behind at (one ∷ rest) = border_behind (border_of one.kind) rest

-- the entries of manifests, each of which is committed
abbrev pub manifests_committed : List (List ℕ) → List LogEntry
manifests_committed [] = []
manifests_committed (blob ∷ rest) = PutEntry zero_id blob ∷ (CommitEntry ∷ manifests_committed rest)

-- What may come in front of what is added next: within an archive nothing; behind the record of one manifests, each of which is committed; at the begin a
-- commit, where something was pending then.
abbrev pub MayCome : Border → List LogEntry → List LogEntry → Type 0
MayCome Within before others = others ≡ []
MayCome AtEnd before others = (blobs : List (List ℕ)) × (others ≡ manifests_committed blobs)
MayCome AtBegin before others = (others ≡ []) ⊎ ((pending_in before ≢ 0) × (others ≡ CommitEntry ∷ []))

-- whether it is a piece, and no record
abbrev pub is_piece : Kind → Bool
is_piece Content = true
is_piece Stream = true
is_piece Record = false

-- Behind these entries a checkpoint comes before a piece: as many are pending as may be, and the piece is to be put.
pub record IsFull (keys : Keys) (most : ℕ) (front : List LogEntry) (one : Addition) : Type 0 where
  pub piece : is_piece one.kind ≡ true
  pub full : pending_in front ≡ most
  pub new : IsLiveIn front (content_id keys one.content) → ⊥

-- Before a content comes nothing, or a checkpoint.
abbrev pub ComesBefore : Keys → ℕ → List LogEntry → Addition → List LogEntry → Type 0
ComesBefore keys most front one after = (after ≡ front) ⊎ (IsFull keys most front one × (after ≡ front ++ CommitEntry ∷ []))

-- The same before the first of these, and nothing where there are none.
abbrev pub ComesBeforeNext : Keys → ℕ → List LogEntry → List Addition → List LogEntry → Type 0
ComesBeforeNext keys most front [] after = after ≡ front
ComesBeforeNext keys most front (one ∷ rest) after = ComesBefore keys most front one after

-- ---- what was added

-- Behind these entries, which stand there, these were added one after another, and nothing else: a commit comes only before a piece where as many are pending
-- as may be, with the manifest behind the record of an archive, and, where something was pending then, at the begin.
abbrev pub AddsAll : Border → Keys → ℕ → List LogEntry → List Addition → List LogEntry → Type 0
AddsAll at keys most before [] after = (others : List LogEntry) × (MayCome at before others × (after ≡ before ++ others))
AddsAll at keys most before (one ∷ rest) after = (others : List LogEntry) × (MayCome at before others × ((front : List LogEntry)
    × (ComesBefore keys most (before ++ others) one front × ((middle : List LogEntry)
    × (IsAddedBehind keys most front one middle × AddsAll (border_of one.kind) keys most middle rest after)))))

-- The first of these were added so, and perhaps a checkpoint came before the next.
pub record AddsFirst (at : Border) (keys : Keys) (most : ℕ) (before : List LogEntry) (all : List Addition) (after : List LogEntry) : Type 0 where
  pub added : List Addition
  pub rest : List Addition
  pub split : all ≡ added ++ rest
  pub front : List LogEntry
  pub adds : AddsAll at keys most before added front
  pub next : ComesBeforeNext keys most front rest after

-- Committed is what was, or what goes on from all that was written, with the first of these added.
abbrev pub GoesOn : Border → Keys → ℕ → List Addition → Written → List LogEntry → Type 0
GoesOn at keys most within written entries = (entries ≡ committed_of written) ⊎ AddsFirst at keys most (entries_of written) within entries
