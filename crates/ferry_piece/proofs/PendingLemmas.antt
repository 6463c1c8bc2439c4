-- What is pending behind entries, and how much room there is.
use Rattle.std.proofs.Common.{◌≡◌, ◌≢◌, ◌+◌, ◌<◌, ◌≤◌, ℕ, zero, suc, Bool, false, if◌then◌else◌, List, [], ◌∷◌, length}
use Rattle.std.proofs.Common.{replicate, Option, Some, None, unwrap_or, refl, ◌∙◌, ap, subst, arith, rules}
use Rattle.std.proofs.lemmas.Slice.Eq.{bytes_eq-Decides}
use Rattle.std.specs.FinMap.{get}
use Rattle.std.specs.List.{AllByRecursion}
use Rattle.std.specs.Str.{bytes_eq}
use Rattle.ferry_base.specs.Limits.{zero_id}
use Rattle.ferry_disk.specs.Act.{History, files_now}
use Rattle.ferry_disk.specs.Files.{Files}
use Rattle.ferry_segment.proofs.SegmentLemmas.{one_split}
use Rattle.ferry_segment.specs.Entry.{LogEntry, PutEntry, DeleteEntry, CommitEntry}
use Rattle.ferry_segment.specs.Segment.{Committed, IsClosed}
use Rattle.ferry_stops.specs.Entries.{CommittedBelow, HaveBelow, SegmentHas, Shows}
use Rattle.ferry_store.specs.Standing.{committed_of, entries_of}
use Rattle.ferry_store.specs.Store.{IsOfChunk, StoreFits}
use Rattle.ferry_store.specs.declared.store.Store.{Store}
use Rattle.ferry_write.specs.Room.{behind}
use Rattle.ferry_piece.specs.Puts.{Content}
use Rattle.ferry_piece.specs.Puts.{IsCheckpoint, Kind, Record, Stream}
use Rattle.ferry_piece.specs.Puts.{pending_from, pending_in, room_for}
use Rattle.ferry_piece.proofs.PutsLemmas.{pending_from-append}

-- ---- what is pending

-- an id that isn't the manifest's
unnamed : (id : List ℕ) → id ≢ zero_id → bytes_eq id zero_id ≡ false
unnamed id chunk = search (rules, bytes_eq-Decides)

-- each entry of a chunk counts once
pending_all : (count : ℕ) (entries : List LogEntry) → AllByRecursion IsOfChunk entries → pending_from count entries ≡ count + length entries
unfolding pending_from
pending_all count [] chunks = omega arith
pending_all count (CommitEntry ∷ rest) chunks = absurd chunks.0
pending_all count (DeleteEntry id ∷ rest) chunks = omega (arith, pending_all (suc count) rest chunks.1)
pending_all count (PutEntry id blob ∷ rest) chunks =
    let other : bytes_eq id zero_id ≡ false = unnamed id chunks.0 in
    ap (λ (zero_is : Bool). pending_from (if zero_is then count else suc count) rest) other
    ∙ omega (arith, pending_all (suc count) rest chunks.1)

-- behind commits nothing is pending
commits_none : (count commits : ℕ) → pending_from count (replicate (suc commits) CommitEntry) ≡ 0
unfolding pending_from
commits_none count zero = refl
commits_none count (suc commits) = commits_none 0 commits

closed_none : (count : ℕ) (entries : List LogEntry) → IsClosed entries → pending_from count entries ≡ 0
closed_none count entries closed =
    ap (pending_from count) closed.then_commits
    ∙ (pending_from-append count closed.before (replicate (suc closed.commits) CommitEntry) ∙ commits_none (pending_from count closed.before) closed.commits)

-- a committed segment's entries are closed, in whichever way they are read
split_none : (file : Option (List ℕ)) (bytes : List ℕ) (count : ℕ) (last : List LogEntry) → file ≡ Some bytes → Committed bytes → SegmentHas file last
    → pending_from count last ≡ 0
split_none None bytes count last there committed has = absurd (let never : ⊥ = cc in never)
split_none (Some other) bytes count last there committed has =
    let same : bytes ≡ other = cc in
    let closed = subst Committed same committed in
    ap (pending_from count) (one_split other last closed.entries has closed.split) ∙ closed_none count closed.entries closed.closed

ends_none : (files : Files) (last : ℕ) (bytes : List ℕ) (entries : List LogEntry) → get files.segments last ≡ Some bytes → Committed bytes
    → HaveBelow files (suc last) entries → pending_in entries ≡ 0
unfolding HaveBelow
ends_none files last bytes entries there committed has =
    ap (pending_from 0) has.4
    ∙ (pending_from-append 0 has.0 has.1 ∙ split_none (get files.segments last) bytes (pending_from 0 has.0) has.1 there committed has.3)

below_none : (files : Files) (end : ℕ) (committed : Option (List LogEntry)) → CommittedBelow files end committed
    → pending_in (unwrap_or committed []) ≡ 0
unfolding pending_from
below_none files end None below = refl
below_none files end (Some entries) below =
    ends_none files below.last below.bytes entries below.there below.committed
    (subst (λ (n : ℕ). HaveBelow files n entries) below.end_is below.entries_are)

-- nothing is pending in files as they stand
pub shown_none : (files : Files) (entries : List LogEntry) → Shows files (Some entries) → pending_in entries ≡ 0
shown_none files entries shown = below_none files shown.0 (Some entries) shown.1.below

-- what is pending was put since the last commit
pub pending_of : (counts : Bool) (store : Store) (h : History) (fits : StoreFits counts store h)
    → pending_in (entries_of fits.written) ≡ length fits.written.pending
pending_of counts store h fits =
    let written = fits.written in
    let none : pending_in (committed_of written) ≡ 0 =
    below_none (files_now h) (behind store.session.after) written.committed fits.under_way.fits.own.commits in
    let all : pending_in (entries_of written) ≡ 0 + length written.pending =
    pending_from-append 0 (committed_of written) written.pending
    ∙ (ap (λ (count : ℕ). pending_from count written.pending) none ∙ pending_all 0 written.pending fits.chunks) in
    omega (arith, all)

-- where a store counts as many as may be, so many are pending
pub full_of : (counts : Bool) (store : Store) (h : History) (fits : StoreFits counts store h) (most : ℕ) → IsCheckpoint most → store.pending ≡ most
    → pending_in (entries_of fits.written) ≡ most
full_of counts store h fits most checkpoint is = omega (arith, pending_of counts store h fits, fits.pending, is, checkpoint.limit)

-- where it counts some, some are
pub some_of : (counts : Bool) (store : Store) (h : History) (fits : StoreFits counts store h) → store.pending ≢ 0
    → pending_in (entries_of fits.written) ≢ 0
some_of counts store h fits some none = some (omega (arith, pending_of counts store h fits, fits.pending, none))

-- where it counts none, none is
pub none_of : (counts : Bool) (store : Store) (h : History) (fits : StoreFits counts store h) → store.pending ≡ 0
    → pending_in (entries_of fits.written) ≡ 0
none_of counts store h fits none = omega (arith, pending_of counts store h fits, fits.pending, none)

room_most : (most : ℕ) (kind : Kind) → IsCheckpoint most → room_for most kind ≤ 1000001
room_most most Content checkpoint = omega (arith, checkpoint.limit)
room_most most Stream checkpoint = omega (arith, checkpoint.limit)
room_most most Record checkpoint = omega (arith, checkpoint.limit)

-- there is room for each kind where there is for a piece
pub room_any : (most count : ℕ) (kind : Kind) → count < most → count < room_for most kind
room_any most count Content fewer = fewer
room_any most count Stream fewer = fewer
room_any most count Record fewer = omega (arith, fewer)

-- where a store counts fewer than there is room for, so few are pending
pub room_of : (counts : Bool) (store : Store) (h : History) (fits : StoreFits counts store h) (most : ℕ) (kind : Kind) → IsCheckpoint most
    → store.pending < room_for most kind → pending_in (entries_of fits.written) < room_for most kind
room_of counts store h fits most kind checkpoint room =
    omega (arith, pending_of counts store h fits, fits.pending, room, room_most most kind checkpoint)
