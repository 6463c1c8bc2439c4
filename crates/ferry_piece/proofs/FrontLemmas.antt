-- Lemmas on specs/Front.antt: what the segments have while contents are added, from body to body.
use Rattle.std.proofs.Common.{◌≡◌, inl, inr, ℕ, Bool, List, [], ◌∷◌, ◌++◌, sym, subst}
use Rattle.ferry_base.specs.Limits.{zero_id}
use Rattle.ferry_disk.specs.Act.{History, files_now}
use Rattle.ferry_disk.specs.Files.{Files}
use Rattle.ferry_disk.specs.Moments.{Moments}
use Rattle.ferry_mac.specs.declared.keys.Keys.{Keys}
use Rattle.ferry_repo.specs.Opening.{repo_view}
use Rattle.ferry_segment.specs.Entry.{LogEntry, CommitEntry, PutEntry}
use Rattle.ferry_store.proofs.StepLemmas.{moments_both, moments_map}
use Rattle.ferry_store.proofs.WritingLemmas.{fits_front}
use Rattle.ferry_store.specs.Standing.{entries_of}
use Rattle.ferry_store.specs.State.{IsSound}
use Rattle.ferry_store.specs.Store.{StoreFits}
use Rattle.ferry_store.specs.declared.store.Store.{Store}
use Rattle.ferry_piece.proofs.PutsLemmas.{Allows, adds_manifest, first_all, first_at, first_none, first_then, first_wider}
use Rattle.ferry_piece.proofs.GoesLemmas.{first_room}
use Rattle.ferry_piece.specs.Front.{HoldsFront, IsSoundWith}
use Rattle.ferry_write.specs.Front.{HasFront}
use Rattle.ferry_store.specs.Writing.{IsOnTheWay, WritesManifest, WritesMore}
use Rattle.ferry_piece.specs.Puts.{Addition, AddsAll, AddsFirst, AtEnd, Border, ComesBefore, IsCheckpoint, IsFront, Within, border_behind}

-- ---- what the segments have

-- a front of what goes on so
pub front_is : (at : Border) (keys : Keys) (most : ℕ) (before after : List LogEntry) (within : List Addition) (files : Files) → HasFront files after
    → AddsFirst at keys most before within after → HoldsFront at keys most before within files
unfolding HoldsFront
front_is at keys most before after within files has adds = (after, (has, adds))

-- where more may be added
pub front_wider : (at : Border) (keys : Keys) (most : ℕ) (before : List LogEntry) (some all : List Addition) (files : Files) → IsFront some all
    → HoldsFront at keys most before some files → HoldsFront at keys most before all files
unfolding HoldsFront
front_wider at keys most before some all files front p =
    (p.0, (p.1.0, subst (λ (l : List Addition). AddsFirst at keys most before l p.0) (sym front.1) (first_wider at keys most before some front.0 p.0 p.1.1)))

-- at a border where all may come that may come at this one
pub front_at : (at other : Border) (keys : Keys) (most : ℕ) (before : List LogEntry) (within : List Addition) (files : Files) → Allows at other before
    → HoldsFront at keys most before within files → HoldsFront other keys most before within files
unfolding HoldsFront
front_at at other keys most before within files allows p = (p.0, (p.1.0, first_at at other keys most before within p.0 allows p.1.1))

-- behind what was added
pub front_then : (at : Border) (keys : Keys) (most : ℕ) (before middle : List LogEntry) (added more : List Addition) (files : Files)
    → AddsAll at keys most before added middle → HoldsFront (border_behind at added) keys most middle more files
    → HoldsFront at keys most before (added ++ more) files
unfolding HoldsFront
front_then at keys most before middle added more files adds p =
    (p.0, (p.1.0, first_then at keys most before middle p.0 added more adds p.1.1))

-- behind what came before a content
pub front_room : (keys : Keys) (most : ℕ) (before middle : List LogEntry) (one : Addition) (files : Files) → IsCheckpoint most
    → ComesBefore keys most before one middle → HoldsFront Within keys most middle (one ∷ []) files → HoldsFront Within keys most before (one ∷ []) files
unfolding HoldsFront
front_room keys most before middle one files checkpoint comes p = (p.0, (p.1.0, first_room keys most before middle one p.0 checkpoint comes p.1.1))

-- on the way from entries to these with more behind them
pub front_way : (Holds : Type 0) (at : Border) (keys : Keys) (most : ℕ) (before more : List LogEntry) (within : List Addition) (files : Files)
    → (Holds → AddsFirst at keys most before within (before ++ more)) → IsOnTheWay Holds before more files → HoldsFront at keys most before within files
front_way Holds at keys most before more within files adds (inl has) =
    front_is at keys most before before within files has (first_none at keys most before within)
front_way Holds at keys most before more within files adds (inr both) =
    front_is at keys most before (before ++ more) within files both.1 (adds both.0)

-- where nothing is done
pub front_still : (at : Border) (most : ℕ) (counts : Bool) (store : Store) (h : History) (fits : StoreFits counts store h) (within : List Addition)
    → HoldsFront at (repo_view store.repo).keys most (entries_of fits.written) within (files_now h)
front_still at most counts store h fits within =
    let keys = (repo_view store.repo).keys in
    let before = entries_of fits.written in
    front_is at keys most before before within (files_now h) (fits_front counts store h fits) (first_none at keys most before within)

-- ---- at each moment

-- So it is at each moment of a body that adds to a store that fits.
abbrev pub EachFront : Border → ℕ → Store → List Addition → History → History → Type 0
EachFront at most store within before now = (counts : Bool) (fits : StoreFits counts store before)
    → Moments (λ h. HoldsFront at (repo_view store.repo).keys most (entries_of fits.written) within (files_now h)) before now

-- each moment of a body that writes more on the way of which all goes on so
pub each_way : (Holds : Type 0) (more : List LogEntry) (at : Border) (most : ℕ) (store : Store) (within : List Addition) (h g : History)
    → ((counts : Bool) (fits : StoreFits counts store h) → Holds
    → AddsFirst at (repo_view store.repo).keys most (entries_of fits.written) within (entries_of fits.written ++ more))
    → WritesMore Holds more store.session store.counter h g → EachFront at most store within h g
each_way Holds more at most store within h g adds writes counts fits =
    let keys = (repo_view store.repo).keys in
    let before = entries_of fits.written in
    moments_map (λ k. IsOnTheWay Holds before more (files_now k)) (λ k. HoldsFront at keys most before within (files_now k)) h g
    (λ k way. front_way Holds at keys most before more within (files_now k) (adds counts fits) way) (writes counts fits.written fits.under_way)

-- each moment of the commit of a manifest, at the end of an archive
pub manifest_way : (at : Border) (most : ℕ) (store : Store) (blob : List ℕ) (h g : History) → at ≡ AtEnd
    → WritesManifest blob store.session store.counter h g → EachFront at most store [] h g
manifest_way at most store blob h g at_end writes =
    let keys = (repo_view store.repo).keys in
    let more = PutEntry zero_id blob ∷ (CommitEntry ∷ []) in
    each_way (Unit {0}) more at most store [] h g (λ counts fits _.
    let before = entries_of fits.written in
    subst (λ (b : Border). AddsFirst b keys most before [] (before ++ more)) (sym at_end)
    (first_all AtEnd keys most before [] (before ++ more) (adds_manifest keys most before blob))) writes

-- a moment that is sound, with what is read
pub with_read : (Show Read : Files → Type 0) (counts : Bool) (h g : History) → Moments (IsSound Show counts) h g → Moments (λ k. Read (files_now k)) h g
    → Moments (IsSoundWith Show Read counts) h g
with_read Show Read counts h g sound read =
    moments_map (λ k. IsSound Show counts k × Read (files_now k)) (IsSoundWith Show Read counts) h g (λ k both. record { sound = both.0; read = both.1 })
    (moments_both (IsSound Show counts) (λ k. Read (files_now k)) h g sound read)

-- the same under other words
pub with_map : (P Q R S : Files → Type 0) (counts : Bool) (k : History) → ((image : Files) → P image → Q image) → ((files : Files) → R files → S files)
    → IsSoundWith P R counts k → IsSoundWith Q S counts k
with_map P Q R S counts k step read s = record {
  sound = record { shows = λ image left. step image (s.shows image left); traced = s.traced; numbers = s.numbers; types = s.types; fresh = s.fresh };
  read = read (files_now k) s.read;
}

pub with_moments : (P Q R S : Files → Type 0) (counts : Bool) (h g : History) → ((image : Files) → P image → Q image)
    → ((files : Files) → R files → S files) → Moments (IsSoundWith P R counts) h g → Moments (IsSoundWith Q S counts) h g
with_moments P Q R S counts h g step read m =
    moments_map (IsSoundWith P R counts) (IsSoundWith Q S counts) h g (λ k s. with_map P Q R S counts k step read s) m
