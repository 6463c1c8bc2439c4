-- Lemmas on specs/Opening.antt: a log is taken entry by entry and segment by segment.
use Rattle.std.proofs.Common.{◌≡◌, ℕ, ◌+◌, ◌-◌, ◌<◌, ◌≤◌, ◌^◌, cond, List, [], ◌∷◌, ◌++◌, length, take, drop, map, get_or, eqb, Option, Some, Result, Ok}
use Rattle.std.proofs.Common.{Err, IfOk, IfErr, IfSome, MatchResult, refl, sym, ◌∙◌, ap, subst, inr, arith}
use Rattle.std.proofs.lemmas.List.{append_assoc, append-nil, length-append, take_more, drop_more, drop_all, map_push, take-append-drop, take_all}
use Rattle.std.proofs.lemmas.List.Sums.{sum_by-append}
use Rattle.std.specs.List.{AllByRecursion}
use Rattle.std.specs.Result.{IsErrAnd}
use Rattle.ferry_segment.specs.declared.entry.EntryFault.{EntryFault}
use Rattle.ferry_segment.specs.Entry.{LogEntry, size_of, spelling, IsEntryAt, first_fault}
use Rattle.ferry_segment.specs.Segment.{HasMagic, Committed, Splits, BreaksAt, spellings}
use Rattle.ferry_segment.proofs.EntryLemmas.{length-spelling}
use Rattle.ferry_segment.proofs.SegmentLemmas.{ReadUpTo, read_none, read_more, read_all, read_broken}
use Rattle.ferry_segment.specs.Entry.{PutEntry, DeleteEntry, CommitEntry}
use Rattle.ferry_segment.specs.Head.{head_of, HasHead}
use Rattle.ferry_segment.specs.Segment.{commits}
use Rattle.ferry_segment.specs.declared.head.Head.{Head}
use Rattle.ferry_disk.specs.Files.{Files, segment_bytes}
use Rattle.ferry_log.specs.declared.fault.LogFault.{LogFault}
use Rattle.ferry_log.specs.declared.fault.LogFault.TheVariants.{NoCommit, Damaged, Device, Memory}
use Rattle.ferry_log.specs.declared.place.Extent.{Extent}
use Rattle.ferry_log.specs.Log.{Located, located, IsOpen, Joins}
use Rattle.ferry_log.specs.declared.window.Window.{Window}
use Rattle.ferry_log.specs.Head.{IsHeadless, NamesPlace}
use Rattle.ferry_log.specs.Window.{Tells, OnSame, IsWindowOf, IsBrokenAt}
use Rattle.ferry_log.proofs.WindowLemmas.{to_told}
use Rattle.ferry_disk.specs.Device.{Told, told_files}
use Rattle.ferry_log.proofs.HeadLemmas.{unread_broken}
use Rattle.ferry_log.specs.Opening.{IsOutside, HasNoEnd, Pairs, entry_at, TakesEntries, TakesSegment, IsUnread, IsStopped, uncounted, HasTaken}
use Rattle.ferry_log.proofs.LawLemmas.{joins_good}
use Rattle.ferry_log.proofs.LiveLemmas.{takes_none, takes_more}
use Rattle.ferry_log.proofs.PlacesLemmas.{live_place_none}

-- ---- located

pub located_push : (segment at : ℕ) (es : List LogEntry) (e : LogEntry)
    → located segment at (es ++ e ∷ []) ≡ located segment at es ++ entry_at segment (at + length (spellings es)) e ∷ []
located_push segment at [] e = ap (λ n. entry_at segment n e ∷ []) (omega arith)
located_push segment at (x ∷ es) e =
    ap (λ k. entry_at segment at x ∷ k) (located_push segment (at + size_of x) es e
    ∙ ap (λ n. located segment (at + size_of x) es ++ entry_at segment n e ∷ [])
    (let n : at + size_of x + length (spellings es) ≡ at + length (spellings (x ∷ es)) = omega
    (arith, length-append (spelling x) (spellings es), length-spelling x) in n))

-- ---- TakesSegment

-- The entries up to this place read, and the pairs go on with them.
pub record TakenUpTo (segment : ℕ) (bytes : List ℕ) (at : ℕ) (old new : Pairs) : Type 0 where
  pub entries : List LogEntry
  pub read : ReadUpTo bytes at entries
  pub takes : TakesEntries (located segment 8 entries) old new

pub taken_none : (segment : ℕ) (bytes : List ℕ) (pairs : Pairs) → HasMagic bytes → TakenUpTo segment bytes 8 pairs pairs
taken_none segment bytes pairs h = record { entries = []; read = read_none bytes h; takes = takes_none pairs }

pub taken_more : (segment : ℕ) (bytes : List ℕ) (at end : ℕ) (e : LogEntry) (old mid new : Pairs) → TakenUpTo segment bytes at old mid
    → IsEntryAt bytes at e end → TakesEntries (entry_at segment at e ∷ []) mid new → TakenUpTo segment bytes end old new
taken_more segment bytes at end e old mid new t h s = record {
  entries = t.entries ++ e ∷ [];
  read = read_more bytes at end t.entries e t.read h;
  takes =
      subst (λ es. TakesEntries es old new) (ap (λ n. located segment 8 t.entries ++ entry_at segment n e ∷ []) t.read.place
      ∙ sym (located_push segment 8 t.entries e))
      (takes_more (located segment 8 t.entries) (entry_at segment at e ∷ []) old mid new t.takes s);
}

pub taken_all : (segment : ℕ) (bytes : List ℕ) (at : ℕ) (old new : Pairs) → TakenUpTo segment bytes at old new → length bytes ≤ at
    → TakesSegment segment bytes old new
taken_all segment bytes at old new t past = record { entries = t.entries; split = read_all bytes at t.entries t.read past; takes = t.takes }

pub taken_broken : (segment : ℕ) (bytes : List ℕ) (at : ℕ) (old new : Pairs) (fault : EntryFault) → TakenUpTo segment bytes at old new → at < length bytes
    → first_fault (drop at bytes) ≡ Some fault → BreaksAt bytes at
taken_broken segment bytes at old new fault t within broken = inr (read_broken bytes at t.entries fault t.read within broken)

-- ---- EndsAt

-- one more segment above that isn't committed
pub open_more : (files : Files) (numbers : List ℕ) (count : ℕ) (d : ℕ) → 0 < count → count ≤ length numbers
    → (Committed (segment_bytes files (get_or numbers (count - 1) d)) → ⊥) → AllByRecursion (IsOpen files) (drop count numbers)
    → AllByRecursion (IsOpen files) (drop (count - 1) numbers)
open_more files numbers count d some within h all =
    let e : count - 1 + 1 ≡ count = omega arith in
    let split : drop (count - 1) numbers ≡ get_or numbers (count - 1) d ∷ drop count numbers =
    drop_more numbers (count - 1) d (omega arith) ∙ ap (λ k. get_or numbers (count - 1) d ∷ drop k numbers) e in
    subst (AllByRecursion (IsOpen files)) (sym split) (h, all)

pub all_open : (files : Files) (numbers : List ℕ) → AllByRecursion (IsOpen files) (drop (length numbers) numbers)
all_open files numbers = subst (AllByRecursion (IsOpen files)) (sym (drop_all (length numbers) numbers (omega arith))) tt

-- ---- Joins

pub joins_push : (files : Files) (ns : List ℕ) (log : List Located) (n : ℕ) (es : List LogEntry) → Joins files ns log → Splits (segment_bytes files n) es
    → Joins files (ns ++ n ∷ []) (log ++ located n 8 es)
joins_push files [] log n es j s = (es, [], s, refl, ap (λ k. k ++ located n 8 es) j ∙ sym (append-nil (located n 8 es)))
joins_push files (m ∷ ns) log n es j s = (
  j.0,
  j.1 ++ located n 8 es,
  j.2,
  joins_push files ns j.1 n es j.3 s,
  ap (λ k. k ++ located n 8 es) j.4
      ∙ append_assoc (located m 8 j.0) j.1 (located n 8 es),
)

-- ---- HasTaken

pub has_none : (files : Files) (pairs : Pairs) (extents : List Extent) → pairs ≡ [] → extents ≡ [] → HasTaken files [] pairs extents
has_none files pairs extents p e =
    subst (λ q. HasTaken files [] q extents) (sym p) (subst (HasTaken files [] []) (sym e)
    (record { log = []; joined = refl; places = λ key. sym (live_place_none key); bound = λ s. omega arith; small = tt; lengths = refl }))

all_pushed : {X : Type 0} (P : X → Type 0) (xs : List X) (x : X) → AllByRecursion P xs → P x → AllByRecursion P (xs ++ x ∷ [])
all_pushed P [] x h p = (p, tt)
all_pushed P (y ∷ xs) x h p = (h.0, all_pushed P xs x h.1 p)

pub has_more : (files : Files) (ns : List ℕ) (pairs new : Pairs) (extents after : List Extent) (n : ℕ) (bytes : List ℕ) → HasTaken files ns pairs extents
    → bytes ≡ segment_bytes files n
    → TakesSegment n bytes pairs new → after ≡ extents ++ uncounted n (length bytes) ∷ [] → length bytes < 2 ^ 64 → HasTaken files (ns ++ n ∷ []) new after
has_more files ns pairs new extents after n bytes h is t e small =
    let split : Splits (segment_bytes files n) t.entries = subst (λ b. Splits b t.entries) is t.split in
    record {
      log = h.log ++ located n 8 t.entries;
      joined = joins_push files ns h.log n t.entries h.joined split;
      places = t.takes.places h.log h.places;
      bound =
          λ s. let f : Located → ℕ =
          λ x. cond (eqb x.segment s) (size_of x.entry) 0 in omega (arith, h.bound s, t.takes.bound s, sum_by-append f h.log (located n 8 t.entries));
      small = all_pushed (λ m. length (segment_bytes files m) < 2 ^ 64) ns n h.small (subst (λ b. length b < 2 ^ 64) is small);
      lengths =
          e ∙ (ap (λ xs. xs ++ uncounted n (length bytes) ∷ []) h.lengths
          ∙ (ap (λ b. map (λ m. uncounted m (length (segment_bytes files m))) ns ++ uncounted n (length b) ∷ []) is
          ∙ sym (map_push (λ m. uncounted m (length (segment_bytes files m))) ns n)));
    }

-- the segment at which the taking stops
pub stopped_at : (files : Files) (numbers : List ℕ) (i : ℕ) (d : ℕ) (pairs : Pairs) (extents : List Extent) (fault : LogFault) → i < length numbers
    → HasTaken files (take i numbers) pairs extents → IsUnread (get_or numbers i d) (segment_bytes files (get_or numbers i d)) fault
    → IsStopped files numbers fault
stopped_at files numbers i d pairs extents NoCommit within h u = u
stopped_at files numbers i d pairs extents (Damaged segment at) within h u = (
  take i numbers,
  drop (i + 1) numbers,
  sym (take-append-drop i numbers)
      ∙ (ap (λ k. take i numbers ++ k) (drop_more numbers i d within) ∙ ap (λ s. take i numbers ++ s ∷ drop (i + 1) numbers) (sym u.0)),
  joins_good files (take i numbers) h.log h.joined,
  subst (λ s. BreaksAt (segment_bytes files s) at) (sym u.0) u.1,
)
stopped_at files numbers i d pairs extents Device within h u = tt
stopped_at files numbers i d pairs extents Memory within h u = tt

-- ---- the numbers of extents

pub segments_more : (numbers : List ℕ) (i size : ℕ) (extents after : List Extent) → i < length numbers → map (λ e. e.segment) extents ≡ take i numbers
    → after ≡ extents ++ uncounted (get_or numbers i 0) size ∷ [] → map (λ e. e.segment) after ≡ take (i + 1) numbers
segments_more numbers i size extents after within old e =
    ap (map (λ x. x.segment)) e
    ∙ (map_push (λ x. x.segment) extents (uncounted (get_or numbers i 0) size)
    ∙ (ap (λ xs. xs ++ get_or numbers i 0 ∷ []) old ∙ sym (take_more numbers i 0 within)))

pub segments_all : (numbers : List ℕ) (i : ℕ) (extents : List Extent) → length numbers ≤ i → map (λ e. e.segment) extents ≡ take i numbers
    → map (λ e. e.segment) extents ≡ numbers
segments_all numbers i extents past old = old ∙ take_all i numbers past

-- ---- refusals

-- what is said of a fault that was handed on
pub err_gives : {T : Type 0} (r : Result T LogFault) (fault : LogFault) (P : LogFault → Type 0) → IsErrAnd r (λ y. y ≡ fault) → P fault → IfErr r P
err_gives (Ok x) fault P e p = tt
err_gives (Err y) fault P e p = subst P (sym e) p

pub err_matches : {T : Type 0} (r : Result T LogFault) (fault : LogFault) (P : T → Type 0) (Q : LogFault → Type 0) → IsErrAnd r (λ y. y ≡ fault) → Q fault
    → MatchResult r P Q
err_matches (Ok x) fault P Q e q = absurd e
err_matches (Err y) fault P Q e q = subst Q (sym e) q

-- a broken entry of the segment that another window is on
pub broken_on : (files : Files) (old mid : Window) (at : ℕ) (fault : LogFault) → OnSame old mid → IsBrokenAt (segment_bytes files mid.segment) at fault
    → IsBrokenAt (segment_bytes files old.segment) at fault
broken_on files old mid at fault same h = subst (λ n. IsBrokenAt (segment_bytes files n) at fault) same.0 h

pub head_on : (files : Files) (old mid : Window) (at : ℕ) (head : Head) → OnSame old mid → HasHead (segment_bytes files mid.segment) at head
    → HasHead (segment_bytes files old.segment) at head
head_on files old mid at head same h = subst (λ n. HasHead (segment_bytes files n) at head) same.0 h

pub broken_fault : (bytes : List ℕ) (at : ℕ) (fault : LogFault) (segment place : ℕ) → fault ≡ Damaged segment place → IsBrokenAt bytes at fault
    → (f : EntryFault) × (first_fault (drop at bytes) ≡ Some f)
broken_fault bytes at fault segment place is h = subst (IsBrokenAt bytes at) is h

pub headless : (bytes : List ℕ) (at : ℕ) (fault : LogFault) → at < length bytes → IsBrokenAt bytes at fault → IsHeadless bytes at fault
headless bytes at NoCommit within h = h
headless bytes at (Damaged segment place) within h = unread_broken bytes at h.0 within h.1
headless bytes at Device within h = tt
headless bytes at Memory within h = tt

pub outside : (segment at : ℕ) (fault : LogFault) → NamesPlace segment at fault → ((s p : ℕ) → fault ≡ Damaged s p → ⊥) → IsOutside fault
outside segment at NoCommit h apart = absurd h
outside segment at (Damaged s p) h apart = absurd (apart s p refl)
outside segment at Device h apart = tt
outside segment at Memory h apart = tt

pub no_end : (files : Files) (numbers : List ℕ) (fault : LogFault) → IsOutside fault → HasNoEnd files numbers fault
no_end files numbers NoCommit h = absurd h
no_end files numbers (Damaged s p) h = absurd h
no_end files numbers Device h = tt
no_end files numbers Memory h = tt

-- why the taking of a segment's entries stops
pub unread : (segment at size : ℕ) (bytes : List ℕ) (old new : Pairs) (fault : LogFault) → TakenUpTo segment bytes at old new → at < length bytes
    → NamesPlace segment at fault → IsBrokenAt bytes at fault → IsUnread segment bytes fault
unread segment at size bytes old new NoCommit t within names h = h
unread segment at size bytes old new (Damaged s p) t within names h =
    (names.0, subst (BreaksAt bytes) (sym names.1) (taken_broken segment bytes at old new h.0 t within h.1))
unread segment at size bytes old new Device t within names h = tt
unread segment at size bytes old new Memory t within names h = tt

pub commits_tag : (e : LogEntry) → commits e ≡ eqb (head_of e).tag 2
commits_tag (PutEntry key blob) = refl
commits_tag (DeleteEntry key) = refl
commits_tag CommitEntry = refl

-- the window on a segment of this number
pub window_at : (files : Files) (window : Window) (segment : ℕ) → window.segment ≡ segment → IsWindowOf (segment_bytes files segment) window
    → IsWindowOf (segment_bytes files window.segment) window
window_at files window segment same is = subst (λ n. IsWindowOf (segment_bytes files n) window) (sym same) is

pub broken_at : (files : Files) (window : Window) (segment at : ℕ) (fault : LogFault) → window.segment ≡ segment
    → IsBrokenAt (segment_bytes files window.segment) at fault → IsBrokenAt (segment_bytes files segment) at fault
broken_at files window segment at fault same h = subst (λ n. IsBrokenAt (segment_bytes files n) at fault) same h

pub head_found : (files : Files) (window : Window) (segment at : ℕ) (head : Head) → window.segment ≡ segment
    → HasHead (segment_bytes files window.segment) at head → HasHead (segment_bytes files segment) at head
head_found files window segment at head same h = subst (λ n. HasHead (segment_bytes files n) at head) same h

-- an answer over the files that are told
pub ok_told : {T : Type 0} (r : Result T LogFault) (a : Option Told) (A : Files → T → Type 0) (B : Files → LogFault → Type 0)
    → ((files : Files) → Tells a files → MatchResult r (A files) (B files))
    → IfOk r (λ x. IfSome a (λ t. A (told_files t) x))
ok_told (Ok x) a A B h = to_told a (λ files. A files x) h
ok_told (Err y) a A B h = tt

pub err_told : {T : Type 0} (r : Result T LogFault) (a : Option Told) (A : Files → T → Type 0) (B : Files → LogFault → Type 0)
    → ((files : Files) → Tells a files → MatchResult r (A files) (B files))
    → IfErr r (λ y. IfSome a (λ t. B (told_files t) y))
err_told (Ok x) a A B h = tt
err_told (Err y) a A B h = to_told a (λ files. B files y) h
