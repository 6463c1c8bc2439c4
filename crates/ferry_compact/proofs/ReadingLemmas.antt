-- Lemmas on specs/Reading.antt: an entry begins at each place of a segment that is come to, and the logs of segments one after another.
use Rattle.std.proofs.Common.{◌≡◌, ◌⊎◌, inl, inr, ℕ, ◌+◌, ◌-◌, ◌<◌, ◌≤◌, ◌^◌, false, min, List, [], ◌∷◌, ◌++◌, length, take, drop, map, Result, Ok, Err}
use Rattle.std.proofs.Common.{MatchResult, Option, Some, None, IfSome, option_map}
use Rattle.std.proofs.Common.{refl, sym, ◌∙◌, ap, subst, arith}
use Rattle.std.proofs.lemmas.List.{drop-drop, drop_at, length-append, length-drop, length-take-le}
use Rattle.std.specs.List.{AllByRecursion}
use Rattle.std.specs.Result.{IsErrAnd, IsOkAnd}
use Rattle.ferry_compact.specs.Fault.{compact_failed}
use Rattle.ferry_compact.specs.Reading.{Covers, HasSegment, IsOutside}
use Rattle.ferry_compact.specs.declared.fault.CompactFault.{CompactFault}
use Rattle.ferry_compact.specs.declared.fault.CompactFault.TheVariants.{Memory}
use Rattle.ferry_disk.specs.Act.{files_now}
use Rattle.ferry_disk.specs.Device.{Heard, Told, heard, told_files}
use Rattle.ferry_disk.specs.Files.{Files, segment_bytes}
use Rattle.ferry_log.specs.Log.{Joins, Located, located}
use Rattle.ferry_log.specs.declared.place.Extent.{Extent}
use Rattle.ferry_log.specs.Opening.{entry_at}
use Rattle.ferry_log.specs.Window.{Tells}
use Rattle.ferry_segment.proofs.EntryLemmas.{length-spelling, no_spelling, size_of-least, spelling-checked, spelling-crc, spelling-size}
use Rattle.ferry_segment.proofs.HeadLemmas.{head_size}
use Rattle.ferry_segment.proofs.SegmentLemmas.{ReadUpTo, read_front}
use Rattle.ferry_segment.specs.Crc.{crc}
use Rattle.ferry_segment.specs.Entry.{Fits, IsEntryAt, LogEntry, checked_part, first_fault, size_of, spelling, stated_crc, stated_size}
use Rattle.ferry_segment.specs.Head.{BeginsAt, HasHead, States, head_of}
use Rattle.ferry_segment.specs.Segment.{Splits, spellings}
use Rattle.ferry_segment.specs.declared.entry.EntryFault.{EntryFault}
use Rattle.ferry_segment.specs.declared.head.StatedHead.{StatedHead}
use Rattle.ferry_segment.specs.declared.head.Head.{Head}

-- ---- what `?` hands on

pub err_is : {T : Type 0} (r : Result T CompactFault) (fault : CompactFault) (P : Result T CompactFault → Type 0) → IsErrAnd r (λ y. y ≡ fault)
    → P (Err fault) → P r
err_is (Ok x) fault P e p = absurd e
err_is (Err y) fault P e p = subst (λ (f : CompactFault). P (Err f)) (sym e) p

pub err_matches : {T : Type 0} (r : Result T CompactFault) (fault : CompactFault) (P : T → Type 0) (Q : CompactFault → Type 0) → IsErrAnd r (λ y. y ≡ fault)
    → Q fault → MatchResult r P Q
err_matches r fault P Q e q = err_is r fault (λ s. MatchResult s P Q) e q

pub memory_outside : (fault : CompactFault) → fault ≡ Memory → IsOutside fault
memory_outside fault e = subst IsOutside (sym e) tt

pub memory_still : (fault : CompactFault) → fault ≡ Memory → compact_failed fault ≡ false
memory_still fault e = ap compact_failed e

-- ---- what a device tells

heard_files : (told : Option Told) → option_map (λ (h : Heard). files_now h.history) (heard told) ≡ option_map told_files told
heard_files None = refl
heard_files (Some told) = refl

-- a device that tells the same tells the same files
pub tells_on : (a b : Option Told) (files : Files) → heard b ≡ heard a → Tells a files → Tells b files
tells_on a b files same tells = sym (heard_files b) ∙ (ap (option_map (λ (h : Heard). files_now h.history)) same ∙ (heard_files a ∙ tells))

told_one : (files other : Files) → Some files ≡ Some other → files ≡ other
told_one files other e = cc

-- what holds of the files that are told
pub of_told : (a : Option Told) (P : Files → Type 0) (files : Files) → Tells a files → IfSome a (λ t. P (told_files t)) → P files
of_told None P files tells p = absurd (let none : ⊥ = cc in none)
of_told (Some a) P files tells p = subst P (told_one (told_files a) files tells) p

-- what holds of any files that are told
pub to_told : (a : Option Told) (P : Files → Type 0) → ((files : Files) → Tells a files → P files) → IfSome a (λ t. P (told_files t))
to_told None P p = tt
to_told (Some a) P p = p (told_files a) refl

-- ---- places

pub located_push : (segment at : ℕ) (es : List LogEntry) (e : LogEntry)
    → located segment at (es ++ e ∷ []) ≡ located segment at es ++ entry_at segment (at + length (spellings es)) e ∷ []
located_push segment at [] e = ap (λ n. entry_at segment n e ∷ []) (omega arith)
located_push segment at (x ∷ es) e =
    ap (λ k. entry_at segment at x ∷ k) (located_push segment (at + size_of x) es e
    ∙ ap (λ n. located segment (at + size_of x) es ++ entry_at segment n e ∷ [])
    (let n : at + size_of x + length (spellings es) ≡ at + length (spellings (x ∷ es)) = omega
    (arith, length-append (spelling x) (spellings es), length-spelling x) in n))

begins_by : (bytes : List ℕ) (at : ℕ) (gs : List LogEntry) → at < length bytes → AllByRecursion Fits gs → drop at bytes ≡ spellings gs
    → (e : LogEntry) × BeginsAt bytes at e
begins_by bytes at [] within fit is =
    absurd (omega (arith, within, length-drop at bytes, ap length is))
begins_by bytes at (g ∷ gs) within fit is =
    let behind : drop (at + size_of g) bytes ≡ spellings gs =
    sym (drop-drop (size_of g) at bytes) ∙ (ap (drop (size_of g)) is ∙ drop_at (spelling g) (spellings gs) (size_of g) (length-spelling g)) in (
      g,
      record {
        fits = fit.0;
        spelled = is ∙ ap (λ (l : List ℕ). spelling g ++ l) (sym behind);
        ends = refl;
        within = omega (
          arith,
          within,
          length-drop at bytes,
          ap length is,
          length-append (spelling g) (spellings gs),
          length-spelling g,
        );
      },
    )

-- where a segment splits, an entry begins at each place that is come to
pub begins_there : (bytes : List ℕ) (at : ℕ) (es fs : List LogEntry) → ReadUpTo bytes at es → Splits bytes fs → at < length bytes
    → (e : LogEntry) × BeginsAt bytes at e
begins_there bytes at es fs read split within =
    let rest = read_front bytes at es fs read split in begins_by bytes at rest.0 within rest.1 rest.3

-- the place behind it
pub ends_at : (bytes : List ℕ) (at place : ℕ) (head : Head) (e : LogEntry) → BeginsAt bytes at e → head ≡ head_of e → place ≡ at + head.size
    → IsEntryAt bytes at e place
ends_at bytes at place head e begins is place_is =
    let size : head.size ≡ size_of e = ap (λ (h : Head). h.size) is ∙ head_size e in
    subst (IsEntryAt bytes at e) (sym (place_is ∙ ap (λ (n : ℕ). at + n) size)) begins

-- no place behind it is refused
pub place_fits : (bytes : List ℕ) (at : ℕ) (head : Head) (P : Type 0) → HasHead bytes at head → length bytes < 2 ^ 64
    → (head.size ≡ 0) ⊎ (2 ^ 64 ≤ at + head.size) → P
place_fits bytes at head P has small refused =
    let e = has.0 in
    let size : head.size ≡ size_of e = ap (λ (h : Head). h.size) has.2 ∙ head_size e in
    let within = has.1.within in
    let least = size_of-least e in
    elim refused [
      | inl none ↦ absurd (omega (arith, none, size, least))
      | inr large ↦ absurd (omega (arith, large, size, within, small))
    ]

-- ---- an entry whose first bytes are read

-- the checksum that they state is right
pub right_stated : (bytes : List ℕ) (at : ℕ) (e : LogEntry) (stated : StatedHead) → BeginsAt bytes at e → States (drop at bytes) stated
    → stated.crc ≡ crc (take (stated.head.size - 4) (drop 4 (drop at bytes)))
right_stated bytes at e stated begins s =
    let rest = drop (at + size_of e) bytes in
    let size : stated.head.size ≡ size_of e = s.size ∙ (ap stated_size begins.spelled ∙ spelling-size e rest begins.fits) in
    let sum : take (stated.head.size - 4) (drop 4 (drop at bytes)) ≡ checked_part e =
    ap (λ (n : ℕ). take (n - 4) (drop 4 (drop at bytes))) size
    ∙ (ap (λ (l : List ℕ). take (size_of e - 4) (drop 4 l)) begins.spelled ∙ spelling-checked e rest) in
    s.crc ∙ (ap stated_crc begins.spelled ∙ (spelling-crc e rest ∙ ap crc (sym sum)))

-- it breaks no rule
pub begins_right : (bytes : List ℕ) (at : ℕ) (e : LogEntry) (fault : EntryFault) → BeginsAt bytes at e → first_fault (drop at bytes) ≡ Some fault → ⊥
begins_right bytes at e fault begins broken = no_spelling (drop at bytes) fault broken e (drop (at + size_of e) bytes) begins.fits begins.spelled

-- how many bytes are read, and how many are left
pub front_sizes : (bytes front : List ℕ) (at left : ℕ) → length bytes ≡ at + left → front ≡ take (min 41 left) (drop at bytes)
    → (length (drop at bytes) ≡ left) × (length front ≡ min 41 left) × (front ≡ take (length front) (drop at bytes))
front_sizes bytes front at left size is =
    let all : length (drop at bytes) ≡ left = omega (arith, length-drop at bytes, size) in
    let some : length front ≡ min 41 left = ap length is ∙ length-take-le (min 41 left) (drop at bytes) (omega (arith, all)) in
    (all, some, is ∙ ap (λ (n : ℕ). take n (drop at bytes)) (sym some))

-- where no refusal can be, it is `Ok`
pub ok_by : {T E : Type 0} (r : Result T E) (P : T → Type 0) (Q : E → Type 0) → MatchResult r P Q → ((fault : E) → Q fault → ⊥) → IsOkAnd r P
ok_by (Ok x) P Q m none = m
ok_by (Err fault) P Q m none = absurd (none fault m)

-- ---- segments one after another

-- the first of the segments that are left, and those behind it
pub first_covered : (files : Files) (extents more : List Extent) (extent : Extent) (log : List Located) → extents ≡ extent ∷ more → Covers files extents log
    → (entries : List LogEntry) × (rest : List Located) × HasSegment files extent entries × Covers files more rest
    × (log ≡ located extent.segment 8 entries ++ rest)
first_covered files extents more extent log is covers =
    let joined = subst (λ (es : List Extent). Joins files (map (λ e. e.segment) es) log) is covers.joined in
    let sizes = subst (λ (es : List Extent). AllByRecursion (λ e. e.size ≡ length (segment_bytes files e.segment)) es) is covers.sizes in
    (joined.0, joined.1, record { split = joined.2; sized = sizes.0 }, record { joined = joined.3; sizes = sizes.1 }, joined.4)

pub none_covered : (files : Files) (extents : List Extent) (log : List Located) → extents ≡ [] → Covers files extents log → log ≡ []
none_covered files extents log none covers =
    subst (λ (es : List Extent). Joins files (map (λ e. e.segment) es) log) none covers.joined
