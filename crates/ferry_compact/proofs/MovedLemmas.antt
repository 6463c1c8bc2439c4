-- Lemmas on specs/Steps.antt: the entries of a segment that are put again.
use Rattle.std.proofs.Common.{◌≡◌, ◌⊎◌, ℕ, ◌+◌, ◌<◌, ◌≤◌, ◌^◌, Bool, false, List, [], ◌∷◌, ◌++◌, length, map, unwrap_or, Option, Result, Ok, Err}
use Rattle.std.proofs.Common.{refl, sym, ◌∙◌, ap, subst, arith}
use Rattle.std.proofs.lemmas.List.Elements.{filter-append}
use Rattle.std.specs.List.{filter}
use Rattle.ferry_compact.proofs.ListLemmas.{map-append}
use Rattle.ferry_compact.proofs.MovingLemmas.{outside_refuses}
use Rattle.ferry_compact.proofs.ReadingLemmas.{begins_there, ends_at, located_push, place_fits}
use Rattle.ferry_compact.proofs.StepLemmas.{Reads, did_as, did_front, did_none, did_nothing, did_stopped, did_then}
use Rattle.ferry_compact.proofs.WentLemmas.{among_back, among_front, moved_here, moved_then, refused_then, went_here, went_then}
use Rattle.ferry_compact.specs.Compact.{StayUpTo}
use Rattle.ferry_compact.specs.Fault.{RefusesCompact, compact_failed}
use Rattle.ferry_compact.specs.Reading.{HasEntry, IsOutside, IsPlace}
use Rattle.ferry_compact.specs.Stays.{Notes}
use Rattle.ferry_compact.specs.Steps.{Did, EachOfEntry, EachOfSegment, IsPutAmong, Moved, MovesEntry, MovesSegment}
use Rattle.ferry_compact.specs.Steps.{OverSegment, RefusesEntry, RefusesMove, RefusesSegment, Went, takes_entry, taken_from}
use Rattle.ferry_compact.specs.declared.fault.CompactFault.{CompactFault}
use Rattle.ferry_disk.specs.Act.{History, files_now}
use Rattle.ferry_disk.specs.Device.{Told}
use Rattle.ferry_disk.specs.Files.{segment_bytes}
use Rattle.ferry_log.specs.Log.{Located, located}
use Rattle.ferry_log.specs.Opening.{entry_at}
use Rattle.ferry_log.specs.State.{LogState}
use Rattle.ferry_log.specs.declared.place.Extent.{Extent}
use Rattle.ferry_segment.proofs.SegmentLemmas.{ReadUpTo, one_split, read_all, read_front, read_more, read_none}
use Rattle.ferry_segment.specs.Entry.{LogEntry}
use Rattle.ferry_segment.specs.Head.{BeginsAt, HasHead}
use Rattle.ferry_segment.specs.Segment.{Splits, spellings}
use Rattle.ferry_segment.specs.declared.head.Head.{Head}
use Rattle.ferry_write.specs.Script.{AllDone}
use Rattle.ferry_write.specs.declared.session.Session.{Session}

pub taken_both : (state : LogState) (notes : Notes) (xs ys : List Located)
    → taken_from state notes (xs ++ ys) ≡ taken_from state notes xs ++ taken_from state notes ys
taken_both state notes xs ys =
    let P : Located → Bool = λ e. takes_entry state notes e.segment e.at e.entry in
    ap (map (λ (e : Located). e.entry)) (filter-append P xs ys) ∙ map-append (λ (e : Located). e.entry) (filter P xs) (filter P ys)

-- ---- the entries of a segment

-- The entries of a segment up to this place are passed.
pub record MovedUpTo (state : LogState) (notes : Notes) (transaction : ℕ) (extent : Extent) (at : ℕ) (old new : Session) (before now : History) : Type 0 where
  pub entries : List LogEntry
  pub read : ReadUpTo (segment_bytes (files_now before) extent.segment) at entries
  pub moved : Moved transaction old new (taken_from state notes (located extent.segment 8 entries)) before now

abbrev pub FrontOfSegment : LogState → Notes → Extent → ℕ → Session → Session → History → History → Type 0
FrontOfSegment state notes extent at old new before now = (transaction : ℕ) (entries : List LogEntry) → OverSegment transaction extent old entries before
    → MovedUpTo state notes transaction extent at old new before now

-- the bytes of a segment up to the last commit are as they were
pub bytes_stay : (t : ℕ) (segment : ℕ) (h g : History) → segment ≤ t → StayUpTo t h g
    → segment_bytes (files_now g) segment ≡ segment_bytes (files_now h) segment
bytes_stay t segment h g low stays = ap (λ (file : Option (List ℕ)). unwrap_or file []) (stays segment low)

-- the first place behind the magic
pub segment_begun : (state : LogState) (notes : Notes) (extent : Extent) (session : Session) (a : Option Told) (n : ℕ)
    → Did (EachOfSegment extent session) (FrontOfSegment state notes extent 8 session session) (RefusesSegment extent session) a a n n (Ok tt)
segment_begun state notes extent session a n =
    did_none (EachOfSegment extent session) (FrontOfSegment state notes extent 8 session session) (RefusesSegment extent session) a n
    (λ h t entries over. went_here t session entries h)
    (λ h t entries over. record {
      entries = [];
      read = read_none (segment_bytes (files_now h) extent.segment) (spellings entries, over.has.split.whole);
      moved = moved_here t session h;
    })

abbrev pub ReadsHead : Extent → ℕ → Head → History → History → Type 0
ReadsHead extent at head before now =
    (now ≡ before) × (IsPlace (files_now before) extent at → HasHead (segment_bytes (files_now before) extent.segment) at head)

-- an entry begins at the next place of a segment, at a later moment too
place_there : (state : LogState) (notes : Notes) (t : ℕ) (extent : Extent) (at : ℕ) (old mid : Session) (entries : List LogEntry) (h g : History)
    → at < extent.size → OverSegment t extent old entries h → Went t old entries h g → MovedUpTo state notes t extent at old mid h g
    → IsPlace (files_now g) extent at
place_there state notes t extent at old mid entries h g lt over went front =
    let same = bytes_stay t extent.segment h g over.low (went.stays over.committed over.pending over.writing) in
    let bytes = segment_bytes (files_now h) extent.segment in
    let sized = over.has.sized in
    let there = begins_there bytes at front.entries entries front.read over.has.split (omega (arith, lt, sized)) in
    record {
      entry = there.0;
      begins = subst (λ (x : List ℕ). BeginsAt x at there.0) (sym same) there.1;
      sized = sized ∙ ap length (sym same);
    }

-- what stands at a later moment
over_later : (t : ℕ) (extent : Extent) (old mid : Session) (entries moved : List LogEntry) (h g : History) → OverSegment t extent old entries h
    → Went t old entries h g → Moved t old mid moved h g → OverSegment t extent mid entries g
over_later t extent old mid entries moved h g over went m =
    let same = bytes_stay t extent.segment h g over.low (went.stays over.committed over.pending over.writing) in
    record {
      committed = over.committed;
      pending = over.pending ++ moved;
      writing = m.writing over.committed over.pending over.writing;
      low = over.low;
      has = record {
        split = subst (λ (b : List ℕ). Splits b entries) (sym same) over.has.split;
        sized = over.has.sized ∙ ap length (sym same);
      };
    }

-- an entry of a segment is one of those that it splits into
among_read : (bytes : List ℕ) (at place : ℕ) (es fs : List LogEntry) (e : LogEntry) → ReadUpTo bytes place (es ++ e ∷ []) → Splits bytes fs
    → (blob : List ℕ) → IsPutAmong (e ∷ []) blob → IsPutAmong fs blob
among_read bytes at place es fs e read split blob put =
    let rest = read_front bytes place (es ++ e ∷ []) fs read split in
    subst (λ (l : List LogEntry). IsPutAmong l blob) (sym rest.2)
    (among_front (es ++ e ∷ []) rest.0 blob (among_back es (e ∷ []) blob put))

-- one more entry
pub segment_more : (state : LogState) (notes : Notes) (extent : Extent) (at place : ℕ) (head : Head) (old mid new : Session)
    (R : CompactFault → History → History → Type 0) (a b c d : Option Told) (n m k l : ℕ) (result : Result (Unit {0}) CompactFault)
    → at < extent.size → place ≡ at + head.size
    → Did (EachOfSegment extent old) (FrontOfSegment state notes extent at old mid) (RefusesSegment extent old) a b n m (Ok tt)
    → Did Reads (ReadsHead extent at head) R b c m k (Ok tt)
    → Did (EachOfEntry extent.segment at head mid) (MovesEntry state notes extent.segment at head mid new) (RefusesEntry extent.segment at head mid)
    c d k l result
    → Did (EachOfSegment extent old) (FrontOfSegment state notes extent place old new) (RefusesSegment extent old) a d n l result
segment_more state notes extent at place head old mid new R a b c d n m k l result lt place_is p r q =
    did_then (EachOfSegment extent old) (FrontOfSegment state notes extent at old mid) (RefusesSegment extent old) EachHead MovesHead RefusesHead
    (EachOfSegment extent old) (FrontOfSegment state notes extent place old new) (RefusesSegment extent old) a b d n m l result
    each last refuses p headed where
      EachHead : History → History → Type 0
      EachHead h i = (t : ℕ) → IsPlace (files_now h) extent at → (e : LogEntry) × HasEntry (files_now h) extent.segment at head e × Went t mid (e ∷ []) h i

      MovesHead : History → History → Type 0
      MovesHead h i = (t : ℕ) → IsPlace (files_now h) extent at → (e : LogEntry) × HasEntry (files_now h) extent.segment at head e
          × Moved t mid new (taken_from state notes (entry_at extent.segment at e ∷ [])) h i

      RefusesHead : CompactFault → History → History → Type 0
      RefusesHead fault h i = (t : ℕ) → IsPlace (files_now h) extent at → RefusesMove t mid fault h i

      entry_there : (h : History) → HasHead (segment_bytes (files_now h) extent.segment) at head
          → (e : LogEntry) × HasEntry (files_now h) extent.segment at head e
      entry_there h has = (has.0, record { begins = has.1; head_is = has.2 })

      headed : Did EachHead MovesHead RefusesHead b d m l result
      headed = did_then Reads (ReadsHead extent at head) R (EachOfEntry extent.segment at head mid)
          (MovesEntry state notes extent.segment at head mid new) (RefusesEntry extent.segment at head mid) EachHead MovesHead RefusesHead b c d m k l result
          (λ h g i e done known f t is.
          let there = entry_there h (known.1 is) in (
            there.0,
            there.1,
            subst (λ (x : History). Went t mid (there.0 ∷ []) x i) e
                (f t there.0 (subst (λ (x : History). HasEntry (files_now x) extent.segment at head there.0) (sym e) there.1)),
          ))
          (λ h g i e done known f t is.
          let there = entry_there h (known.1 is) in (
            there.0,
            there.1,
            subst (λ (x : History). Moved t mid new (taken_from state notes (entry_at extent.segment at there.0 ∷ [])) x i) e
                (f t there.0 (subst (λ (x : History). HasEntry (files_now x) extent.segment at head there.0) (sym e) there.1)),
          ))
          (λ fault h g i e known f t is.
          let there = entry_there h (known.1 is) in
          subst (λ (x : History). RefusesMove t mid fault x i) e
          (f t there.0 (subst (λ (x : History). HasEntry (files_now x) extent.segment at head there.0) (sym e) there.1)))
          r q

      read_on : (t : ℕ) (entries : List LogEntry) (h g : History) → OverSegment t extent old entries h → EachOfSegment extent old h g
          → (front : MovedUpTo state notes t extent at old mid h g) → (e : LogEntry) → HasEntry (files_now g) extent.segment at head e
          → ReadUpTo (segment_bytes (files_now h) extent.segment) place (front.entries ++ e ∷ [])
      read_on t entries h g over went front e has =
          let same = bytes_stay t extent.segment h g over.low ((went t entries over).stays over.committed over.pending over.writing) in
          let bytes = segment_bytes (files_now h) extent.segment in
          read_more bytes at place front.entries e front.read
          (ends_at bytes at place head e (subst (λ (x : List ℕ). BeginsAt x at e) same has.begins) has.head_is place_is)

      each : (h g i : History) → EachOfSegment extent old h g → AllDone h g → FrontOfSegment state notes extent at old mid h g → EachHead g i
          → EachOfSegment extent old h i
      each h g i went done front step t entries over =
          let f = front t entries over in
          let s = step t (place_there state notes t extent at old mid entries h g lt over (went t entries over) f) in
          let read = read_on t entries h g over went f s.0 s.1 in
          went_then t old mid entries (s.0 ∷ []) entries (taken_from state notes (located extent.segment 8 f.entries)) h g i (λ blob put. put)
          (among_read (segment_bytes (files_now h) extent.segment) at place f.entries entries s.0 read over.has.split) (went t entries over) done f.moved s.2

      last : (h g i : History) → EachOfSegment extent old h g → AllDone h g → FrontOfSegment state notes extent at old mid h g → MovesHead g i
          → FrontOfSegment state notes extent place old new h i
      last h g i went done front step t entries over =
          let f = front t entries over in
          let s = step t (place_there state notes t extent at old mid entries h g lt over (went t entries over) f) in
          let here = located extent.segment 8 f.entries in
          record {
            entries = f.entries ++ s.0 ∷ [];
            read = read_on t entries h g over went f s.0 s.1;
            moved = subst (λ (es : List LogEntry). Moved t old new es h i)
                (sym (taken_both state notes here (entry_at extent.segment at s.0 ∷ []))
                ∙ ap (taken_from state notes)
                (ap (λ (x : ℕ). here ++ entry_at extent.segment x s.0 ∷ []) f.read.place ∙ sym (located_push extent.segment 8 f.entries s.0)))
                (moved_then t old mid new (taken_from state notes here) (taken_from state notes (entry_at extent.segment at s.0 ∷ [])) h g i f.moved s.2);
          }

      refuses : (fault : CompactFault) (h g i : History) → EachOfSegment extent old h g → FrontOfSegment state notes extent at old mid h g
          → RefusesHead fault g i → RefusesSegment extent old fault h i
      refuses fault h g i went front no_more t entries over =
          let f = front t entries over in
          refused_then t old mid (taken_from state notes (located extent.segment 8 f.entries)) fault h g i f.moved
          (no_more t (place_there state notes t extent at old mid entries h g lt over (went t entries over) f))

-- the head of the next entry can't be read
pub head_unread : (state : LogState) (notes : Notes) (extent : Extent) (at : ℕ) (old mid now : Session) (fault : CompactFault) (a b c : Option Told)
    (n m k : ℕ) → at < extent.size
    → Did (EachOfSegment extent old) (FrontOfSegment state notes extent at old mid) (RefusesSegment extent old) a b n m (Ok tt)
    → Did Reads Reads (λ f h g. (g ≡ h) × (IsPlace (files_now h) extent at → IsOutside f)) b c m k (Err fault)
    → Did (EachOfSegment extent old) (MovesSegment state notes extent old now) (RefusesSegment extent old) a c n k (Err fault)
head_unread state notes extent at old mid now fault a b c n m k lt p r =
    did_stopped (EachOfSegment extent old) (FrontOfSegment state notes extent at old mid) (RefusesSegment extent old) Reads Reads
    (λ f h g. (g ≡ h) × (IsPlace (files_now h) extent at → IsOutside f))
    (EachOfSegment extent old) (MovesSegment state notes extent old now) (RefusesSegment extent old) a b c n m k fault
    (λ h g i went done front e. subst (λ (x : History). EachOfSegment extent old h x) (sym e) went)
    (λ h g i went front no_more t entries over committed pending w.
    outside_refuses fault (files_now i)
    (no_more.1 (place_there state notes t extent at old mid entries h g lt over (went t entries over) (front t entries over))))
    p r

-- the place behind the next entry is refused
pub place_refused : (state : LogState) (notes : Notes) (extent : Extent) (at : ℕ) (head : Head) (old mid now : Session) (fault : CompactFault)
    (R : CompactFault → History → History → Type 0) (a b c : Option Told) (n m k : ℕ) → at < extent.size → extent.size < 2 ^ 64
    → compact_failed fault ≡ false
    → (head.size ≡ 0) ⊎ (2 ^ 64 ≤ at + head.size)
    → Did (EachOfSegment extent old) (FrontOfSegment state notes extent at old mid) (RefusesSegment extent old) a b n m (Ok tt)
    → Did Reads (ReadsHead extent at head) R b c m k (Ok tt)
    → Did (EachOfSegment extent old) (MovesSegment state notes extent old now) (RefusesSegment extent old) a c n k (Err fault)
place_refused state notes extent at head old mid now fault R a b c n m k lt small still refused p r =
    did_stopped (EachOfSegment extent old) (FrontOfSegment state notes extent at old mid) (RefusesSegment extent old) Reads Reads
    (λ f. ReadsHead extent at head)
    (EachOfSegment extent old) (MovesSegment state notes extent old now) (RefusesSegment extent old) a b c n m k fault
    (λ h g i went done front e. subst (λ (x : History). EachOfSegment extent old h x) (sym e) went)
    (λ h g i went front known t entries over committed pending w.
    let there = place_there state notes t extent at old mid entries h g lt over (went t entries over) (front t entries over) in
    let sized = there.sized in
    place_fits (segment_bytes (files_now g) extent.segment) at head (RefusesCompact (files_now i) fault) (known.1 there) (omega (arith, small, sized)) refused)
    p
    (did_stopped Reads (ReadsHead extent at head) R Reads Reads (λ f. Reads) Reads Reads (λ f. ReadsHead extent at head) b c c m k k fault
    (λ h g i e done known f. f ∙ e)
    (λ h g i e known f. (f ∙ e, known.1))
    r (did_nothing Reads Reads (λ f. Reads) c k fault still (λ h. refl) (λ h. refl)))

-- all of a segment
pub segment_whole : (state : LogState) (notes : Notes) (extent : Extent) (at : ℕ) (old now : Session) (a b : Option Told) (n m : ℕ) → extent.size ≤ at
    → Did (EachOfSegment extent old) (FrontOfSegment state notes extent at old now) (RefusesSegment extent old) a b n m (Ok tt)
    → Did (EachOfSegment extent old) (MovesSegment state notes extent old now) (RefusesSegment extent old) a b n m (Ok tt)
segment_whole state notes extent at old now a b n m past p =
    did_as (EachOfSegment extent old) (FrontOfSegment state notes extent at old now) (RefusesSegment extent old)
    (EachOfSegment extent old) (MovesSegment state notes extent old now) (RefusesSegment extent old) a b n m (Ok tt) (λ h g e. e)
    (λ h g front t entries over.
    let f = front t entries over in
    let bytes = segment_bytes (files_now h) extent.segment in
    let sized = over.has.sized in
    let all = one_split bytes f.entries entries (read_all bytes at f.entries f.read (omega (arith, sized, past))) over.has.split in
    subst (λ (es : List LogEntry). Moved t old now (taken_from state notes (located extent.segment 8 es)) h g) all f.moved)
    (λ fault h g e. e) p

-- an entry of a segment couldn't be put again
pub segment_stopped : (state : LogState) (notes : Notes) (extent : Extent) (at : ℕ) (old mid now : Session) (fault : CompactFault) (a b : Option Told)
    (n m : ℕ) → Did (EachOfSegment extent old) (FrontOfSegment state notes extent at old mid) (RefusesSegment extent old) a b n m (Err fault)
    → Did (EachOfSegment extent old) (MovesSegment state notes extent old now) (RefusesSegment extent old) a b n m (Err fault)
segment_stopped state notes extent at old mid now fault a b n m p =
    did_front (EachOfSegment extent old) (FrontOfSegment state notes extent at old mid) (RefusesSegment extent old) (EachOfSegment extent old)
    (MovesSegment state notes extent old now) (RefusesSegment extent old) a b n m fault (λ h g e. e) (λ h g e. e) p
