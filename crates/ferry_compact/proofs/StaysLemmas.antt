-- Lemmas on specs/Stays.antt: what is noted of keys, entry by entry.
use Rattle.std.proofs.Common.{◌≡◌, ℕ, ◌+◌, ◌≤◌, Bool, true, false, cond, ◌&&◌, not, List, [], ◌∷◌, ◌++◌, length, Option, Some, None}
use Rattle.std.proofs.Common.{refl, sym, ◌∙◌, ap, subst, arith}
use Rattle.std.specs.BTreeMap.{is_at}
use Rattle.std.specs.Cmp.{eq_by_cmp_equiv}
use Rattle.std.specs.Cmp.Lexicographic.{nat_list_cmp_total}
use Rattle.std.specs.Ordering.{eq_by_cmp}
use Rattle.std.proofs.lemmas.List.{append-nil, append_assoc}
use Rattle.std.proofs.lemmas.List.Elements.{filter-append}
use Rattle.std.specs.List.{AllByRecursion}
use Rattle.ferry_compact.proofs.ListLemmas.{filter_all, filter_none}
use Rattle.ferry_compact.proofs.LastLemmas.{same_key}
use Rattle.ferry_compact.proofs.ReadingLemmas.{ends_at, first_covered, located_push, none_covered}
use Rattle.ferry_compact.specs.Moving.{is_among}
use Rattle.ferry_compact.specs.Reading.{Covers, HasSegment}
use Rattle.ferry_compact.specs.Stays.{HasNotes, Notes, TakesNotes, entries_of, note_all, note_entry, noted_at, same_answer}
use Rattle.ferry_disk.specs.Files.{Files}
use Rattle.ferry_log.specs.Live.{key_cmp}
use Rattle.ferry_log.specs.Log.{Located, located}
use Rattle.ferry_log.specs.Opening.{entry_at}
use Rattle.ferry_log.specs.State.{LogState}
use Rattle.ferry_log.specs.declared.place.Extent.{Extent}
use Rattle.ferry_segment.proofs.SegmentLemmas.{ReadUpTo, one_split, read_all, read_more, read_none}
use Rattle.ferry_segment.specs.Entry.{CommitEntry, DeleteEntry, LogEntry, PutEntry, size_of}
use Rattle.ferry_segment.specs.Head.{BeginsAt, head_of}
use Rattle.ferry_segment.specs.Segment.{Splits, spellings}
use Rattle.ferry_segment.specs.declared.head.Head.{Head}

-- ---- one key

turned : (key q : List ℕ) → is_at (key_cmp key) q ≡ eq_by_cmp key_cmp q key
turned key q = (eq_by_cmp_equiv nat_list_cmp_total).symm key q

where_by : {X : Type 0} (f : List ℕ → Bool) (key q : List ℕ) (v old : X) (b : Bool) → eq_by_cmp key_cmp q key ≡ b → f key ≡ true
    → cond b v old ≡ cond (b && f q) v old
where_by f key q v old true is passes = ap (λ (t : Bool). cond t v old) (sym (ap f (same_key q key is) ∙ passes))
where_by f key q v old false is passes = refl

-- a change at a key that passes a test
pub changed_where : {X : Type 0} (f : List ℕ → Bool) (key q : List ℕ) (v old new : X) → f key ≡ true → new ≡ cond (is_at (key_cmp key) q) v old
    → new ≡ cond (eq_by_cmp key_cmp q key && f q) v old
changed_where f key q v old new passes e =
    e ∙ (ap (λ (b : Bool). cond b v old) (turned key q) ∙ where_by f key q v old (eq_by_cmp key_cmp q key) refl passes)

kept_by : {X : Type 0} (f : List ℕ → Bool) (key q : List ℕ) (v old : X) (b : Bool) → eq_by_cmp key_cmp q key ≡ b → f key ≡ false
    → old ≡ cond (b && f q) v old
kept_by f key q v old true is fails = ap (λ (t : Bool). cond t v old) (sym (ap f (same_key q key is) ∙ fails))
kept_by f key q v old false is fails = refl

-- no change at one that doesn't
pub kept_where : {X : Type 0} (f : List ℕ → Bool) (key q : List ℕ) (v old : X) → f key ≡ false → old ≡ cond (eq_by_cmp key_cmp q key && f q) v old
kept_where f key q v old fails = kept_by f key q v old (eq_by_cmp key_cmp q key) refl fails

-- ---- several entries

pub note_all-append : (state : LogState) (among : Bool) (key : List ℕ) (xs ys : List Located) (old : Option (Option ℕ))
    → note_all state among key (xs ++ ys) old ≡ note_all state among key ys (note_all state among key xs old)
note_all-append state among key [] ys old = refl
note_all-append state among key (x ∷ xs) ys old = note_all-append state among key xs ys (note_entry state among key x.segment x.entry old)

pub takes_none : (state : LogState) (among : Bool) (notes : Notes) → TakesNotes state among [] notes notes
takes_none state among notes key = refl

pub takes_more : (state : LogState) (among : Bool) (xs ys : List Located) (a b c : Notes) → TakesNotes state among xs a b → TakesNotes state among ys b c
    → TakesNotes state among (xs ++ ys) a c
takes_more state among xs ys a b c p q key =
    q key ∙ (ap (note_all state among key ys) (p key) ∙ sym (note_all-append state among key xs ys (noted_at key a)))

-- The entries of a segment up to this place read, and the notes go on with them.
pub record NotedUpTo (state : LogState) (among : Bool) (segment : ℕ) (bytes : List ℕ) (at : ℕ) (old new : Notes) : Type 0 where
  pub entries : List LogEntry
  pub read : ReadUpTo bytes at entries
  pub takes : TakesNotes state among (located segment 8 entries) old new

pub noted_none : (state : LogState) (among : Bool) (segment : ℕ) (bytes : List ℕ) (entries : List LogEntry) (notes : Notes) → Splits bytes entries
    → NotedUpTo state among segment bytes 8 notes notes
noted_none state among segment bytes entries notes split = record {
  entries = [];
  read = read_none bytes (spellings entries, split.whole);
  takes = takes_none state among notes;
}

pub noted_more : (state : LogState) (among : Bool) (segment : ℕ) (bytes : List ℕ) (at place : ℕ) (head : Head) (e : LogEntry) (a b c : Notes)
    → NotedUpTo state among segment bytes at a b → BeginsAt bytes at e → head ≡ head_of e → place ≡ at + head.size
    → TakesNotes state among (entry_at segment at e ∷ []) b c → NotedUpTo state among segment bytes place a c
noted_more state among segment bytes at place head e a b c n begins is place_is step = record {
  entries = n.entries ++ e ∷ [];
  read = read_more bytes at place n.entries e n.read (ends_at bytes at place head e begins is place_is);
  takes = subst (λ (es : List Located). TakesNotes state among es a c)
      (ap (λ (k : ℕ). located segment 8 n.entries ++ entry_at segment k e ∷ []) n.read.place ∙ sym (located_push segment 8 n.entries e))
      (takes_more state among (located segment 8 n.entries) (entry_at segment at e ∷ []) a b c n.takes step);
}

pub noted_all : (state : LogState) (among : Bool) (segment : ℕ) (bytes : List ℕ) (at size : ℕ) (entries : List LogEntry) (a b : Notes)
    → NotedUpTo state among segment bytes at a b → Splits bytes entries → size ≡ length bytes → size ≤ at
    → TakesNotes state among (located segment 8 entries) a b
noted_all state among segment bytes at size entries a b n split sized past =
    let all = one_split bytes n.entries entries (read_all bytes at n.entries n.read (omega (arith, sized, past))) split in
    subst (λ (es : List LogEntry). TakesNotes state among (located segment 8 es) a b) all n.takes

-- ---- segments that are taken, or passed over

answers_same : (among b : Bool) → b ≡ among → same_answer among b ≡ true
answers_same true b e = e
answers_same false b e = ap not e

answers_other : (among b : Bool) → (b ≡ among → ⊥) → same_answer among b ≡ false
answers_other true true off = absurd (off refl)
answers_other true false off = refl
answers_other false true off = refl
answers_other false false off = absurd (off refl)

all_located : (P : ℕ → Type 0) (segment at : ℕ) (es : List LogEntry) → P segment → AllByRecursion (λ (e : Located). P e.segment) (located segment at es)
all_located P segment at [] p = tt
all_located P segment at (e ∷ es) p = (p, all_located P segment (at + size_of e) es p)

pub entries_taken : (chosen : List ℕ) (among : Bool) (segment at : ℕ) (es : List LogEntry) → is_among chosen segment ≡ among
    → entries_of chosen among (located segment at es) ≡ located segment at es
entries_taken chosen among segment at es e =
    filter_all (λ (x : Located). same_answer among (is_among chosen x.segment)) (located segment at es)
    (all_located (λ n. same_answer among (is_among chosen n) ≡ true) segment at es (answers_same among (is_among chosen segment) e))

pub entries_passed : (chosen : List ℕ) (among : Bool) (segment at : ℕ) (es : List LogEntry) → (is_among chosen segment ≡ among → ⊥)
    → entries_of chosen among (located segment at es) ≡ []
entries_passed chosen among segment at es off =
    filter_none (λ (x : Located). same_answer among (is_among chosen x.segment)) (located segment at es)
    (all_located (λ n. same_answer among (is_among chosen n) ≡ false) segment at es (answers_other among (is_among chosen segment) off))

pub takes_passed : (state : LogState) (chosen : List ℕ) (among : Bool) (segment : ℕ) (es : List LogEntry) (notes : Notes)
    → (is_among chosen segment ≡ among → ⊥) → TakesNotes state among (entries_of chosen among (located segment 8 es)) notes notes
takes_passed state chosen among segment es notes off =
    subst (λ (log : List Located). TakesNotes state among log notes notes) (sym (entries_passed chosen among segment 8 es off)) (takes_none state among notes)

-- ---- segments one after another

-- The segments up to one are taken into the notes, and these are left.
pub record NotedFront (state : LogState) (chosen : List ℕ) (among : Bool) (files : Files) (extents : List Extent) (log : List Located) (old new : Notes) :
    Type 0 where
  pub done : List Located
  pub rest : List Located
  pub parts : log ≡ done ++ rest
  pub left : Covers files extents rest
  pub takes : TakesNotes state among (entries_of chosen among done) old new

pub front_none : (state : LogState) (chosen : List ℕ) (among : Bool) (files : Files) (extents : List Extent) (log : List Located) (notes : Notes)
    → Covers files extents log → NotedFront state chosen among files extents log notes notes
front_none state chosen among files extents log notes covers = record {
  done = [];
  rest = log;
  parts = refl;
  left = covers;
  takes = takes_none state among notes;
}

pub front_more : (state : LogState) (chosen : List ℕ) (among : Bool) (files : Files) (extents more : List Extent) (extent : Extent) (log : List Located)
    (a b c : Notes) → extents ≡ extent ∷ more → NotedFront state chosen among files extents log a b
    → ((entries : List LogEntry) → HasSegment files extent entries
    → TakesNotes state among (entries_of chosen among (located extent.segment 8 entries)) b c)
    → NotedFront state chosen among files more log a c
front_more state chosen among files extents more extent log a b c is n step =
    let first = first_covered files extents more extent n.rest is n.left in
    let here = located extent.segment 8 first.0 in
    record {
      done = n.done ++ here;
      rest = first.1;
      parts = n.parts ∙ (ap (λ (l : List Located). n.done ++ l) first.4 ∙ sym (append_assoc n.done here first.1));
      left = first.3;
      takes = subst (λ (l : List Located). TakesNotes state among l a c)
          (sym (filter-append (λ (e : Located). same_answer among (is_among chosen e.segment)) n.done here))
          (takes_more state among (entries_of chosen among n.done) (entries_of chosen among here) a b c n.takes (step first.0 first.2));
    }

pub front_all : (state : LogState) (chosen : List ℕ) (among : Bool) (files : Files) (extents : List Extent) (log : List Located) (a b : Notes)
    → extents ≡ [] → NotedFront state chosen among files extents log a b → TakesNotes state among (entries_of chosen among log) a b
front_all state chosen among files extents log a b none n =
    let whole : log ≡ n.done = n.parts ∙ (ap (λ (l : List Located). n.done ++ l) (none_covered files extents n.rest none n.left) ∙ append-nil n.done) in
    subst (λ (l : List Located). TakesNotes state among (entries_of chosen among l) a b) (sym whole) n.takes

-- ---- both passes

put_unnoted : (b : Bool) (segment : ℕ) → cond (b && false) (Some (Some segment)) None ≡ None
put_unnoted true segment = refl
put_unnoted false segment = refl

unnoted_by : (state : LogState) (key : List ℕ) (segment : ℕ) (entry : LogEntry) → note_entry state false key segment entry None ≡ None
unnoted_by state key segment (PutEntry k blob) = put_unnoted (eq_by_cmp key_cmp key k) segment
unnoted_by state key segment (DeleteEntry k) = refl
unnoted_by state key segment CommitEntry = refl

-- a key that isn't noted stays so among PUTs
pub unnoted_stays : (state : LogState) (key : List ℕ) (es : List Located) → note_all state false key es None ≡ None
unnoted_stays state key [] = refl
unnoted_stays state key (e ∷ es) = ap (note_all state false key es) (unnoted_by state key e.segment e.entry) ∙ unnoted_stays state key es

pub notes_both : (state : LogState) (chosen : List ℕ) (log : List Located) (a b c : Notes) → a ≡ [] → TakesNotes state true (entries_of chosen true log) a b
    → TakesNotes state false (entries_of chosen false log) b c → HasNotes state chosen log c
notes_both state chosen log a b c none p q key =
    q key ∙ ap (note_all state false key (entries_of chosen false log))
    (p key ∙ ap (λ (n : Notes). note_all state true key (entries_of chosen true log) (noted_at key n)) none)

pub notes_none : (state : LogState) (chosen : List ℕ) (log : List Located) (a b : Notes) → a ≡ [] → b ≡ []
    → TakesNotes state true (entries_of chosen true log) a b → HasNotes state chosen log b
notes_none state chosen log a b none empty p key =
    let before : note_all state true key (entries_of chosen true log) None ≡ None =
    sym (p key ∙ ap (λ (n : Notes). note_all state true key (entries_of chosen true log) (noted_at key n)) none)
    ∙ ap (noted_at key) empty in
    ap (noted_at key) empty
    ∙ sym (ap (note_all state false key (entries_of chosen false log)) before ∙ unnoted_stays state key (entries_of chosen false log))
