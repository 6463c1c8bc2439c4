-- Lemmas on specs/Ground.antt: what a stop leaves of a segment of data isn't committed, and of a commit it leaves the whole or nothing committed.
use Rattle.std.proofs.Common.{◌≡◌, ◌⊎◌, inl, inr, ℕ, zero, suc, ◌≤◌, Bool, true, false, List, [], ◌∷◌, ◌++◌, length, drop, replicate, Option, Some}
use Rattle.std.proofs.Common.{None, refl, sym, ◌∙◌}
use Rattle.std.proofs.Common.{ap, subst, arith}
use Rattle.std.specs.List.{AllByRecursion}
use Rattle.std.specs.Str.{bytes_eq}
use Rattle.std.proofs.lemmas.List.{append-nil, append_assoc, length-append, length-drop, drop-append-le}
use Rattle.std.proofs.lemmas.Slice.Eq.{bytes_eq-Decides}
use Rattle.ferry_disk.specs.Image.{Fate, MayLeave, at_rest}
use Rattle.ferry_segment.specs.Entry.{LogEntry, CommitEntry, Fits, spelling}
use Rattle.ferry_segment.specs.Segment.{magic, spellings, IsData, Committed}
use Rattle.ferry_segment.proofs.EntryLemmas.{length-spelling, size_of-least}
use Rattle.ferry_segment.proofs.SegmentLemmas.{front_of}
use Rattle.ferry_stops.specs.Chance.{ReadsThen, FileByNoChance, all_bytes}
use Rattle.ferry_stops.specs.Entries.{IsOpen}
use Rattle.ferry_stops.specs.Ground.{IsHarmless, IsDataFront, IsDraft}
use Rattle.ferry_stops.proofs.GroundLemmas.{rest_left, some_is}
use Rattle.ferry_stops.proofs.ReadLemmas.{reads_in_all}

-- ---- lists

all_front : {A : Type 0} (P : A → Type 0) (xs ys : List A) → AllByRecursion P (xs ++ ys) → AllByRecursion P xs
all_front P [] ys h = tt
all_front P (x ∷ xs) ys h = (h.0, all_front P xs ys h.1)

all_in : {A : Type 0} (P : A → Type 0) (xs : List A) (y : A) (ys : List A) → AllByRecursion P (xs ++ (y ∷ ys)) → P y
all_in P [] y ys h = h.0
all_in P (x ∷ xs) y ys h = all_in P xs y ys h.1

pub spellings-append : (es fs : List LogEntry) → spellings (es ++ fs) ≡ spellings es ++ spellings fs
spellings-append [] fs = refl
spellings-append (e ∷ es) fs = ap (λ (l : List ℕ). spelling e ++ l) (spellings-append es fs) ∙ sym (append_assoc (spelling e) (spellings es) (spellings fs))

-- ---- a segment of data

-- in a committed segment a COMMIT reads behind the data
commit_reads : (bytes : List ℕ) (c : Committed bytes) → ReadsThen bytes c.closed.before CommitEntry
commit_reads bytes c =
    let before = c.closed.before in
    let behind = replicate c.closed.commits CommitEntry in
    let entries_are : c.entries ≡ before ++ (CommitEntry ∷ behind) = c.closed.then_commits in
    record {
      rest = spellings behind;
      before_fit = all_front Fits before (CommitEntry ∷ behind) (subst (AllByRecursion Fits) entries_are c.split.fit);
      fits = tt;
      spelled = ap (drop 8) c.split.whole ∙ (ap spellings entries_are ∙ spellings-append before (CommitEntry ∷ behind));
    }

-- where a COMMIT reads, the bytes don't begin a segment of data
no_data : (all : List ℕ) (before : List LogEntry) → IsDataFront all → ReadsThen all before CommitEntry → ⊥
no_data all before front reads =
    let long : 8 ≤ length all = omega (
      arith,
      ap length reads.spelled,
      length-drop 8 all,
      length-append (spellings before) (spelling CommitEntry ++ reads.rest),
      length-append (spelling CommitEntry) reads.rest,
      length-spelling CommitEntry,
    ) in
    let more = front.more in
    let both : spellings (before ++ (CommitEntry ∷ [])) ++ (reads.rest ++ more) ≡ spellings front.entries =
    ap (λ (l : List ℕ). l ++ (reads.rest ++ more))
    (spellings-append before (CommitEntry ∷ []) ∙ ap (λ (l : List ℕ). spellings before ++ l) (append-nil (spelling CommitEntry)))
    ∙ (append_assoc (spellings before) (spelling CommitEntry) (reads.rest ++ more)
    ∙ (ap (λ (l : List ℕ). spellings before ++ l) (sym (append_assoc (spelling CommitEntry) reads.rest more))
    ∙ (sym (append_assoc (spellings before) (spelling CommitEntry ++ reads.rest) more)
    ∙ (ap (λ (l : List ℕ). l ++ more) (sym reads.spelled) ∙ (sym (drop-append-le 8 all more long) ∙ ap (drop 8) front.whole))))) in
    let fit = commit_fits before reads.before_fit in
    let found = front_of (before ++ (CommitEntry ∷ [])) front.entries (reads.rest ++ more) fit front.fit both in
    let data_there : AllByRecursion IsData (before ++ (CommitEntry ∷ found.0)) =
    subst (AllByRecursion IsData) (found.2 ∙ append_assoc before (CommitEntry ∷ []) found.0) front.data_only in
    let one : IsData CommitEntry = all_in IsData before CommitEntry found.0 data_there in
    let no : true ≡ false = one in
    (let out : ⊥ = cc in out)
  where
    commit_fits : (before : List LogEntry) → AllByRecursion Fits before → AllByRecursion Fits (before ++ (CommitEntry ∷ []))
    commit_fits [] fit = (tt, tt)
    commit_fits (e ∷ before) fit = (fit.0, commit_fits before fit.1)

draft_open : (fate : Fate) → IsDraft fate → (left : Option (List ℕ)) → MayLeave fate left → FileByNoChance fate left → IsOpen left
draft_open fate draft None may chance = tt
draft_open fate draft (Some bytes) may chance =
    λ (c : Committed bytes). no_data (all_bytes fate) c.closed.before draft.data_front
    (reads_in_all fate bytes draft.stable_first.0 draft.stable_first.1 may chance c.closed.before CommitEntry (commit_reads bytes c))

pub draft_harmless : (fate : Fate) → IsDraft fate → IsHarmless fate
draft_harmless fate draft = record { stays_open = draft_open fate draft }

pub rest_harmless : (bytes : Option (List ℕ)) → IsOpen bytes → IsHarmless (at_rest bytes)
rest_harmless bytes is_open = record { stays_open = λ left may chance. subst IsOpen (sym (rest_left bytes left may)) is_open }

-- ---- a commit

-- the bytes of a commit's segment
abbrev commit_bytes : List ℕ
commit_bytes = magic ++ spelling CommitEntry

-- a committed segment of 17 bytes at most is that one
short_entries : (before : List LogEntry) (n : ℕ) → length (spellings (before ++ replicate (suc n) CommitEntry)) ≤ 9
    → before ++ replicate (suc n) CommitEntry ≡ CommitEntry ∷ []
short_entries [] zero h = refl
short_entries [] (suc n) h =
    absurd (omega (
      arith,
      h,
      length-append (spelling CommitEntry) (spelling CommitEntry ++ spellings (replicate n CommitEntry)),
      length-append (spelling CommitEntry) (spellings (replicate n CommitEntry)),
      length-spelling CommitEntry,
    ))
short_entries (e ∷ before) n h =
    absurd (omega (
      arith,
      h,
      length-append (spelling e) (spellings (before ++ replicate (suc n) CommitEntry)),
      ap length (spellings-append before (replicate (suc n) CommitEntry)),
      length-append (spellings before) (spellings (replicate (suc n) CommitEntry)),
      length-append (spelling CommitEntry) (spellings (replicate n CommitEntry)),
      length-spelling e,
      size_of-least e,
      length-spelling CommitEntry,
    ))

short_commit : (bytes : List ℕ) → length bytes ≤ 17 → Committed bytes → bytes ≡ commit_bytes
short_commit bytes h c =
    let short : length (spellings c.entries) ≤ 9 = omega (arith, h, ap length c.split.whole, length-append magic (spellings c.entries)) in
    let entries_are : c.entries ≡ CommitEntry ∷ [] =
    c.closed.then_commits
    ∙ short_entries c.closed.before c.closed.commits (subst (λ (es : List LogEntry). length (spellings es) ≤ 9) c.closed.then_commits short) in
    c.split.whole ∙ (ap (λ (es : List LogEntry). magic ++ spellings es) entries_are ∙ ap (λ (l : List ℕ). magic ++ l) (append-nil (spelling CommitEntry)))

torn_by : (fate : Fate) (bytes : List ℕ) (b : Bool) → bytes_eq bytes commit_bytes ≡ b → length bytes ≤ 17
    → IsOpen (Some bytes) ⊎ (Some bytes ≡ Some commit_bytes)
torn_by fate bytes true e short = inr (ap Some ((bytes_eq-Decides bytes commit_bytes).0 e))
torn_by fate bytes false e short =
    inl (λ (c : Committed bytes).
    let same : true ≡ false = sym ((bytes_eq-Decides bytes commit_bytes).1 (short_commit bytes short c)) ∙ e in
    (let out : ⊥ = cc in out))

pub torn_commit : (fate : Fate) (left : Option (List ℕ)) → fate.all ≡ Some commit_bytes → MayLeave fate left → IsOpen left ⊎ (left ≡ Some commit_bytes)
torn_commit fate None all may = inl tt
torn_commit fate (Some bytes) all may =
    let all_is : may.all ≡ commit_bytes = some_is may.all commit_bytes (sym may.made ∙ all) in
    torn_by fate bytes (bytes_eq bytes commit_bytes) refl
    (omega (arith, may.within, ap length all_is, length-append magic (spelling CommitEntry), length-spelling CommitEntry))
