-- Lemmas on specs/Segment.antt: a segment is split in one way, or breaks at one place.
use Rattle.std.proofs.Common.{◌≡◌, ℕ, zero, suc, ◌+◌, ◌<◌, ◌≤◌, ◌⊎◌, Bool, true, false, cond, List, [], ◌∷◌, ◌++◌, length, take, drop, replicate}
use Rattle.std.proofs.Common.{Option, Some, None, nat_eq, IsTrue, ◌↔◌, refl, sym, ◌∙◌, ap, subst, inl, inr, arith}
use Rattle.std.specs.List.{AllByRecursion}
use Rattle.std.proofs.lemmas.List.{append_assoc, append-nil, length-append, length-drop, append_cancel_left, take_at, drop_at, drop_all, drop-drop}
use Rattle.std.proofs.lemmas.List.{get_or-drop, take-append-drop}
use Rattle.std.proofs.lemmas.Bool.{cases_lt}
use Rattle.std.specs.Cmp.Lexicographic.{same_text, pointwise}
use Rattle.std.proofs.lemmas.List.Concat.{flat_map-append}
use Rattle.std.proofs.Common.{option_and_then}
use Rattle.ferry_segment.specs.declared.entry.EntryFault.{EntryFault}
use Rattle.ferry_segment.specs.Entry.{IsBytes, LogEntry, PutEntry, DeleteEntry, CommitEntry, size_of, spelling, Fits, IsEntryAt, first_fault}
use Rattle.ferry_segment.specs.Segment.{commits, magic, spellings, Splits, IsData, IsClosed, Committed, BreaksInEntry, HasMagic, BreaksAt}
use Rattle.ferry_segment.proofs.EntryLemmas.{length-spelling, size_of-least, entry_of, one_spelling, no_spelling}

-- ---- AllByRecursion

all-append : {X : Type 0} (P : X → Type 0) (xs ys : List X) → AllByRecursion P xs → AllByRecursion P ys → AllByRecursion P (xs ++ ys)
all-append P [] ys p q = q
all-append P (x ∷ xs) ys p q = (p.0, all-append P xs ys p.1 q)

-- ---- spellings

pub spellings_more : (es : List LogEntry) (e : LogEntry) → spellings (es ++ e ∷ []) ≡ spellings es ++ spelling e
spellings_more es e = flat_map-append spelling es (e ∷ []) ∙ ap (λ k. spellings es ++ k) (append-nil (spelling e))

some_spelled : (e : LogEntry) (x : List ℕ) → spelling e ++ x ≡ [] → ⊥
some_spelled e x same = absurd (omega (arith, ap length same, length-append (spelling e) x, length-spelling e, size_of-least e))

-- What reads up to the end begins with what reads of it: the entries of a front are the first of all entries.
pub front_of : (es fs : List LogEntry) (left : List ℕ) → AllByRecursion Fits es → AllByRecursion Fits fs → spellings es ++ left ≡ spellings fs
    → (gs : List LogEntry) × AllByRecursion Fits gs × (fs ≡ es ++ gs) × (left ≡ spellings gs)
front_of [] fs left p q same = (fs, q, refl, same)
front_of (e ∷ es) [] left p q same = absurd (some_spelled e (spellings es ++ left) (sym (append_assoc (spelling e) (spellings es) left) ∙ same))
front_of (e ∷ es) (f ∷ fs) left p q same =
    let one = one_spelling e f (spellings es ++ left) (spellings fs) p.0 q.0 (sym (append_assoc (spelling e) (spellings es) left) ∙ same) in
    let rest = front_of es fs left p.1 q.1 one.1 in
    (rest.0, rest.1, ap (λ k. f ∷ k) rest.2 ∙ ap (λ k. k ∷ (es ++ rest.0)) (sym one.0), rest.3)

-- where a rule is broken, no entries go on to the end
broken_unread : (gs : List LogEntry) (left : List ℕ) (fault : EntryFault) → AllByRecursion Fits gs → 0 < length left → first_fault left ≡ Some fault
    → left ≡ spellings gs → ⊥
broken_unread [] left fault p some broken same = absurd (omega (arith, ap length same))
broken_unread (g ∷ gs) left fault p some broken same = no_spelling left fault broken g (spellings gs) p.0 same

-- ---- Splits

no_entries : (gs : List LogEntry) → spellings gs ≡ [] → gs ≡ []
no_entries [] same = refl
no_entries (g ∷ gs) same = absurd (some_spelled g (spellings gs) same)

pub one_split : (bytes : List ℕ) (es fs : List LogEntry) → Splits bytes es → Splits bytes fs → es ≡ fs
one_split bytes es fs s t =
    let front = front_of es fs [] s.fit t.fit (append-nil (spellings es) ∙ append_cancel_left magic _ _ (sym s.whole ∙ t.whole)) in
    sym (front.2 ∙ (ap (λ k. es ++ k) (no_entries front.0 (sym front.3)) ∙ append-nil es))

-- ---- IsClosed

-- Whether the entries end a transaction, after others that do or don't: nothing where data follows a COMMIT.
pub ended : Bool → List LogEntry → Option Bool
ended closed [] = Some closed
ended closed (e ∷ es) = cond (commits e) (ended true es) (cond closed None (ended false es))

ended_step : (c closed : Bool) (es fs : List LogEntry) → ended true (es ++ fs) ≡ option_and_then (λ b. ended b fs) (ended true es)
    → ended false (es ++ fs) ≡ option_and_then (λ b. ended b fs) (ended false es)
    → cond c (ended true (es ++ fs)) (cond closed None (ended false (es ++ fs)))
    ≡ option_and_then (λ b. ended b fs) (cond c (ended true es) (cond closed None (ended false es)))
unfolding ended
ended_step true closed es fs p q = p
ended_step false true es fs p q = refl
ended_step false false es fs p q = q

ended-append : (closed : Bool) (es fs : List LogEntry) → ended closed (es ++ fs) ≡ option_and_then (λ b. ended b fs) (ended closed es)
unfolding ended
ended-append closed [] fs = refl
ended-append closed (e ∷ es) fs = ended_step (commits e) closed es fs (ended-append true es fs) (ended-append false es fs)

ended_commits : (n : ℕ) → ended true (replicate n CommitEntry) ≡ Some true
unfolding ended
ended_commits zero = refl
ended_commits (suc n) = ended_commits n

ended_data : (es fs : List LogEntry) → AllByRecursion IsData es → ended false (es ++ fs) ≡ ended false fs
unfolding ended
ended_data [] fs p = refl
ended_data (e ∷ es) fs p = ap (λ c. cond c (ended true (es ++ fs)) (ended false (es ++ fs))) p.0 ∙ ended_data es fs p.1

pub closed_ended : (es : List LogEntry) → IsClosed es → ended false es ≡ Some true
unfolding ended
closed_ended es h = ap (ended false) h.then_commits ∙ (ended_data h.before _ h.data_before ∙ ended_commits h.commits)

commit_is : (e : LogEntry) → commits e ≡ true → e ≡ CommitEntry
commit_is (PutEntry k b) h = cc
commit_is (DeleteEntry k) h = cc
commit_is CommitEntry h = refl

commits_on : (c : Bool) (e : LogEntry) (es : List LogEntry) → (ended true es ≡ Some true → (n : ℕ) × (es ≡ replicate n CommitEntry)) → c ≡ commits e
    → cond c (ended true es) None ≡ Some true → (n : ℕ) × (e ∷ es ≡ replicate n CommitEntry)
commits_on true e es others is h = let rest = others h in (suc rest.0, ap (λ k. k ∷ es) (commit_is e (sym is)) ∙ ap (λ k. CommitEntry ∷ k) rest.1)
commits_on false e es others is h = cc

all_commits : (es : List LogEntry) → ended true es ≡ Some true → (n : ℕ) × (es ≡ replicate n CommitEntry)
unfolding ended
all_commits [] h = (0, refl)
all_commits (e ∷ es) h = commits_on (commits e) e es (all_commits es) refl h

closed_on : (c : Bool) (e : LogEntry) (es : List LogEntry) → (ended false es ≡ Some true → IsClosed es) → c ≡ commits e
    → cond c (ended true es) (ended false es) ≡ Some true → IsClosed (e ∷ es)
closed_on true e es others is h =
    let rest = all_commits es h in
    record { before = []; commits = rest.0; data_before = tt; then_commits = ap (λ k. k ∷ es) (commit_is e (sym is)) ∙ ap (λ k. CommitEntry ∷ k) rest.1 }
closed_on false e es others is h =
    let rest = others h in
    record { before = e ∷ rest.before; commits = rest.commits; data_before = (sym is, rest.data_before); then_commits = ap (λ k. e ∷ k) rest.then_commits }

pub ended_closed : (es : List LogEntry) → ended false es ≡ Some true → IsClosed es
unfolding ended
ended_closed [] h = cc
ended_closed (e ∷ es) h = closed_on (commits e) e es (ended_closed es) refl h

-- ---- what a reader knows behind the entries that it has read

-- The entries up to this place read; they are these.
pub record ReadUpTo (bytes : List ℕ) (at : ℕ) (entries : List LogEntry) : Type 0 where
  pub fit : AllByRecursion Fits entries
  pub whole : bytes ≡ magic ++ (spellings entries ++ drop at bytes)
  pub place : at ≡ 8 + length (spellings entries)

pub read_none : (bytes : List ℕ) → HasMagic bytes → ReadUpTo bytes 8 []
read_none bytes h = record { fit = tt; whole = h.1 ∙ ap (λ k. magic ++ k) (sym (drop_at magic h.0 8 refl) ∙ ap (drop 8) (sym h.1)); place = refl }

pub read_more : (bytes : List ℕ) (at end : ℕ) (es : List LogEntry) (e : LogEntry) → ReadUpTo bytes at es → IsEntryAt bytes at e end
    → ReadUpTo bytes end (es ++ e ∷ [])
read_more bytes at end es e r h = record {
  fit = all-append Fits es (e ∷ []) r.fit (h.fits, tt);
  whole =
      r.whole
      ∙ ap (λ k. magic ++ k) (ap (λ k. spellings es ++ k) h.spelled
      ∙ (sym (append_assoc (spellings es) (spelling e) (drop end bytes)) ∙ ap (λ k. k ++ drop end bytes) (sym (spellings_more es e))));
  place = omega (arith, h.ends, r.place, ap length (spellings_more es e), length-append (spellings es) (spelling e), length-spelling e);
}

-- at the end of the bytes they are split
pub read_all : (bytes : List ℕ) (at : ℕ) (es : List LogEntry) → ReadUpTo bytes at es → length bytes ≤ at → Splits bytes es
read_all bytes at es r past =
    record { fit = r.fit; whole = r.whole ∙ ap (λ k. magic ++ k) (ap (λ k. spellings es ++ k) (drop_all at bytes past) ∙ append-nil (spellings es)) }

-- what doesn't read is the first place that doesn't
pub read_broken : (bytes : List ℕ) (at : ℕ) (es : List LogEntry) (fault : EntryFault) → ReadUpTo bytes at es → at < length bytes
    → first_fault (drop at bytes) ≡ Some fault → BreaksInEntry bytes at
read_broken bytes at es fault r within broken = record {
  before = es;
  left = drop at bytes;
  fault = fault;
  fit = r.fit;
  whole = r.whole;
  some_left = omega (arith, length-drop at bytes);
  broken = broken;
  place = r.place;
}

-- the entries read so far are the first of any split
pub read_front : (bytes : List ℕ) (at : ℕ) (es fs : List LogEntry) → ReadUpTo bytes at es → Splits bytes fs
    → (gs : List LogEntry) × AllByRecursion Fits gs × (fs ≡ es ++ gs) × (drop at bytes ≡ spellings gs)
read_front bytes at es fs r s = front_of es fs (drop at bytes) r.fit s.fit (append_cancel_left magic _ _ (sym r.whole ∙ s.whole))

-- ---- BreaksAt

-- what is split has no first place that doesn't read
pub split_unbroken : (bytes : List ℕ) (fs : List LogEntry) (at : ℕ) → Splits bytes fs → BreaksAt bytes at → ⊥
split_unbroken bytes fs at s (inl h) = h.0 (spellings fs, s.whole)
split_unbroken bytes fs at s (inr h) =
    let front = front_of h.before fs h.left h.fit s.fit (append_cancel_left magic _ _ (sym h.whole ∙ s.whole)) in
    broken_unread front.0 h.left h.fault front.1 h.some_left h.broken front.3

same_before : (es fs : List LogEntry) (x y : List ℕ) (d c : EntryFault) → AllByRecursion Fits es → AllByRecursion Fits fs → 0 < length x → 0 < length y
    → first_fault x ≡ Some d → first_fault y ≡ Some c → spellings es ++ x ≡ spellings fs ++ y → es ≡ fs
same_before [] [] x y d c p q m n u v same = refl
same_before [] (f ∷ fs) x y d c p q m n u v same = absurd (no_spelling x d u f (spellings fs ++ y) q.0 (same ∙ append_assoc (spelling f) (spellings fs) y))
same_before (e ∷ es) [] x y d c p q m n u v same =
    absurd (no_spelling y c v e (spellings es ++ x) p.0 (sym same ∙ append_assoc (spelling e) (spellings es) x))
same_before (e ∷ es) (f ∷ fs) x y d c p q m n u v same =
    let one =
    one_spelling e f (spellings es ++ x) (spellings fs ++ y) p.0 q.0 (sym (append_assoc (spelling e) (spellings es) x)
    ∙ (same ∙ append_assoc (spelling f) (spellings fs) y)) in
    let rest = same_before es fs x y d c p.1 q.1 m n u v one.1 in
    ap (λ k. k ∷ es) one.0 ∙ ap (λ k. f ∷ k) rest

-- two first places that don't read are one
pub one_break : (bytes : List ℕ) (a b : ℕ) → BreaksAt bytes a → BreaksAt bytes b → a ≡ b
one_break bytes a b (inl g) (inl h) = g.1 ∙ sym h.1
one_break bytes a b (inl g) (inr h) = absurd (g.0 (_, h.whole))
one_break bytes a b (inr g) (inl h) = absurd (h.0 (_, g.whole))
one_break bytes a b (inr g) (inr h) =
    let same =
    same_before g.before h.before g.left h.left g.fault h.fault g.fit h.fit g.some_left h.some_left g.broken h.broken
    (append_cancel_left magic _ _ (sym g.whole
    ∙ h.whole)) in
    g.place ∙ (ap (λ k. 8 + length (spellings k)) same ∙ sym h.place)

-- ---- Committed

-- The entries up to this place read, and they end a transaction or don't.
pub record Scanned (bytes : List ℕ) (at : ℕ) (closed : Bool) : Type 0 where
  pub entries : List LogEntry
  pub read : ReadUpTo bytes at entries
  pub end : ended false entries ≡ Some closed

pub scanned_none : (bytes : List ℕ) → HasMagic bytes → Scanned bytes 8 false
unfolding ended
scanned_none bytes h = record { entries = []; read = read_none bytes h; end = refl }

ended_one : (c closed : Bool) → (closed ≡ true → c ≡ true) → cond c (Some true) (cond closed None (Some false)) ≡ Some c
ended_one true closed h = refl
ended_one false true h = let none : false ≡ true = h refl in cc
ended_one false false h = refl

pub scanned_more : (bytes : List ℕ) (at end : ℕ) (closed : Bool) (e : LogEntry) → Scanned bytes at closed → IsEntryAt bytes at e end
    → (closed ≡ true → commits e ≡ true) → Scanned bytes end (commits e)
unfolding ended
scanned_more bytes at end closed e s h only = record {
  entries = s.entries ++ e ∷ [];
  read = read_more bytes at end s.entries e s.read h;
  end = ended-append false s.entries (e ∷ []) ∙ (ap (option_and_then (λ b. ended b (e ∷ []))) s.end ∙ ended_one (commits e) closed only);
}

pub scanned_broken : (bytes : List ℕ) (at : ℕ) (closed : Bool) (fault : EntryFault) → Scanned bytes at closed → at < length bytes
    → first_fault (drop at bytes) ≡ Some fault → Committed bytes → ⊥
scanned_broken bytes at closed fault s within broken h =
    split_unbroken bytes h.entries at h.split (inr (read_broken bytes at s.entries fault s.read within broken))

data_unended : (gs : List LogEntry) (e : LogEntry) (x left : List ℕ) → AllByRecursion Fits gs → Fits e → left ≡ spelling e ++ x → left ≡ spellings gs
    → commits e ≡ false → ended true gs ≡ Some true → ⊥
unfolding ended
data_unended [] e x left p q is same no_commit h = some_spelled e x (sym is ∙ same)
data_unended (g ∷ gs) e x left p q is same no_commit h =
    let one = one_spelling e g x (spellings gs) q p.0 (sym is ∙ same) in
    let other : commits g ≡ false = ap commits (sym one.0) ∙ no_commit in
    let none : cond (commits g) (ended true gs) None ≡ None = ap (λ c. cond c (ended true gs) None) other in
    cc

pub scanned_data : (bytes : List ℕ) (at end : ℕ) (e : LogEntry) → Scanned bytes at true → IsEntryAt bytes at e end → commits e ≡ false → Committed bytes → ⊥
scanned_data bytes at end e s here no_commit h =
    let front = read_front bytes at s.entries h.entries s.read h.split in
    let all : ended true front.0 ≡ Some true =
    sym (ended-append false s.entries front.0 ∙ ap (option_and_then (λ b. ended b front.0)) s.end)
    ∙ (ap (ended false) (sym front.2) ∙ closed_ended h.entries h.closed) in
    data_unended front.0 e (drop end bytes) (drop at bytes) front.1 here.fits here.spelled front.3 no_commit all

pub scanned_committed : (bytes : List ℕ) (at : ℕ) → Scanned bytes at true → length bytes ≤ at → Committed bytes
scanned_committed bytes at s past = record { entries = s.entries; split = read_all bytes at s.entries s.read past; closed = ended_closed s.entries s.end }

some_apart : Some false ≡ Some true → ⊥
some_apart e = cc

pub scanned_open : (bytes : List ℕ) (at : ℕ) → Scanned bytes at false → length bytes ≤ at → Committed bytes → ⊥
scanned_open bytes at s past h =
    let same = one_split bytes s.entries h.entries (read_all bytes at s.entries s.read past) h.split in
    let all : ended false s.entries ≡ Some true = ap (ended false) same ∙ closed_ended h.entries h.closed in
    let none = s.end in
    some_apart (sym none ∙ all)

-- a committed segment begins with the magic
pub committed_magic : (bytes : List ℕ) → Committed bytes → HasMagic bytes
committed_magic bytes h = (spellings h.entries, h.split.whole)

-- ---- HasMagic

-- what the test of the magic says
pub magic_found : (bytes : List ℕ) → pointwise nat_eq magic (take 8 bytes) ≡ true → HasMagic bytes
magic_found bytes e = (drop 8 bytes, sym (ap (λ k. k ++ drop 8 bytes) (same_text magic (take 8 bytes) (sym e)) ∙ take-append-drop 8 bytes))

pub magic_missed : (bytes : List ℕ) → pointwise nat_eq magic (take 8 bytes) ≡ false → HasMagic bytes → ⊥
magic_missed bytes e h =
    let front : take 8 bytes ≡ magic = ap (take 8) h.1 ∙ take_at magic h.0 8 refl in
    let found : pointwise nat_eq magic (take 8 bytes) ≡ true = ap (pointwise nat_eq magic) front in
    cc

-- ---- a test's answer

false_true : {A : Type 0} → false ≡ true → A
false_true e = absurd (let none : ⊥ = cc in none)

pub answers_no : {P : Type 0} (b : Bool) → b ≡ false → (P → ⊥) → IsTrue b ↔ P
answers_no b e none = (λ h. false_true (sym e ∙ h), λ p. absurd (none p))

pub answers_yes : {P : Type 0} (b : Bool) → b ≡ true → P → IsTrue b ↔ P
answers_yes b e p = (λ _. p, λ _. e)

-- a scan that came to the end tells whether the bytes are committed
pub scanned_whole : (bytes : List ℕ) (at : ℕ) (closed : Bool) → Scanned bytes at closed → length bytes ≤ at → IsTrue closed ↔ Committed bytes
scanned_whole bytes at true s past = answers_yes true refl (scanned_committed bytes at s past)
scanned_whole bytes at false s past = answers_no false refl (scanned_open bytes at s past)

-- ---- some answer

tested : (o : Option EntryFault) → (o ≡ None) ⊎ ((fault : EntryFault) × (o ≡ Some fault))
tested None = inl refl
tested (Some fault) = inr (fault, refl)

more_answer : (n : ℕ) (bytes : List ℕ) (at : ℕ) (es : List LogEntry) → length bytes < n + at → IsBytes bytes → ReadUpTo bytes at es
    → ((entries : List LogEntry) × Splits bytes entries) ⊎ ((place : ℕ) × BreaksAt bytes place)
more_answer zero bytes at es past small r = inl (es, read_all bytes at es r (omega arith))
more_answer (suc n) bytes at es bound small r =
    elim (cases_lt at (length bytes)) [
      | inr past ↦ inl (es, read_all bytes at es r past)
      | inl within ↦ elim (tested (first_fault (drop at bytes))) [
        | inr found ↦ inr (at, inr (read_broken bytes at es found.0 r within found.1))
        | inl right ↦
            let left = length-drop at bytes in
            let here = entry_of (drop at bytes) (λ i. subst (λ x. x < 256) (sym (get_or-drop at bytes i 0)) (small (at + i))) right in
            let end = at + size_of here.0 in
            let e : IsEntryAt bytes at here.0 end = record {
              fits = here.1;
              spelled = here.3 ∙ ap (λ k. spelling here.0 ++ k) (drop-drop (size_of here.0) at bytes);
              ends = refl;
              within = omega (arith, here.2);
            } in
            more_answer n bytes end (es ++ here.0 ∷ []) (omega (arith, size_of-least here.0)) small (read_more bytes at end es here.0 r e)
      ]
    ]

by_magic : (bytes : List ℕ) → IsBytes bytes → (b : Bool) → pointwise nat_eq magic (take 8 bytes) ≡ b
    → ((entries : List LogEntry) × Splits bytes entries) ⊎ ((at : ℕ) × BreaksAt bytes at)
by_magic bytes small true e = more_answer (suc (length bytes)) bytes 8 [] (omega arith) small (read_none bytes (magic_found bytes e))
by_magic bytes small false e = inr (0, inl (magic_missed bytes e, refl))

pub some_answer : (bytes : List ℕ) → IsBytes bytes → ((entries : List LogEntry) × Splits bytes entries) ⊎ ((at : ℕ) × BreaksAt bytes at)
some_answer bytes small = by_magic bytes small (pointwise nat_eq magic (take 8 bytes)) refl
