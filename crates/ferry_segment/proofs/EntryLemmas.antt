-- Lemmas on specs/Entry.antt, in the order of its definitions.
use Rattle.std.proofs.Common.{◌≡◌, ℕ, zero, suc, ◌+◌, ◌-◌, ◌*◌, ◌/◌, ◌%◌, ◌^◌, ◌<◌, ◌≤◌, Bool, true, false, ◌||◌, not, eqb, ltb, cond, List, []}
use Rattle.std.proofs.Common.{◌∷◌, ◌++◌, length, take, drop, get_or, bit_xor, fold, Option, Some, None, refl, sym, ◌∙◌, ap, subst, inl, inr, arith}
use Rattle.std.proofs.Common.{take-add, lt-ltb, le-ltb, eq-eqb, ltb-true, ltb-false, eqb-true}
use Rattle.std.proofs.lemmas.Bool.{cases_lt, cases_eq}
use Rattle.std.specs.Int.{w32, to_le_bytes}
use Rattle.std.proofs.lemmas.Nat.{xor_of_32, le_bytes_4, from_le_bytes-to_le_bytes_4}
use Rattle.std.proofs.lemmas.List.{append_assoc, append-nil, length-append, length-take-le, take_at, drop_at, drop_more, drop-drop, take-append-drop}
use Rattle.std.proofs.lemmas.List.{take_rest, take-take, get_or-take, get_or-drop, drop-take, length-drop}
use Rattle.std.proofs.lemmas.List.{length-take, get_or_past, drop_all}
use Rattle.ferry_base.specs.Limits.{entry_limit}
use Rattle.ferry_segment.specs.Crc.{all_ones, polynomial, low_bits, bits_of, reduced, after_bit, register_after, crc}
use Rattle.ferry_segment.specs.declared.entry.EntryFault.{EntryFault}
use Rattle.ferry_segment.specs.declared.entry.EntryFault.TheVariants.{Short, Size, Crc, Tag}
use Rattle.ferry_segment.specs.Entry.{IsBytes, LogEntry, PutEntry, DeleteEntry, CommitEntry, tagged, size_of, checked_part, spelling, Fits, IsEntryAt}
use Rattle.ferry_segment.specs.Entry.{stated_size, stated_crc, size_fits_tag, first_fault}
use Rattle.ferry_segment.proofs.CrcLemmas.{register_after-append}
use Rattle.ferry_segment.specs.Reading.{IsChecked, IsTagged, tag_fault}

-- ---- crc

reduced-lt : (r : ℕ) → r < 2 ^ 32 → reduced r < 2 ^ 32
reduced-lt r h = xor_of_32 (r / 2) (r % 2 * polynomial) (omega arith) (omega arith)

after_low_bits-lt : (n r b : ℕ) → r < 2 ^ 32 → fold after_bit r (low_bits n b) < 2 ^ 32
after_low_bits-lt zero r b h = h
after_low_bits-lt (suc n) r b h = after_low_bits-lt n (after_bit r (b % 2)) (b / 2) (reduced-lt _ (xor_of_32 r (b % 2) h (omega arith)))

register_after-lt : (r : ℕ) (bytes : List ℕ) → r < 2 ^ 32 → register_after r bytes < 2 ^ 32
unfolding register_after bits_of
register_after-lt r [] h = h
register_after-lt r (b ∷ bytes) h = register_after-lt (fold after_bit r (low_bits 8 b)) bytes (after_low_bits-lt 8 r b h)

-- a CRC has 32 bits
pub crc-lt : (bytes : List ℕ) → crc bytes < 2 ^ 32
unfolding crc
crc-lt bytes = xor_of_32 _ all_ones (register_after-lt all_ones bytes (omega arith)) (omega arith)

-- ---- tagged

-- the parts of an entry with a key behind its size
pub keyed : (bytes : List ℕ) → 41 ≤ length bytes → drop 8 bytes ≡ get_or bytes 8 0 ∷ (take 32 (drop 9 bytes) ++ drop 41 bytes)
keyed bytes h =
    let parts : take 32 (drop 9 bytes) ++ drop 41 bytes ≡ drop 9 bytes =
    ap (λ k. take 32 (drop 9 bytes) ++ k) (sym (drop-drop 32 9 bytes)) ∙ take-append-drop 32 (drop 9 bytes) in
    drop_more bytes 8 0 (omega arith) ∙ ap (λ k. get_or bytes 8 0 ∷ k) (sym parts)

key_length : (bytes : List ℕ) → 41 ≤ length bytes → length (take 32 (drop 9 bytes)) ≡ 32
key_length bytes h = length-take-le 32 (drop 9 bytes) (omega (arith, length-drop 9 bytes))

put_right : (tag size : ℕ) → tag ≡ 0 → 41 ≤ size → cond (ltb 2 tag) (Some Tag) (cond (not (size_fits_tag size tag)) (Some Size) None) ≡ None
put_right tag size e h = rw (e, lt-ltb 40 size h) refl

delete_right : (tag size : ℕ) → tag ≡ 1 → size ≡ 41 → cond (ltb 2 tag) (Some Tag) (cond (not (size_fits_tag size tag)) (Some Size) None) ≡ None
delete_right tag size e h = rw (e, h) refl

pub tagged_put : (bytes : List ℕ) → 41 ≤ length bytes → get_or bytes 8 0 ≡ 0
    → IsTagged bytes (PutEntry (take 32 (drop 9 bytes)) (take (length bytes - 41) (drop 41 bytes)))
tagged_put bytes h e =
    let rest : take (length bytes - 41) (drop 41 bytes) ≡ drop 41 bytes = take_rest bytes 41 in
    let key = key_length bytes h in
    let sizes = length-append (take 32 (drop 9 bytes)) (take (length bytes - 41) (drop 41 bytes)) in
    let left = length-drop 41 bytes in
    let kept = ap length rest in
    record {
      right = put_right (get_or bytes 8 0) (length bytes) e h;
      behind = keyed bytes h ∙ (ap (λ k. k ∷ (take 32 (drop 9 bytes) ++ drop 41 bytes)) e ∙ ap (λ k. 0 ∷ (take 32 (drop 9 bytes) ++ k)) (sym rest));
      sized = omega arith;
      fits = λ small. (key, omega arith);
    }

pub tagged_delete : (bytes : List ℕ) → length bytes ≡ 41 → get_or bytes 8 0 ≡ 1 → IsTagged bytes (DeleteEntry (take 32 (drop 9 bytes)))
tagged_delete bytes h e =
    let key = key_length bytes (omega arith) in
    record {
      right = delete_right (get_or bytes 8 0) (length bytes) e h;
      behind =
          keyed bytes (omega arith)
          ∙ (ap (λ k. k ∷ (take 32 (drop 9 bytes) ++ drop 41 bytes)) e
          ∙ ap (λ k. 1 ∷ k) (ap (λ k. take 32 (drop 9 bytes) ++ k) (drop_all 41 bytes (omega arith)) ∙ append-nil _));
      sized = omega arith;
      fits = λ small. key;
    }

commit_right : (tag size : ℕ) → tag ≡ 2 → size ≡ 9 → cond (ltb 2 tag) (Some Tag) (cond (not (size_fits_tag size tag)) (Some Size) None) ≡ None
commit_right tag size e h = rw (e, h) refl

pub tagged_commit : (bytes : List ℕ) → length bytes ≡ 9 → get_or bytes 8 0 ≡ 2 → IsTagged bytes CommitEntry
tagged_commit bytes h e = record {
  right = commit_right (get_or bytes 8 0) (length bytes) e h;
  behind = drop_more bytes 8 0 (omega arith) ∙ (ap (λ k. k ∷ drop 9 bytes) e ∙ ap (λ k. 2 ∷ k) (drop_all 9 bytes (omega arith)));
  sized = h;
  fits = λ _. tt;
}

-- ---- spelling

pub length-spelling : (e : LogEntry) → length (spelling e) ≡ size_of e
unfolding spelling
length-spelling e = omega arith

pub size_of-least : (e : LogEntry) → 9 ≤ size_of e
size_of-least (PutEntry key blob) = omega arith
size_of-least (DeleteEntry key) = omega arith
size_of-least CommitEntry = omega arith

pub size_of-most : (e : LogEntry) → Fits e → size_of e ≤ entry_limit
size_of-most (PutEntry key blob) h = omega (arith, length-append key blob)
size_of-most (DeleteEntry key) h = omega arith
size_of-most CommitEntry h = omega arith

-- the parts of a spelling, whatever follows it
pub spelling-crc : (e : LogEntry) (rest : List ℕ) → stated_crc (spelling e ++ rest) ≡ crc (checked_part e)
unfolding spelling stated_crc
spelling-crc e rest = from_le_bytes-to_le_bytes_4 (crc (checked_part e)) (crc-lt (checked_part e))

pub spelling-size : (e : LogEntry) (rest : List ℕ) → Fits e → stated_size (spelling e ++ rest) ≡ size_of e
unfolding spelling stated_size
spelling-size e rest h = let most = size_of-most e h in from_le_bytes-to_le_bytes_4 (size_of e) (omega arith)

pub spelling-tagged : (e : LogEntry) (rest : List ℕ) → drop 8 (spelling e ++ rest) ≡ tagged e ++ rest
unfolding spelling
spelling-tagged e rest = refl

-- what is checked of a spelling
pub spelling-checked : (e : LogEntry) (rest : List ℕ) → take (size_of e - 4) (drop 4 (spelling e ++ rest)) ≡ checked_part e
unfolding spelling
spelling-checked e rest = take_at (checked_part e) rest (size_of e - 4) (omega arith)

-- ---- first_fault

-- behind right checks the fault is that of the entry tag
pub first_fault-checked : (bytes entry : List ℕ) → IsChecked bytes entry → first_fault bytes ≡ tag_fault entry
unfolding first_fault
first_fault-checked bytes entry h =
    let sized : length entry ≡ stated_size bytes = ap length h.front ∙ length-take-le _ bytes h.within in
    let tag : get_or entry 8 0 ≡ get_or bytes 8 0 = ap (λ xs. get_or xs 8 0) h.front ∙ get_or-take _ bytes 8 0 (omega (arith, h.least)) in
    let t1 : ltb (length bytes) 9 ≡ false = le-ltb (length bytes) 9 (omega (arith, h.least, h.within)) in
    let t2 : ltb (stated_size bytes) 9 ≡ false = le-ltb (stated_size bytes) 9 h.least in
    let t3 : ltb entry_limit (stated_size bytes) ≡ false = le-ltb entry_limit (stated_size bytes) h.most in
    let t4 : ltb (length bytes) (stated_size bytes) ≡ false = le-ltb (length bytes) (stated_size bytes) h.within in
    let t5 : eqb (crc (take (stated_size bytes - 4) (drop 4 bytes))) (stated_crc bytes) ≡ true = eq-eqb _ _ h.right in
    rw (t1, t2, t3, t4, t5, tag, sized) refl

front_byte : (n : ℕ) (bytes : List ℕ) (i : ℕ) → ((k : ℕ) → k < n → get_or bytes k 0 < 256) → get_or (take n bytes) i 0 < 256
front_byte n bytes i small =
    elim (cases_lt i n) [
      | inl below ↦ subst (λ x. x < 256) (sym (get_or-take n bytes i 0 below)) (small i below)
      | inr past ↦ subst (λ x. x < 256) (sym (get_or_past (take n bytes) i 0 (omega (arith, length-take n bytes)))) (omega arith)
    ]

joined_takes : (i j : ℕ) (bytes : List ℕ) (n : ℕ) → i + j ≡ n → take i bytes ++ take j (drop i bytes) ≡ take n bytes
joined_takes i j bytes n e = subst (λ k. take i bytes ++ take j (drop i bytes) ≡ take k bytes) e (sym (take-add i j bytes))

-- the first eight of these are bytes
abbrev pub AreSmall : List ℕ → Type 0
AreSmall bytes = (i : ℕ) → i < 8 → get_or bytes i 0 < 256

-- behind right checks of the size and of the tag, the bytes begin with the entry's spelling
pub spelled : (bytes entry : List ℕ) (e : LogEntry) → AreSmall bytes → IsChecked bytes entry → IsTagged entry e
    → bytes ≡ spelling e ++ drop (size_of e) bytes
unfolding spelling stated_crc stated_size
spelled bytes entry e small h t =
    let n = stated_size bytes in
    let least : 9 ≤ n = h.least in
    let within : n ≤ length bytes = h.within in
    let sized : n ≡ size_of e = sym (length-take-le n bytes within) ∙ (sym (ap length h.front) ∙ t.sized) in
    let crc_bytes : to_le_bytes w32 (stated_crc bytes) ≡ take 4 bytes =
    le_bytes_4 (take 4 bytes) _ (length-take-le 4 bytes (omega arith)) (λ i. front_byte 4 bytes i (λ k l. small k (omega arith))) refl in
    let size_bytes : to_le_bytes w32 n ≡ take 4 (drop 4 bytes) =
    le_bytes_4 (take 4 (drop 4 bytes)) _ (length-take-le 4 (drop 4 bytes) (omega (arith, length-drop 4 bytes)))
    (λ i. front_byte 4 (drop 4 bytes) i (λ k l. subst (λ x. x < 256) (sym (get_or-drop 4 bytes k 0)) (small (4 + k) (omega arith)))) refl in
    let rest : take (n - 4) (drop 4 bytes) ≡ drop 4 entry =
    sym (drop-take 4 (n - 4) bytes) ∙ (ap (λ k. drop 4 (take k bytes)) (let e : 4 + (n - 4) ≡ n = omega arith in e) ∙ ap (drop 4) (sym h.front)) in
    let part : checked_part e ≡ take (n - 4) (drop 4 bytes) =
    ap (λ k. to_le_bytes w32 k ++ tagged e) (sym sized)
    ∙ (ap (λ k. k ++ tagged e) (size_bytes ∙ (sym (take-take 4 (n - 4) (drop 4 bytes) (omega arith)) ∙ ap (take 4) rest))
    ∙ (ap (λ k. take 4 (drop 4 entry) ++ k) (sym t.behind ∙ sym (drop-drop 4 4 entry))
    ∙ (take-append-drop 4 (drop 4 entry) ∙ sym rest))) in
    let same_crc : crc (checked_part e) ≡ stated_crc bytes = ap crc part ∙ h.right in
    let front : spelling e ≡ take 4 bytes ++ take (n - 4) (drop 4 bytes) =
    ap (λ k. to_le_bytes w32 k ++ checked_part e) same_crc ∙ (ap (λ k. k ++ checked_part e) crc_bytes ∙ ap (λ k. take 4 bytes ++ k) part) in
    let joined : take 4 bytes ++ take (n - 4) (drop 4 bytes) ≡ take n bytes = joined_takes 4 (n - 4) bytes n (omega arith) in
    sym (ap (λ k. k ++ drop (size_of e) bytes) (front ∙ joined) ∙ (ap (λ k. take n bytes ++ drop k bytes) (sym sized) ∙ take-append-drop n bytes))

or_false : (a b : Bool) → (a || b) ≡ false → (a ≡ false) × (b ≡ false)
or_false true b e = cc
or_false false b e = (refl, e)

not_false : (b : Bool) → not b ≡ false → b ≡ true
not_false true e = refl
not_false false e = sym e

second_none : (b : Bool) (f : EntryFault) (o : Option EntryFault) → cond b (Some f) o ≡ None → (b ≡ false) × (o ≡ None)
second_none true f o e = cc
second_none false f o e = (refl, e)

not_none : (b : Bool) (f : EntryFault) → cond (not b) (Some f) None ≡ None → b ≡ true
not_none true f e = refl
not_none false f e = cc

-- what has a right tag is an entry
pub tagged_of : (bytes : List ℕ) → 9 ≤ length bytes → tag_fault bytes ≡ None → (e : LogEntry) × IsTagged bytes e
tagged_of bytes h right =
    let tag = get_or bytes 8 0 in
    let parts = second_none (ltb 2 tag) Tag _ right in
    let low : tag ≤ 2 = ltb-false 2 tag parts.0 in
    let fit : size_fits_tag (length bytes) tag ≡ true = not_none _ Size parts.1 in
    elim (cases_eq tag 0) [
      | inl e ↦ (_, tagged_put bytes (ltb-true 40 (length bytes) (rw e at fit)) e)
      | inr not_put ↦ elim (cases_eq tag 1) [
        | inl e ↦ (_, tagged_delete bytes (eqb-true (length bytes) 41 (rw e at fit)) e)
        | inr not_delete ↦
            let e : tag ≡ 2 = omega arith in
            (CommitEntry, tagged_commit bytes (eqb-true (length bytes) 9 (rw e at fit)) e)
      ]
    ]

checked_spelling : (e : LogEntry) (rest : List ℕ) → Fits e → IsChecked (spelling e ++ rest) (spelling e)
checked_spelling e rest h =
    let bytes = spelling e ++ rest in
    let stated = spelling-size e rest h in
    let own = length-spelling e in
    let all = length-append (spelling e) rest in
    record {
      least = omega (arith, size_of-least e);
      most = omega (arith, size_of-most e h);
      within = omega arith;
      front = sym (ap (λ k. take k bytes) (stated ∙ sym own) ∙ take_at (spelling e) rest _ refl);
      right = ap (λ k. crc (take (k - 4) (drop 4 bytes))) stated ∙ (ap crc (spelling-checked e rest) ∙ sym (spelling-crc e rest));
    }

tag_fault-spelling : (e : LogEntry) (rest : List ℕ) → Fits e → tag_fault (spelling e) ≡ None
unfolding spelling
tag_fault-spelling (PutEntry key blob) rest h = put_right 0 _ refl (omega (arith, length-append key blob))
tag_fault-spelling (DeleteEntry key) rest h = delete_right 1 _ refl (omega arith)
tag_fault-spelling CommitEntry rest h = refl

-- a spelling breaks no rule, whatever follows it
pub first_fault-spelling : (e : LogEntry) (rest : List ℕ) → Fits e → first_fault (spelling e ++ rest) ≡ None
first_fault-spelling e rest h = first_fault-checked _ _ (checked_spelling e rest h) ∙ tag_fault-spelling e rest h

-- what breaks no rule has right checks
checked_of : (bytes : List ℕ) → first_fault bytes ≡ None → IsChecked bytes (take (stated_size bytes) bytes)
unfolding first_fault
checked_of bytes right =
    let n = stated_size bytes in
    let p1 = second_none (ltb (length bytes) 9) Short _ right in
    let p2 = second_none (ltb n 9 || ltb entry_limit n) Size _ p1.1 in
    let p3 = second_none (ltb (length bytes) n) Short _ p2.1 in
    let p4 = second_none (not (eqb (crc (take (n - 4) (drop 4 bytes))) (stated_crc bytes))) Crc _ p3.1 in
    let range = or_false (ltb n 9) (ltb entry_limit n) p2.0 in
    record {
      least = ltb-false n 9 range.0;
      most = ltb-false entry_limit n range.1;
      within = ltb-false (length bytes) n p3.0;
      front = refl;
      right = eqb-true _ _ (not_false _ p4.0);
    }

-- what breaks no rule begins with the spelling of an entry
pub entry_of : (bytes : List ℕ) → IsBytes bytes → first_fault bytes ≡ None
    → (e : LogEntry) × Fits e × (size_of e ≤ length bytes) × (bytes ≡ spelling e ++ drop (size_of e) bytes)
entry_of bytes small right =
    let h = checked_of bytes right in
    let entry = take (stated_size bytes) bytes in
    let sized : length entry ≡ stated_size bytes = length-take-le _ bytes h.within in
    let t = tagged_of entry (omega (arith, h.least)) (sym (first_fault-checked bytes entry h) ∙ right) in
    let most : length entry ≤ entry_limit = omega (arith, h.most) in
    (t.0, t.1.fits most, omega (arith, h.within, t.1.sized), spelled bytes entry t.0 (λ i l. small i) h t.1)

-- two lists that begin alike, of one length, are one
pub same_fronts : {A : Type 0} (a b x y : List A) → length a ≡ length b → a ++ x ≡ b ++ y → (a ≡ b) × (x ≡ y)
same_fronts a b x y n same = (
  sym (take_at a x (length a) refl) ∙ (ap (take (length a)) same ∙ take_at b y (length a) (sym n)),
  sym (drop_at a x (length a) refl) ∙ (ap (drop (length a)) same ∙ drop_at b y (length a) (sym n)),
)

behind : (a b : ℕ) (x y : List ℕ) → a ∷ x ≡ b ∷ y → (a ≡ b) × (x ≡ y)
behind a b x y e = (ap (λ k. get_or k 0 0) e, ap (drop 1) e)

same_put : (k b l c : List ℕ) → length k ≡ 32 → length l ≡ 32 → k ++ b ≡ l ++ c → PutEntry k b ≡ PutEntry l c
same_put k b l c m n e = let parts = same_fronts k l b c (m ∙ sym n) e in ap (λ h. PutEntry h b) parts.0 ∙ ap (PutEntry l) parts.1

-- what stands behind the size tells the entry
same_tagged : (d e : LogEntry) → Fits d → Fits e → tagged d ≡ tagged e → d ≡ e
same_tagged (PutEntry k b) (PutEntry l c) p q same = same_put k b l c p.0 q.0 (behind 0 0 _ _ same).1
same_tagged (PutEntry k b) (DeleteEntry l) p q same = absurd (omega (arith, (behind 0 1 _ _ same).0))
same_tagged (PutEntry k b) CommitEntry p q same = absurd (omega (arith, (behind 0 2 _ _ same).0))
same_tagged (DeleteEntry k) (PutEntry l c) p q same = absurd (omega (arith, (behind 1 0 _ _ same).0))
same_tagged (DeleteEntry k) (DeleteEntry l) p q same = ap DeleteEntry (behind 1 1 _ _ same).1
same_tagged (DeleteEntry k) CommitEntry p q same = absurd (omega (arith, (behind 1 2 _ _ same).0))
same_tagged CommitEntry (PutEntry l c) p q same = absurd (omega (arith, (behind 2 0 _ _ same).0))
same_tagged CommitEntry (DeleteEntry l) p q same = absurd (omega (arith, (behind 2 1 _ _ same).0))
same_tagged CommitEntry CommitEntry p q same = refl

-- no spelling begins another
pub one_spelling : (d e : LogEntry) (x y : List ℕ) → Fits d → Fits e → spelling d ++ x ≡ spelling e ++ y → (d ≡ e) × (x ≡ y)
one_spelling d e x y p q same =
    let sizes : size_of d ≡ size_of e = sym (spelling-size d x p) ∙ (ap stated_size same ∙ spelling-size e y q) in
    let backs : tagged d ++ x ≡ tagged e ++ y = sym (spelling-tagged d x) ∙ (ap (drop 8) same ∙ spelling-tagged e y) in
    let parts = same_fronts (tagged d) (tagged e) x y (omega arith) backs in
    (same_tagged d e p q parts.0, parts.1)

-- ---- IsEntryAt

-- the entry at a place, from the parts of its reader
pub entry_at : (bytes : List ℕ) (at : ℕ) (entry : List ℕ) (e : LogEntry) → at ≤ length bytes → AreSmall (drop at bytes) → IsChecked (drop at bytes) entry
    → IsTagged entry e → IsEntryAt bytes at e (at + length entry)
entry_at bytes at entry e within small h t =
    let n = stated_size (drop at bytes) in
    let sized : length entry ≡ n = ap length h.front ∙ length-take-le n (drop at bytes) h.within in
    let left = length-drop at bytes in
    record {
      fits = t.fits (omega (arith, h.most));
      spelled =
          spelled (drop at bytes) entry e small h t
          ∙ ap (λ k. spelling e ++ k) (drop-drop (size_of e) at bytes
          ∙ ap (λ k. drop k bytes) (let same : at + size_of e ≡ at + length entry = ap (λ k. at + k) (sym t.sized) in same));
      ends = ap (λ k. at + k) t.sized;
      within = omega (arith, h.within);
    }

-- what is spelled at a place is the entry there
pub entry_only : (bytes : List ℕ) (at : ℕ) (d : LogEntry) (end : ℕ) → IsEntryAt bytes at d end → (e : LogEntry) (rest : List ℕ) → Fits e
    → drop at bytes ≡ spelling e ++ rest → (d ≡ e) × (end ≡ at + size_of e)
entry_only bytes at d end h e rest fits same =
    let one = one_spelling d e _ rest h.fits fits (sym h.spelled ∙ same) in
    (one.0, h.ends ∙ ap (λ k. at + size_of k) one.0)

-- where a rule is broken, no spelling stands
pub no_spelling : (bytes : List ℕ) (fault : EntryFault) → first_fault bytes ≡ Some fault → (e : LogEntry) (rest : List ℕ) → Fits e
    → bytes ≡ spelling e ++ rest → ⊥
no_spelling bytes fault broken e rest fits same = let right : first_fault bytes ≡ None = ap first_fault same ∙ first_fault-spelling e rest fits in cc

-- ---- what is written

-- a head of the right fields, with the blob behind it
pub put_spelled : (key blob size crc_bytes head : List ℕ) (n before after : ℕ) → length key ≡ 32 → n ≡ 41 + length blob → size ≡ to_le_bytes w32 n
    → before ≡ register_after all_ones (size ++ 0 ∷ key) → after ≡ register_after before blob → crc_bytes ≡ to_le_bytes w32 (bit_xor after all_ones)
    → head ≡ crc_bytes ++ size ++ 0 ∷ key → head ++ blob ≡ spelling (PutEntry key blob)
unfolding spelling crc
put_spelled key blob size crc_bytes head n before after sized counted p q e f g =
    let own : n ≡ size_of (PutEntry key blob) = omega (arith, length-append key blob) in
    let part : size ++ 0 ∷ key ++ blob ≡ checked_part (PutEntry key blob) =
    append_assoc size (0 ∷ key) blob ∙ ap (λ k. k ++ (0 ∷ key ++ blob)) (p ∙ ap (to_le_bytes w32) own) in
    let summed : after ≡ register_after all_ones (checked_part (PutEntry key blob)) =
    e ∙ (ap (λ k. register_after k blob) q ∙ (sym (register_after-append all_ones (size ++ 0 ∷ key) blob) ∙ ap (register_after all_ones) part)) in
    let front : head ++ blob ≡ crc_bytes ++ (size ++ 0 ∷ key ++ blob) =
    ap (λ k. k ++ blob) g ∙ (ap (λ k. k ++ blob) (append_assoc crc_bytes size (0 ∷ key)) ∙ append_assoc crc_bytes (size ++ 0 ∷ key) blob) in
    front
    ∙ (ap (λ k. k ++ (size ++ 0 ∷ key ++ blob)) (f ∙ ap (λ k. to_le_bytes w32 (bit_xor k all_ones)) summed)
    ∙ ap (λ k. to_le_bytes w32 (bit_xor (register_after all_ones (checked_part (PutEntry key blob))) all_ones) ++ k) part)

pub delete_spelled : (key size crc_bytes head : List ℕ) (n before : ℕ) → length key ≡ 32 → n ≡ 41 → size ≡ to_le_bytes w32 n
    → before ≡ register_after all_ones (size ++ 1 ∷ key) → crc_bytes ≡ to_le_bytes w32 (bit_xor before all_ones) → head ≡ crc_bytes ++ size ++ 1 ∷ key
    → head ≡ spelling (DeleteEntry key)
unfolding spelling crc
delete_spelled key size crc_bytes head n before sized counted p q f g =
    let own : n ≡ size_of (DeleteEntry key) = omega arith in
    let part : size ++ 1 ∷ key ≡ checked_part (DeleteEntry key) = ap (λ k. k ++ 1 ∷ key) (p ∙ ap (to_le_bytes w32) own) in
    let summed : before ≡ register_after all_ones (checked_part (DeleteEntry key)) = q ∙ ap (register_after all_ones) part in
    g ∙ (append_assoc crc_bytes size (1 ∷ key)
    ∙ (ap (λ k. k ++ (size ++ 1 ∷ key)) (f ∙ ap (λ k. to_le_bytes w32 (bit_xor k all_ones)) summed)
    ∙ ap (λ k. to_le_bytes w32 (bit_xor (register_after all_ones (checked_part (DeleteEntry key))) all_ones) ++ k) part))
