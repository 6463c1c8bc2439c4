-- Lemmas on specs/Head.antt: what the first bytes of an entry state decides with its checksum what reads there.
use Rattle.std.proofs.Common.{◌≡◌, ℕ, zero, suc, ◌+◌, ◌-◌, ◌<◌, ◌≤◌, false, cond, not, ltb, eqb, List, length, take, drop, get_or}
use Rattle.std.proofs.Common.{Some, None, refl, sym, ◌∙◌, ap, subst, arith, lt-ltb, le-ltb}
use Rattle.std.proofs.lemmas.Bool.{ne_eqb}
use Rattle.std.specs.Int.{w32, from_le_bytes}
use Rattle.std.proofs.lemmas.List.{take-take, take_at, drop_at, length-append, drop-take, get_or-take, take_rest, length-take-le}
use Rattle.std.proofs.Math.Seq.{take-length}
use Rattle.ferry_base.specs.Limits.{entry_limit}
use Rattle.ferry_segment.specs.Crc.{crc}
use Rattle.ferry_segment.specs.declared.entry.EntryFault.TheVariants.{Short, Size, Crc, Tag}
use Rattle.ferry_segment.specs.declared.head.Head.{Head}
use Rattle.ferry_segment.specs.declared.head.StatedHead.{StatedHead}
use Rattle.ferry_segment.specs.Entry.{LogEntry, PutEntry, DeleteEntry, CommitEntry, size_of, spelling, Fits, IsEntryAt, stated_size, stated_crc}
use Rattle.ferry_segment.specs.Entry.{size_fits_tag, first_fault}
use Rattle.ferry_segment.specs.Reading.{IsChecked, IsTagged}
use Rattle.ferry_segment.specs.Head.{head_of, entry_with, HasHead, States}
use Rattle.ferry_segment.proofs.EntryLemmas.{first_fault-checked, tagged_put, tagged_delete, tagged_commit, entry_at, length-spelling}

-- ---- first_fault

pub fault_short : (bytes : List ℕ) → length bytes < 9 → first_fault bytes ≡ Some Short
unfolding first_fault
fault_short bytes h = rw (lt-ltb (length bytes) 9 h) refl

pub fault_small : (bytes : List ℕ) → 9 ≤ length bytes → stated_size bytes < 9 → first_fault bytes ≡ Some Size
unfolding first_fault
fault_small bytes h small = rw (le-ltb (length bytes) 9 h, lt-ltb (stated_size bytes) 9 small) refl

pub fault_large : (bytes : List ℕ) → 9 ≤ length bytes → entry_limit < stated_size bytes → first_fault bytes ≡ Some Size
unfolding first_fault
fault_large bytes h large = rw (le-ltb (length bytes) 9 h, le-ltb (stated_size bytes) 9 (omega arith), lt-ltb entry_limit (stated_size bytes) large) refl

pub fault_cut : (bytes : List ℕ) → 9 ≤ length bytes → 9 ≤ stated_size bytes → stated_size bytes ≤ entry_limit → length bytes < stated_size bytes
    → first_fault bytes ≡ Some Short
unfolding first_fault
fault_cut bytes h least most cut =
    rw (
      le-ltb (length bytes) 9 h,
      le-ltb (stated_size bytes) 9 least,
      le-ltb entry_limit (stated_size bytes) most,
      lt-ltb (length bytes)
          (stated_size bytes) cut,
    ) refl

-- ---- States

-- four bytes of a front are those of the whole
front_word : (front bytes : List ℕ) (k : ℕ) → front ≡ take (length front) bytes → k + 4 ≤ length front → take 4 (drop k front) ≡ take 4 (drop k bytes)
front_word front bytes k e h =
    let n : k + (length front - k) ≡ length front = omega arith in
    ap (λ xs. take 4 (drop k xs)) (e ∙ ap (λ m. take m bytes) (sym n))
    ∙ (ap (take 4) (drop-take k (length front - k) bytes) ∙ take-take 4 (length front - k) (drop k bytes) (omega arith))

pub front_size : (front bytes : List ℕ) (size : ℕ) → front ≡ take (length front) bytes → 8 ≤ length front → size ≡ from_le_bytes w32 (take 4 (drop 4 front))
    → size ≡ stated_size bytes
unfolding stated_size
front_size front bytes size e h is = is ∙ ap (from_le_bytes w32) (front_word front bytes 4 e h)

pub front_crc : (front bytes : List ℕ) (sum : ℕ) → front ≡ take (length front) bytes → 8 ≤ length front → sum ≡ from_le_bytes w32 (take 4 front)
    → sum ≡ stated_crc bytes
unfolding stated_crc
front_crc front bytes sum e h is = is ∙ ap (from_le_bytes w32) (front_word front bytes 0 e (omega arith))

pub front_byte : (front bytes : List ℕ) (i : ℕ) → front ≡ take (length front) bytes → i < length front → get_or front i 0 ≡ get_or bytes i 0
front_byte front bytes i e h = ap (λ xs. get_or xs i 0) e ∙ get_or-take (length front) bytes i 0 h

pub front_key : (front bytes : List ℕ) → front ≡ take (length front) bytes → 41 ≤ length front → take 32 (drop 9 front) ≡ take 32 (drop 9 bytes)
front_key front bytes e h =
    let n : 9 + (length front - 9) ≡ length front = omega arith in
    ap (λ xs. take 32 (drop 9 xs)) (e ∙ ap (λ m. take m bytes) (sym n))
    ∙ (ap (take 32) (drop-take 9 (length front - 9) bytes) ∙ take-take 32 (length front - 9) (drop 9 bytes) (omega arith))

-- ---- what the checksum decides

pub fault_crc : (bytes : List ℕ) (stated : StatedHead) (sum : ℕ) → States bytes stated → sum ≡ crc (take (stated.head.size - 4) (drop 4 bytes))
    → (sum ≡ stated.crc → ⊥) → first_fault bytes ≡ Some Crc
unfolding first_fault
fault_crc bytes stated sum s e differs =
    let size : stated.head.size ≡ stated_size bytes = s.size in
    let sums : eqb (crc (take (stated_size bytes - 4) (drop 4 bytes))) (stated_crc bytes) ≡ false =
    ne_eqb _ _ (λ same. differs (e ∙ (ap (λ n. crc (take (n - 4) (drop 4 bytes))) size ∙ (same ∙ sym s.crc)))) in
    let t1 : ltb (length bytes) 9 ≡ false = le-ltb (length bytes) 9 (omega (arith, s.least, s.within)) in
    let t2 : ltb (stated_size bytes) 9 ≡ false = le-ltb (stated_size bytes) 9 (omega (arith, s.least)) in
    let t3 : ltb entry_limit (stated_size bytes) ≡ false = le-ltb entry_limit (stated_size bytes) (omega (arith, s.most)) in
    let t4 : ltb (length bytes) (stated_size bytes) ≡ false = le-ltb (length bytes) (stated_size bytes) (omega (arith, s.within)) in
    rw (t1, t2, t3, t4, sums) refl

right_check : (bytes : List ℕ) (stated : StatedHead) (sum : ℕ) → States bytes stated → sum ≡ crc (take (stated.head.size - 4) (drop 4 bytes))
    → sum ≡ stated.crc → IsChecked bytes (take stated.head.size bytes)
right_check bytes stated sum s e same =
    let size : stated.head.size ≡ stated_size bytes = s.size in
    record {
      least = omega (arith, s.least);
      most = omega (arith, s.most);
      within = omega (arith, s.within);
      front = ap (λ n. take n bytes) size;
      right = sym (ap (λ n. crc (take (n - 4) (drop 4 bytes))) size) ∙ (sym e ∙ (same ∙ s.crc));
    }

-- the entry's own bytes: their length and their tag
own_length : (bytes : List ℕ) (stated : StatedHead) → States bytes stated → length (take stated.head.size bytes) ≡ stated.head.size
own_length bytes stated s = length-take-le stated.head.size bytes s.within

own_tag : (bytes : List ℕ) (stated : StatedHead) → States bytes stated → get_or (take stated.head.size bytes) 8 0 ≡ stated.head.tag
own_tag bytes stated s = get_or-take stated.head.size bytes 8 0 (omega (arith, s.least)) ∙ sym s.tag

-- where the checksum is right the fault is that of the stated tag and size
pub stated_fault : (bytes : List ℕ) (stated : StatedHead) (sum : ℕ) → States bytes stated → sum ≡ crc (take (stated.head.size - 4) (drop 4 bytes))
    → sum ≡ stated.crc
    → first_fault bytes ≡ cond (ltb 2 stated.head.tag) (Some Tag) (cond (not (size_fits_tag stated.head.size stated.head.tag)) (Some Size) None)
stated_fault bytes stated sum s e same =
    let sized = own_length bytes stated s in
    let tag = own_tag bytes stated s in
    first_fault-checked bytes _ (right_check bytes stated sum s e same)
    ∙ (ap (λ t. cond (ltb 2 t) (Some Tag) (cond (not (size_fits_tag (length (take stated.head.size bytes)) t)) (Some Size) None)) tag
    ∙ ap (λ n. cond (ltb 2 stated.head.tag) (Some Tag) (cond (not (size_fits_tag n stated.head.tag)) (Some Size) None)) sized)

above_2 : (tag : ℕ) → (tag ≡ 0 → ⊥) → (tag ≡ 1 → ⊥) → (tag ≡ 2 → ⊥) → 2 < tag
above_2 zero a b c = absurd (a refl)
above_2 (suc zero) a b c = absurd (b refl)
above_2 (suc (suc zero)) a b c = absurd (c refl)
above_2 (suc (suc (suc n))) a b c = omega arith

pub fault_tag : (tag size : ℕ) → (tag ≡ 0 → ⊥) → (tag ≡ 1 → ⊥) → (tag ≡ 2 → ⊥)
    → cond (ltb 2 tag) (Some Tag) (cond (not (size_fits_tag size tag)) (Some Size) None) ≡ Some Tag
fault_tag tag size a b c =
    let above : 2 < tag = above_2 tag a b c in
    rw (lt-ltb 2 tag above) refl

pub fault_put : (tag size : ℕ) → tag ≡ 0 → size < 41 → cond (ltb 2 tag) (Some Tag) (cond (not (size_fits_tag size tag)) (Some Size) None) ≡ Some Size
fault_put tag size e h = rw (e, le-ltb 40 size (omega arith)) refl

pub fault_delete : (tag size : ℕ) → tag ≡ 1 → (size ≡ 41 → ⊥)
    → cond (ltb 2 tag) (Some Tag) (cond (not (size_fits_tag size tag)) (Some Size) None) ≡ Some Size
fault_delete tag size e h = rw (e, ne_eqb size 41 h) refl

pub fault_commit : (tag size : ℕ) → tag ≡ 2 → (size ≡ 9 → ⊥)
    → cond (ltb 2 tag) (Some Tag) (cond (not (size_fits_tag size tag)) (Some Size) None) ≡ Some Size
fault_commit tag size e h = rw (e, ne_eqb size 9 h) refl

-- ---- HasHead

same_head : (head : Head) (tag : ℕ) (key : List ℕ)
    (size : ℕ) → head.tag ≡ tag → head.key ≡ key → head.size ≡ size → head ≡ record { tag = tag; key = key; size = size }
same_head head tag key size p q r =
    ap (λ t. record head { tag = t }) p ∙ (ap (λ k. record head { tag = tag; key = k }) q ∙ ap (λ n. record { tag = tag; key = key; size = n }) r)

found : (bytes : List ℕ) (at : ℕ) (stated : StatedHead) (e : LogEntry) → at ≤ length bytes → States (drop at bytes) stated
    → IsChecked (drop at bytes) (take stated.head.size (drop at bytes)) → IsTagged (take stated.head.size (drop at bytes)) e → stated.head ≡ head_of e
    → HasHead bytes at stated.head
found bytes at stated e within s h t is =
    let end : at + length (take stated.head.size (drop at bytes)) ≡ at + size_of e = ap (λ n. at + n) t.sized in
    (e, subst (IsEntryAt bytes at e) end (entry_at bytes at _ e within s.small h t), is)

module _ (bytes : List ℕ) (at : ℕ) (stated : StatedHead) (sum : ℕ) (within : at ≤ length bytes) (s : States (drop at bytes) stated)
    (e : sum ≡ crc (take (stated.head.size - 4) (drop 4 (drop at bytes)))) (same : sum ≡ stated.crc) where
  abbrev own : List ℕ
  own = take stated.head.size (drop at bytes)

  own_key : 41 ≤ stated.head.size → stated.head.key ≡ take 32 (drop 9 own)
  own_key h =
      let sized : length own ≡ stated.head.size = own_length (drop at bytes) stated s in
      s.key h ∙ sym (front_key own (drop at bytes) (ap (λ n. take n (drop at bytes)) (sym sized)) (omega arith))

  pub put_found : stated.head.tag ≡ 0 → 41 ≤ stated.head.size → HasHead bytes at stated.head
  put_found p h =
      let sized : length own ≡ stated.head.size = own_length (drop at bytes) stated s in
      let t = tagged_put own (omega arith) (own_tag (drop at bytes) stated s ∙ p) in
      found bytes at stated _ within s (right_check (drop at bytes) stated sum s e same) t (same_head stated.head 0 _ _ p (own_key h) (sym sized ∙ t.sized))

  pub delete_found : stated.head.tag ≡ 1 → stated.head.size ≡ 41 → HasHead bytes at stated.head
  delete_found p h =
      let sized : length own ≡ stated.head.size = own_length (drop at bytes) stated s in
      let t = tagged_delete own (sized ∙ h) (own_tag (drop at bytes) stated s ∙ p) in
      found bytes at stated _ within s (right_check (drop at bytes) stated sum s e same) t (same_head stated.head 1 _ _ p (own_key (omega arith)) (sym sized
      ∙ t.sized))

  pub commit_found : stated.head.tag ≡ 2 → stated.head.size ≡ 9 → HasHead bytes at stated.head
  commit_found p h =
      let sized : length own ≡ stated.head.size = own_length (drop at bytes) stated s in
      let t = tagged_commit own (sized ∙ h) (own_tag (drop at bytes) stated s ∙ p) in
      found bytes at stated _ within s (right_check (drop at bytes) stated sum s e same) t
      (same_head stated.head 2 _ _ p (s.no_key (omega arith)) (sym sized
      ∙ t.sized))

-- ---- head_of

-- a head has its entry's size
pub head_size : (e : LogEntry) → (head_of e).size ≡ size_of e
head_size (PutEntry key blob) = refl
head_size (DeleteEntry key) = refl
head_size CommitEntry = refl

-- a PUT's size has room for its key
pub head_put : (e : LogEntry) → Fits e → (head_of e).tag ≡ 0 → 41 ≤ (head_of e).size
head_put (PutEntry key blob) h p = omega (arith, length-append key blob, h.0)
head_put (DeleteEntry key) h p = absurd (omega arith)
head_put CommitEntry h p = absurd (omega arith)

-- ---- entry_with

-- the entry of a head and its own bytes
entry_with-head_of : (e : LogEntry) → Fits e → entry_with (head_of e) (spelling e) ≡ e
unfolding spelling
entry_with-head_of (PutEntry key blob) h = ap (PutEntry key) (drop_at key blob 32 h.0)
entry_with-head_of (DeleteEntry key) h = refl
entry_with-head_of CommitEntry h = refl

-- ---- the whole rest of a segment as a front

pub rest_length : (bytes : List ℕ) (at : ℕ) → length (drop at bytes) ≡ length (take (length bytes - at) (drop at bytes))
rest_length bytes at = ap length (sym (take_rest bytes at))

pub rest_front : (bytes : List ℕ) (at : ℕ)
    → take (length bytes - at) (drop at bytes) ≡ take (length (take (length bytes - at) (drop at bytes))) (drop at bytes)
rest_front bytes at = take_rest bytes at ∙ (sym (take-length (drop at bytes)) ∙ ap (λ n. take n (drop at bytes)) (rest_length bytes at))

-- the checksum of what is behind an entry's own
pub rest_sum : (bytes : List ℕ) (at size sum : ℕ) → sum ≡ crc (take (size - 4) (drop 4 (take (length bytes - at) (drop at bytes))))
    → sum ≡ crc (take (size - 4) (drop 4 (drop at bytes)))
rest_sum bytes at size sum e = e ∙ ap (λ k. crc (take (size - 4) (drop 4 k))) (take_rest bytes at)

-- the entry that was read, from its head
pub entry_read : (bytes : List ℕ) (at size : ℕ) (head : Head) (view : LogEntry) → HasHead bytes at head → head.size ≡ size
    → view ≡ entry_with head (take size (take (length bytes - at) (drop at bytes))) → IsEntryAt bytes at view (at + size)
entry_read bytes at size head view found sized is =
    let e = found.0 in
    let here : IsEntryAt bytes at e (at + size_of e) = found.1 in
    let own : head ≡ head_of e = found.2 in
    let sizes : size_of e ≡ size = sym (head_size e) ∙ (sym (ap (λ h. h.size) own) ∙ sized) in
    let part : take size (take (length bytes - at) (drop at bytes)) ≡ spelling e =
    ap (take size) (take_rest bytes at ∙ here.spelled) ∙ take_at (spelling e) (drop (at + size_of e) bytes) size (length-spelling e ∙ sizes) in
    let whole : view ≡ e =
    is ∙ (ap (λ h. entry_with h (take size (take (length bytes - at) (drop at bytes)))) own
    ∙ (ap (entry_with (head_of e)) part ∙ entry_with-head_of e here.fits)) in
    subst (λ v. IsEntryAt bytes at v (at + size)) (sym whole) (subst (λ n. IsEntryAt bytes at e (at + n)) sizes here)
