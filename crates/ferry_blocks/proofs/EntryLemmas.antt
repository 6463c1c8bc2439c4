-- Lemmas on the front of an entry: what it says of the size and of the blob.
use Rattle.std.proofs.Common.{◌≡◌, ◌↔◌, ℕ, ◌+◌, ◌-◌, ◌/◌, ◌<◌, ◌≤◌, min, Bool, true, false, IsTrue, inr, List, length, take, drop, get_or, refl, sym}
use Rattle.std.proofs.Common.{◌∙◌, ap, subst, arith, le-ltb}
use Rattle.std.proofs.lemmas.List.{take-take, drop-take, drop-drop, get_or-take, get_or-drop, length-take, length-take-le, length-drop, take_rest}
use Rattle.std.specs.Int.{w32, w64, from_be_bytes, from_le_bytes}
use Rattle.ferry_base.specs.Limits.{entry_limit}
use Rattle.ferry_blob.specs.Blob.{nonce_of, block_count}
use Rattle.ferry_segment.specs.Entry.{stated_size}
use Rattle.ferry_segment.proofs.HeadLemmas.{front_byte, front_size}
use Rattle.ferry_blocks.specs.Blocks.{StatesSize, StatesNoSize, StatesPut, IsCounterType, IsCountedPut, IsEndOf}
use Rattle.ferry_blocks.proofs.PassLemmas.{end_none}

-- ---- fronts

-- eight bytes of a front are those of the whole
front_eight : (front bytes : List ℕ) (k : ℕ) → front ≡ take (length front) bytes → k + 8 ≤ length front → take 8 (drop k front) ≡ take 8 (drop k bytes)
front_eight front bytes k is within =
    let n : k + (length front - k) ≡ length front = omega arith in
    ap (λ xs. take 8 (drop k xs)) (is ∙ ap (λ m. take m bytes) (sym n))
    ∙ (ap (take 8) (drop-take k (length front - k) bytes) ∙ take-take 8 (length front - k) (drop k bytes) (omega arith))

-- the rest of a part, as a slice of it: a front of the rest
rest_is : (n at : ℕ) (part bytes : List ℕ) → n ≤ length part → part ≡ take (length part) (drop at bytes)
    → drop n part ≡ take (length (drop n part)) (drop (at + n) bytes)
rest_is n at part bytes within is =
    let sum : length part ≡ n + (length part - n) = omega arith in
    ap (drop n) (is ∙ ap (λ k. take k (drop at bytes)) sum)
    ∙ (drop-take n (length part - n) (drop at bytes)
    ∙ (ap (take (length part - n)) (drop-drop n at bytes) ∙ ap (λ k. take k (drop (at + n) bytes)) (sym (length-drop n part))))

pub front_rest : (n at : ℕ) (part bytes : List ℕ) → n ≤ length part → part ≡ take (length part) (drop at bytes)
    → take (length part - n) (drop n part) ≡ take (length (take (length part - n) (drop n part))) (drop (at + n) bytes)
front_rest n at part bytes within is =
    take_rest part n ∙ (rest_is n at part bytes within is ∙ ap (λ xs. take (length xs) (drop (at + n) bytes)) (sym (take_rest part n)))

pub rest_length : (n : ℕ) (part : List ℕ) → length (take (length part - n) (drop n part)) ≡ length part - n
rest_length n part = ap length (take_rest part n) ∙ length-drop n part

-- how many bytes are left further on
pub rest_left : (bytes : List ℕ) (from left n : ℕ) → length (drop from bytes) ≡ left → length (drop (from + n) bytes) ≡ left - n
rest_left bytes from left n e = omega (arith, e, length-drop from bytes, length-drop (from + n) bytes)

-- ---- the size

not_found : (found : Bool) (P : Type 0) → IsTrue found ↔ P → found ≡ false → P → ⊥
not_found true P told e p = absurd (let none : ⊥ = cc in none)
not_found false P told e p = let yes : false ≡ true = told.1 p in absurd (let none : ⊥ = cc in none)

-- the size that a front states is that of the whole
pub word_is : (front bytes : List ℕ) (left word : ℕ) → front ≡ take (length front) bytes → 9 ≤ left → min 82 left ≤ length front
    → word ≡ from_le_bytes w32 (take 4 (drop 4 front)) → word ≡ stated_size bytes
word_is front bytes left word is some long e = front_size front bytes word is (omega arith) e

pub in_range : (bytes : List ℕ) (left word : ℕ) → length bytes ≡ left → word ≡ stated_size bytes
    → (9 ≤ word) × (word ≤ entry_limit) × (word ≤ left) → StatesSize bytes word
in_range bytes left word sized e range =
    record { stated = e; least = range.0; most = range.1; within = let within : word ≤ left = range.2 in omega (arith, sized) }

pub out_of_range : (bytes : List ℕ) (left word : ℕ) (found : Bool) → length bytes ≡ left → word ≡ stated_size bytes
    → IsTrue found ↔ ((9 ≤ word) × (word ≤ entry_limit) × (word ≤ left)) → found ≡ false → StatesNoSize bytes
out_of_range bytes left word found sized e told missed size stated =
    let same : size ≡ word = stated.stated ∙ sym e in
    not_found found _ told missed (omega (arith, stated.least), omega (arith, stated.most), omega (arith, stated.within))

-- ---- the blob of a PUT

module _ (front bytes : List ℕ) (size : ℕ) (own : StatesSize bytes size) (is : front ≡ take (length front) bytes) where
  -- the blob that is stated
  blob_is : (blob : List ℕ) → StatesPut bytes blob → blob ≡ take (size - 41) (drop 41 bytes)
  blob_is blob put = put.blob_is ∙ ap (λ n. take (n - 41) (drop 41 bytes)) (put.stated.stated ∙ sym own.stated)

  kind_is : 84 ≤ size → 82 ≤ length front → get_or (take (size - 41) (drop 41 bytes)) 0 0 ≡ get_or front 41 0
  kind_is room long =
      get_or-take (size - 41) (drop 41 bytes) 0 0 (omega arith) ∙ (get_or-drop 41 bytes 0 0 ∙ sym (front_byte front bytes 41 is (omega arith)))

  nonce_is : 84 ≤ size → 82 ≤ length front → from_be_bytes w64 (take 8 (drop 74 front)) ≡ nonce_of (take (size - 41) (drop 41 bytes))
  unfolding nonce_of
  nonce_is room long =
      let n : size - 41 ≡ 33 + (size - 74) = omega arith in
      ap (from_be_bytes w64)
      (front_eight front bytes 74 is (omega arith)
      ∙ sym (ap (λ m. take 8 (drop 33 (take m (drop 41 bytes)))) n
      ∙ (ap (take 8) (drop-take 33 (size - 74) (drop 41 bytes))
      ∙ (take-take 8 (size - 74) (drop 33 (drop 41 bytes)) (omega arith) ∙ ap (take 8) (drop-drop 33 41 bytes)))))

  length_is : length (take (size - 41) (drop 41 bytes)) ≡ size - 41
  length_is = length-take-le (size - 41) (drop 41 bytes) (omega (arith, own.within, length-drop 41 bytes))

  count_is : 84 ≤ size → block_count (take (size - 41) (drop 41 bytes)) ≡ (size - 82 + 15) / 16
  unfolding block_count
  count_is room =
      let long : 43 ≤ length (take (size - 41) (drop 41 bytes)) = omega (arith, length_is) in
      let rest : length (take (size - 41) (drop 41 bytes)) - 41 + 15 ≡ size - 82 + 15 = omega (arith, length_is) in
      rw (le-ltb (length (take (size - 41) (drop 41 bytes))) 43 long) (ap (λ n. n / 16) rest)

  -- another entry tag than that of a PUT
  pub other_tag : 9 ≤ length front → (get_or front 8 0 ≡ 0 → ⊥) → IsEndOf (IsCountedPut bytes) 0
  other_tag long differs = end_none (IsCountedPut bytes) (λ blob put. differs (front_byte front bytes 8 is (omega arith) ∙ put.0.put))

  -- a PUT that has no room for each field of a blob
  pub too_short : size < 84 → IsEndOf (IsCountedPut bytes) 0
  too_short short =
      end_none (IsCountedPut bytes) (λ blob put. omega (arith, put.1.room, ap length (blob_is blob put.0), length-take (size - 41) (drop 41 bytes)))

  -- a blob of another type
  pub other_type : 84 ≤ size → 82 ≤ length front → (IsCounterType (get_or front 41 0) → ⊥) → IsEndOf (IsCountedPut bytes) 0
  other_type room long differs =
      end_none (IsCountedPut bytes) (λ blob put. differs (subst IsCounterType (ap (λ xs. get_or xs 0 0) (blob_is blob put.0) ∙ kind_is room long) put.1.kind))

  -- a blob that takes counter blocks
  pub put_counted : (end : ℕ) → get_or front 8 0 ≡ 0 → 84 ≤ size → 82 ≤ length front → IsCounterType (get_or front 41 0)
      → end ≡ from_be_bytes w64 (take 8 (drop 74 front)) + (size - 82 + 15) / 16 → IsEndOf (IsCountedPut bytes) end
  put_counted end tag room long kind e =
      let blob = take (size - 41) (drop 41 bytes) in
      let sum : end ≡ nonce_of blob + block_count blob = omega (arith, e, nonce_is room long, count_is room) in
      let some : 1 ≤ block_count blob = omega (arith, count_is room) in
      record {
        above = λ other number put block.
            let below : number < nonce_of other + block_count other = block.below in
            rw (sum, sym (blob_is other put.0)) below;
        reached = inr (record {
          blob = blob;
          is = (
            record {
              size = size;
              stated = own;
              put = sym (front_byte front bytes 8 is (omega arith)) ∙ tag;
              room = omega arith;
              blob_is = refl;
            },
            record { room = omega (arith, length_is); kind = subst IsCounterType (sym (kind_is room long)) kind },
          );
          number = end - 1;
          block = record { first = omega arith; below = omega arith };
          next = omega arith;
        });
      }
