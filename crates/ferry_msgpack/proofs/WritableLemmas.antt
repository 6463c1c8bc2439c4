-- What is spelled by bytes can be written.
use Rattle.std.proofs.Common.{◌≡◌, ℕ, zero, suc, ◌+◌, ◌-◌, ◌^◌, ◌≤◌, ◌<◌, Bool, true, false, ◌||◌, List, [], ◌∷◌, ◌++◌, length, get_or, ℤ, pos, negsuc}
use Rattle.std.proofs.Common.{Ordering, Less, Equal, Greater, nat_cmp, is_eq, refl, sym, ap, subst, ◌∙◌, arith, inl, inr}
use Rattle.std.specs.Int.{Width, w8, w16, w32, w64, from_be_bytes, cast_signed}
use Rattle.std.specs.Ordering.{match_ordering, ordering_reverse}
use Rattle.std.specs.Cmp.Lexicographic.{slice_cmp}
use Rattle.std.proofs.lemmas.Bool.{cases_lt, le-ltb, lt-ltb, false≢true}
use Rattle.std.proofs.lemmas.Cmp.{nat_list_cmp_total}
use Rattle.std.proofs.lemmas.Int.{ints}
use Rattle.ferry_msgpack.specs.Tree.{Tree, Items, items_count, Pairs, no_pairs, pair, pairs_count, has_key, put}
use Rattle.ferry_msgpack.specs.First.{Count, small_number, unsigned_number, signed_number, raw_value, array_value, map_value, Row, positive_fixint}
use Rattle.ferry_msgpack.specs.First.{negative_fixint, fixmap, fixarray, fixstr, bin8, bin16, bin32, uint8, uint16, uint32, uint64, int8, int16, int32, int64}
use Rattle.ferry_msgpack.specs.First.{str8, str16, str32, array16, array32, map16, map32}
use Rattle.ferry_msgpack.specs.Spelling.{Counts, SpellsRaw, spells_raw, SpellsWithin, spells_nil, spells_flag, spells_small, spells_unsigned, spells_signed}
use Rattle.ferry_msgpack.specs.Spelling.{spells_bytes, spells_array, spells_map, SpellsItems, spells_no_items, spells_item, SpellsPairs, spells_no_pairs}
use Rattle.ferry_msgpack.specs.Spelling.{spells_pair, Spells}
use Rattle.ferry_msgpack.specs.Writable.{depth, items_depth, pairs_depth, IsNumber, IsBelow, IsIncreasing, Fits, ItemsFit, PairsFit, IsWritable}

-- ---- bytes

abbrev pub AreBytes : List ℕ → Type 0
AreBytes [] = Unit {0}
AreBytes (b ∷ bytes) = (b < 256) × AreBytes bytes

pub AreBytes-from : (bytes : List ℕ) → ((i : ℕ) → get_or bytes i 0 < 256) → AreBytes bytes
AreBytes-from [] h = tt
AreBytes-from (b ∷ bytes) h = (h 0, AreBytes-from bytes (λ i. h (suc i)))

AreBytes-at : (bytes : List ℕ) (i : ℕ) → AreBytes bytes → get_or bytes i 0 < 256
AreBytes-at [] i h = omega arith
AreBytes-at (b ∷ bytes) zero h = h.0
AreBytes-at (b ∷ bytes) (suc i) h = AreBytes-at bytes i h.1

pub AreBytes-left : (a b : List ℕ) → AreBytes (a ++ b) → AreBytes a
AreBytes-left [] b h = tt
AreBytes-left (x ∷ a) b h = (h.0, AreBytes-left a b h.1)

AreBytes-right : (a b : List ℕ) → AreBytes (a ++ b) → AreBytes b
AreBytes-right [] b h = h
AreBytes-right (x ∷ a) b h = AreBytes-right a b h.1

-- ---- numbers

from8 : (bytes : List ℕ) → AreBytes bytes → from_be_bytes w8 bytes < 2 ^ 8
from8 bytes h = omega (arith, AreBytes-at bytes 0 h)

from16 : (bytes : List ℕ) → AreBytes bytes → from_be_bytes w16 bytes < 2 ^ 16
from16 bytes h = omega (arith, AreBytes-at bytes 0 h, AreBytes-at bytes 1 h)

from32 : (bytes : List ℕ) → AreBytes bytes → from_be_bytes w32 bytes < 2 ^ 32
from32 bytes h = omega (arith, AreBytes-at bytes 0 h, AreBytes-at bytes 1 h, AreBytes-at bytes 2 h, AreBytes-at bytes 3 h)

from64 : (bytes : List ℕ) → AreBytes bytes → from_be_bytes w64 bytes < 2 ^ 64
from64 bytes h =
    omega (
      arith,
      AreBytes-at bytes 0 h,
      AreBytes-at bytes 1 h,
      AreBytes-at bytes 2 h,
      AreBytes-at bytes 3 h,
      AreBytes-at bytes 4 h,
      AreBytes-at bytes 5 h,
      AreBytes-at bytes 6 h,
      AreBytes-at bytes 7 h,
    )

positive_fits : (n : ℕ) → n < 2 ^ 64 → IsNumber (pos n)
positive_fits n lt = (grind (arith, ints), grind (arith, ints))

negative_fits : (n : ℕ) → n < 2 ^ 63 → IsNumber (negsuc n)
negative_fits n lt = (grind (arith, ints), grind (arith, ints))

small_fits : (b : ℕ) (z : ℤ) → Row b (small_number z) → IsNumber z
small_fits b z (positive_fixint n lt) = positive_fits n (omega arith)
small_fits b z (negative_fixint n lt) = negative_fits n (omega arith)

unsigned_fits : (b : ℕ) (w : Width) (bytes : List ℕ) → Row b (unsigned_number w) → AreBytes bytes → IsNumber (pos (from_be_bytes w bytes))
unsigned_fits b w bytes uint8 h = let lt = from8 bytes h in positive_fits (from_be_bytes w8 bytes) (omega arith)
unsigned_fits b w bytes uint16 h = let lt = from16 bytes h in positive_fits (from_be_bytes w16 bytes) (omega arith)
unsigned_fits b w bytes uint32 h = let lt = from32 bytes h in positive_fits (from_be_bytes w32 bytes) (omega arith)
unsigned_fits b w bytes uint64 h = positive_fits (from_be_bytes w64 bytes) (from64 bytes h)

signed_8 : (n : ℕ) → n < 2 ^ 8 → IsNumber (cast_signed w8 n)
signed_8 n lt =
    elim (cases_lt n (2 ^ 7)) [
      | inl low ↦ rw (lt-ltb n (2 ^ 7) low) (positive_fits n (omega arith))
      | inr high ↦ rw (le-ltb n (2 ^ 7) high) (negative_fits (2 ^ 8 - suc n) (omega arith))
    ]

signed_16 : (n : ℕ) → n < 2 ^ 16 → IsNumber (cast_signed w16 n)
signed_16 n lt =
    elim (cases_lt n (2 ^ 15)) [
      | inl low ↦ rw (lt-ltb n (2 ^ 15) low) (positive_fits n (omega arith))
      | inr high ↦ rw (le-ltb n (2 ^ 15) high) (negative_fits (2 ^ 16 - suc n) (omega arith))
    ]

signed_32 : (n : ℕ) → n < 2 ^ 32 → IsNumber (cast_signed w32 n)
signed_32 n lt =
    elim (cases_lt n (2 ^ 31)) [
      | inl low ↦ rw (lt-ltb n (2 ^ 31) low) (positive_fits n (omega arith))
      | inr high ↦ rw (le-ltb n (2 ^ 31) high) (negative_fits (2 ^ 32 - suc n) (omega arith))
    ]

signed_64 : (n : ℕ) → n < 2 ^ 64 → IsNumber (cast_signed w64 n)
signed_64 n lt =
    elim (cases_lt n (2 ^ 63)) [
      | inl low ↦ rw (lt-ltb n (2 ^ 63) low) (positive_fits n lt)
      | inr high ↦ rw (le-ltb n (2 ^ 63) high) (negative_fits (2 ^ 64 - suc n) (omega arith))
    ]

signed_fits : (b : ℕ) (w : Width) (bytes : List ℕ) → Row b (signed_number w) → AreBytes bytes → IsNumber (cast_signed w (from_be_bytes w bytes))
signed_fits b w bytes int8 h = signed_8 (from_be_bytes w8 bytes) (from8 bytes h)
signed_fits b w bytes int16 h = signed_16 (from_be_bytes w16 bytes) (from16 bytes h)
signed_fits b w bytes int32 h = signed_32 (from_be_bytes w32 bytes) (from32 bytes h)
signed_fits b w bytes int64 h = signed_64 (from_be_bytes w64 bytes) (from64 bytes h)

-- ---- counts

raw_count_fits : (b : ℕ) (c : Count) (n : ℕ) (count : List ℕ) → Row b (raw_value c) → Counts c n count → AreBytes count → n < 2 ^ 32
raw_count_fits b c n count (fixstr m lt) counts h = omega (arith, counts.0)
raw_count_fits b c n count bin8 counts h = omega (arith, counts.0, from8 count h)
raw_count_fits b c n count bin16 counts h = omega (arith, counts.0, from16 count h)
raw_count_fits b c n count bin32 counts h = omega (arith, counts.0, from32 count h)
raw_count_fits b c n count str8 counts h = omega (arith, counts.0, from8 count h)
raw_count_fits b c n count str16 counts h = omega (arith, counts.0, from16 count h)
raw_count_fits b c n count str32 counts h = omega (arith, counts.0, from32 count h)

array_count_fits : (b : ℕ) (c : Count) (n : ℕ) (count : List ℕ) → Row b (array_value c) → Counts c n count → AreBytes count → n < 2 ^ 32
array_count_fits b c n count (fixarray m lt) counts h = omega (arith, counts.0)
array_count_fits b c n count array16 counts h = omega (arith, counts.0, from16 count h)
array_count_fits b c n count array32 counts h = omega (arith, counts.0, from32 count h)

map_count_fits : (b : ℕ) (c : Count) (n : ℕ) (count : List ℕ) → Row b (map_value c) → Counts c n count → AreBytes count → n < 2 ^ 32
map_count_fits b c n count (fixmap m lt) counts h = omega (arith, counts.0)
map_count_fits b c n count map16 counts h = omega (arith, counts.0, from16 count h)
map_count_fits b c n count map32 counts h = omega (arith, counts.0, from32 count h)

raw_fits : (content bytes : List ℕ) → SpellsRaw content bytes → AreBytes bytes → length content < 2 ^ 32
raw_fits content bytes (spells_raw b c count _ row counts) h = raw_count_fits b c (length content) count row counts (AreBytes-left count content h.1)

-- ---- a pair put to others

-- what holds of pairs that were read before
record AreFine (d n : ℕ) (pairs : Pairs) : Type 0 where
  count : pairs_count pairs ≡ n
  deep : pairs_depth pairs ≤ d
  increase : IsIncreasing pairs
  fit : PairsFit pairs

not_both : (b c : Bool) → (b || c) ≡ false → (b ≡ false) × (c ≡ false)
not_both false false e = (refl, refl)
not_both false true e = absurd (false≢true (sym e))
not_both true c e = absurd (false≢true (sym e))

no_pairs_fine : (d : ℕ) → AreFine d 0 no_pairs
no_pairs_fine d = record { count = refl; deep = omega arith; increase = tt; fit = tt }

IsBelow-put : (l k : List ℕ) (t : Tree) (ps : Pairs) → slice_cmp nat_cmp l k ≡ Less → IsBelow l ps → IsBelow l (put k t ps)
IsBelow-put l k t no_pairs below under = below
IsBelow-put l k t (pair m u ps) below under =
    let P : Ordering → Type 0 = λ o. IsBelow l (match_ordering o (pair k t (pair m u ps)) (pair m t ps) (pair m u (put k t ps))) in
    elim (slice_cmp nat_cmp k m) as P [ Less ↦ below | Equal ↦ under | Greater ↦ under ]

put_fine_at : (d n : ℕ) (k : List ℕ) (t : Tree) (l : List ℕ) (u : Tree) (ps : Pairs) (o : Ordering) → slice_cmp nat_cmp k l ≡ o → is_eq o ≡ false
    → length k < 2 ^ 32 → depth t ≤ d → Fits t
    → AreFine d (suc n) (pair l u ps) → AreFine d (suc n) (put k t ps)
    → AreFine d (suc (suc n)) (match_ordering o (pair k t (pair l u ps)) (pair l t ps) (pair l u (put k t ps)))
put_fine_at d n k t l u ps Less is new len deep fits old rest =
    record { count = omega (arith, old.count); deep = omega (arith, old.deep); increase = (is, old.increase); fit = (len, fits, old.fit) }
put_fine_at d n k t l u ps Equal is new len deep fits old rest = absurd (false≢true (sym new))
put_fine_at d n k t l u ps Greater is new len deep fits old rest =
    let below : slice_cmp nat_cmp l k ≡ Less = nat_list_cmp_total.antisymm l k ∙ ap ordering_reverse is in
    record {
      count = omega (arith, rest.count);
      deep = omega (arith, old.deep, rest.deep);
      increase =
          (IsBelow-put l k t ps below old.increase.0, rest.increase);
      fit = (old.fit.0, old.fit.1, rest.fit);
    }

put_fine : (d n : ℕ) (k : List ℕ) (t : Tree) (ps : Pairs) → has_key k ps ≡ false → length k < 2 ^ 32 → depth t ≤ d → Fits t → AreFine d n ps
    → AreFine d (suc n) (put k t ps)
put_fine d n k t no_pairs new len deep fits old = record { count = omega (arith, old.count); deep = omega arith; increase = (tt, tt); fit = (len, fits, tt) }
put_fine d zero k t (pair l u ps) new len deep fits old = absurd (omega (arith, old.count))
put_fine d (suc n) k t (pair l u ps) new len deep fits old =
    let p = not_both (is_eq (slice_cmp nat_cmp k l)) (has_key k ps) new in
    let others : AreFine d n ps = record { count = omega (arith, old.count); deep = omega (arith, old.deep); increase = old.increase.1; fit = old.fit.2 } in
    put_fine_at d n k t l u ps (slice_cmp nat_cmp k l) refl p.0 len deep fits old (put_fine d n k t ps p.1 len deep fits others)

-- ---- values

mutual
  pub spelled_fits : (d : ℕ) (t : Tree) (bytes : List ℕ) → SpellsWithin d t bytes → AreBytes bytes → (depth t ≤ d) × Fits t
  spelled_fits d t bytes (spells_nil _ b row) h = (omega arith, tt)
  spelled_fits d t bytes (spells_flag _ b f row) h = (omega arith, tt)
  spelled_fits d t bytes (spells_small _ b z row) h = (omega arith, small_fits b z row)
  spelled_fits d t bytes (spells_unsigned _ b w content row len) h = (omega arith, unsigned_fits b w content row h.1)
  spelled_fits d t bytes (spells_signed _ b w content row len) h = (omega arith, signed_fits b w content row h.1)
  spelled_fits d t bytes (spells_bytes _ content _ spelled) h = (omega arith, raw_fits content bytes spelled h)
  spelled_fits d t bytes (spells_array inner b c items count body row counts spelled) h =
      let p = spelled_items_fit inner items body spelled (AreBytes-right count body h.1) in
      (omega (arith, p.0), (array_count_fits b c (items_count items) count row counts (AreBytes-left count body h.1), p.1))
  spelled_fits d t bytes (spells_map inner b c n pairs count body row counts spelled) h =
      let p = spelled_pairs_fit inner n 0 no_pairs pairs body spelled (AreBytes-right count body h.1) (no_pairs_fine inner) in
      (omega (arith, p.deep), (omega (arith, p.count, map_count_fits b c n count row counts (AreBytes-left count body h.1)), p.increase, p.fit))

  spelled_items_fit : (d : ℕ) (items : Items) (bytes : List ℕ) → SpellsItems d items bytes → AreBytes bytes → (items_depth items ≤ d) × ItemsFit items
  spelled_items_fit d items bytes (spells_no_items _) h = (omega arith, tt)
  spelled_items_fit d items bytes (spells_item _ t ts front rest spelled others) h =
      let first = spelled_fits d t front spelled (AreBytes-left front rest h) in
      let next = spelled_items_fit d ts rest others (AreBytes-right front rest h) in
      (omega (arith, first.0, next.0), (first.1, next.1))

  spelled_pairs_fit : (d n m : ℕ) (before pairs : Pairs) (bytes : List ℕ) → SpellsPairs d n before pairs bytes → AreBytes bytes → AreFine d m before
      → AreFine d (n + m) pairs
  spelled_pairs_fit d n m before pairs bytes (spells_no_pairs _ _) h fine = let e : m ≡ 0 + m = omega arith in subst (λ (k : ℕ). AreFine d k before) e fine
  spelled_pairs_fit d n m before pairs bytes (spells_pair _ i _ _ key t front middle rest named new spelled others) h fine =
      let after = AreBytes-right front (middle ++ rest) h in
      let value = spelled_fits d t middle spelled (AreBytes-left middle rest after) in
      let next = put_fine d m key t before new (raw_fits key front named (AreBytes-left front (middle ++ rest) h)) value.0 value.1 fine in
      let e : i + suc m ≡ suc i + m = omega arith in
      subst (λ (k : ℕ). AreFine d k pairs) e (spelled_pairs_fit d i (suc m) (put key t before) pairs rest others (AreBytes-right middle rest after) next)

pub spelled_writable : (t : Tree) (bytes : List ℕ) → Spells t bytes → AreBytes bytes → IsWritable t
spelled_writable t bytes spelled h = let p = spelled_fits 64 t bytes spelled h in record { depth_fits = p.0; fits = p.1 }
