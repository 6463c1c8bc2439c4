-- The shortest spelling is a spelling.
use Rattle.std.proofs.Common.{◌≡◌, ℕ, zero, suc, ◌+◌, ◌-◌, ◌%◌, ◌^◌, ◌≤◌, ◌<◌, true, false, cond, ltb, List, [], ◌∷◌, ◌++◌, length, ℤ, pos, negsuc, Less}
use Rattle.std.proofs.Common.{Greater, nat_cmp, refl, sym, ap, subst, ◌∙◌, add-one, arith, inl, inr}
use Rattle.std.specs.Int.{Width, w8, w16, w32, w64, byte_len, to_be_bytes, from_be_bytes, cast_signed, cast_unsigned}
use Rattle.std.specs.Ordering.{ordering_reverse}
use Rattle.std.specs.Cmp.Lexicographic.{slice_cmp}
use Rattle.std.proofs.lemmas.Bool.{cases_lt, le-ltb, lt-ltb}
use Rattle.std.proofs.lemmas.Cmp.{nat_list_cmp_total}
use Rattle.std.proofs.lemmas.Nat.{from_be_bytes-to_be_bytes_2, from_be_bytes-to_be_bytes_4, from_be_bytes-to_be_bytes_8}
use Rattle.std.proofs.lemmas.Int.{ints}
use Rattle.ferry_msgpack.specs.Tree.{Tree, nil, flag, number, raw, array, table, Items, no_items, item, items_count, Pairs, no_pairs, pair, pairs_count}
use Rattle.ferry_msgpack.specs.Tree.{has_key, put}
use Rattle.ferry_msgpack.specs.First as rows
use Rattle.ferry_msgpack.specs.First.{Count, given, behind, First, small_number, unsigned_number, signed_number, raw_value, array_value, map_value, Row}
use Rattle.ferry_msgpack.specs.Spelling.{Counts, SpellsRaw, spells_raw, SpellsWithin, spells_nil, spells_flag, spells_small, spells_unsigned, spells_signed}
use Rattle.ferry_msgpack.specs.Spelling.{spells_bytes, spells_array, spells_map, SpellsItems, spells_no_items, spells_item, SpellsPairs, spells_no_pairs}
use Rattle.ferry_msgpack.specs.Spelling.{spells_pair, Spells}
use Rattle.ferry_msgpack.specs.Shortest.{bytes_of, shortest_number, shortest_count, shortest_raw, shortest, shortest_items, shortest_pairs}
use Rattle.ferry_msgpack.specs.Writable.{depth, items_depth, pairs_depth, IsNumber, IsBelow, IsIncreasing, Fits, ItemsFit, PairsFit, IsWritable}

-- the first of two texts below a limit, the second from it on
below_or_not : (P : List ℕ → Type 0) (a b : ℕ) (x y : List ℕ) → (a < b → P x) → (b ≤ a → P y) → P (cond (ltb a b) x y)
below_or_not P a b x y below above =
    elim (cases_lt a b) [
      | inl lt ↦ rw (lt-ltb a b lt) (below lt)
      | inr le ↦ rw (le-ltb a b le) (above le)
    ]

-- ---- numbers

again8 : (n : ℕ) → n < 2 ^ 8 → from_be_bytes w8 (to_be_bytes w8 n) ≡ n
again8 n lt = omega arith

again16 : (n : ℕ) → n < 2 ^ 16 → from_be_bytes w16 (to_be_bytes w16 n) ≡ n
again16 n lt = from_be_bytes-to_be_bytes_2 n lt

again32 : (n : ℕ) → n < 2 ^ 32 → from_be_bytes w32 (to_be_bytes w32 n) ≡ n
again32 n lt = from_be_bytes-to_be_bytes_4 n lt

again64 : (n : ℕ) → n < 2 ^ 64 → from_be_bytes w64 (to_be_bytes w64 n) ≡ n
again64 n lt = from_be_bytes-to_be_bytes_8 n lt

unsigned_spelled : (d b : ℕ) (w : Width) (n : ℕ) → Row b (unsigned_number w) → length (to_be_bytes w n) ≡ byte_len w → from_be_bytes w (to_be_bytes w n) ≡ n
    → SpellsWithin d (number (pos n)) (b ∷ to_be_bytes w n)
unsigned_spelled d b w n row len again =
    subst (λ (m : ℕ). SpellsWithin d (number (pos m)) (b ∷ to_be_bytes w n)) again (spells_unsigned d b w (to_be_bytes w n) row len)

signed_spelled : (d b : ℕ) (w : Width) (z : ℤ) → Row b (signed_number w) → length (bytes_of w z) ≡ byte_len w
    → from_be_bytes w (bytes_of w z) ≡ cast_unsigned w z → cast_signed w (cast_unsigned w z) ≡ z
    → SpellsWithin d (number z) (b ∷ bytes_of w z)
signed_spelled d b w z row len again back =
    subst (λ (y : ℤ). SpellsWithin d (number y) (b ∷ bytes_of w z)) (ap (cast_signed w) again ∙ back) (spells_signed d b w (bytes_of w z) row len)

positive_spelled : (d n : ℕ) → n < 2 ^ 64 → SpellsWithin d (number (pos n)) (shortest_number (pos n))
unfolding shortest_number
positive_spelled d n fits =
    let P : List ℕ → Type 0 = λ text. SpellsWithin d (number (pos n)) text in
    below_or_not P n 0x80 _ _ (λ lt. let e : n % 256 ≡ n = omega arith in rw e (spells_small d n (pos n) (rows.positive_fixint n lt))) (λ h0.
    below_or_not P n 0x100 _ _ (λ lt. unsigned_spelled d 0xcc w8 n rows.uint8 refl (again8 n lt)) (λ h1.
    below_or_not P n 0x10000 _ _ (λ lt. unsigned_spelled d 0xcd w16 n rows.uint16 refl (again16 n lt)) (λ h2.
    below_or_not P n 0x100000000 _ _ (λ lt. unsigned_spelled d 0xce w32 n rows.uint32 refl (again32 n lt)) (λ h3.
    unsigned_spelled d 0xcf w64 n rows.uint64 refl (again64 n fits)))))

-- of the tests of a number below 0, with the widest form first
above_or_not : (P : List ℕ → Type 0) (a b : ℕ) (x y : List ℕ) → (b < a → P x) → (a ≤ b → P y) → P (cond (ltb b a) x y)
above_or_not P a b x y above below = below_or_not P b a x y above below

negative_spelled : (d n : ℕ) → n < 2 ^ 63 → SpellsWithin d (number (negsuc n)) (shortest_number (negsuc n))
unfolding shortest_number
negative_spelled d n fits =
    let P : List ℕ → Type 0 = λ text. SpellsWithin d (number (negsuc n)) text in
    above_or_not P n 0x7fffffff _ _ (λ lt. signed_spelled d 0xd3 w64 (negsuc n) rows.int64 refl (again64 _ (omega arith)) (omega (arith, ints))) (λ h0.
    above_or_not P n 0x7fff _ _ (λ lt. signed_spelled d 0xd2 w32 (negsuc n) rows.int32 refl (again32 _ (omega arith)) (omega (arith, ints))) (λ h1.
    above_or_not P n 0x7f _ _ (λ lt. signed_spelled d 0xd1 w16 (negsuc n) rows.int16 refl (again16 _ (omega arith)) (omega (arith, ints))) (λ h2.
    above_or_not P n 0x1f _ _ (λ lt. signed_spelled d 0xd0 w8 (negsuc n) rows.int8 refl (again8 _ (omega arith)) (omega (arith, ints))) (λ h3.
    let e : (2 ^ 8 - suc n) % 256 ≡ 0xff - n = omega arith in
    rw e (spells_small d (0xff - n) (negsuc n) (rows.negative_fixint n (omega arith)))))))

number_spelled : (d : ℕ) (z : ℤ) → IsNumber z → SpellsWithin d (number z) (shortest_number z)
number_spelled d (pos n) fits = positive_spelled d n (grind (arith, ints))
number_spelled d (negsuc n) fits = negative_spelled d n (grind (arith, ints))

-- ---- heads

record IsHead (first_for : Count → First) (n : ℕ) (text : List ℕ) : Type 0 where
  first : ℕ
  kind : Count
  count : List ℕ
  row : Row first (first_for kind)
  counts : Counts kind n count
  parts : text ≡ first ∷ count

head_spelled : (first_for : Count → First) (first small two four n : ℕ) → ((m : ℕ) → m < small → Row (first + m) (first_for (given m)))
    → Row two (first_for (behind w16)) → Row four (first_for (behind w32)) → n < 2 ^ 32
    → IsHead first_for n (shortest_count first small two four n)
unfolding shortest_count
head_spelled first_for first small two four n fixed row2 row4 fits =
    below_or_not (IsHead first_for n) n small _ _ (λ lt. record
    { first = first + n; kind = given n; count = []; row = fixed n lt; counts = (refl, refl); parts = refl }) (λ h0.
    below_or_not (IsHead first_for n) n (2 ^ 16) _ _ (λ lt. record
    { first = two; kind = behind w16; count = to_be_bytes w16 n; row = row2; counts = (sym (again16 n lt), refl); parts = refl }) (λ h1.
    record { first = four; kind = behind w32; count = to_be_bytes w32 n; row = row4; counts = (sym (again32 n fits), refl); parts = refl }))

raw_spelled : (content : List ℕ) → length content < 2 ^ 32 → SpellsRaw content (shortest_raw content)
raw_spelled content fits =
    let head = head_spelled raw_value 0xa0 0x20 0xda 0xdb (length content) rows.fixstr rows.str16 rows.str32 fits in
    subst (SpellsRaw content) (sym (ap (λ (s : List ℕ). s ++ content) head.parts)) (spells_raw head.first head.kind head.count content head.row head.counts)

-- ---- the order of keys

-- each of these keys is below this key
abbrev Under : List ℕ → Pairs → Type 0
Under k no_pairs = Unit {0}
Under k (pair l t ps) = (slice_cmp nat_cmp l k ≡ Less) × Under k ps

-- these pairs, and then those
abbrev append_pairs : Pairs → Pairs → Pairs
append_pairs no_pairs qs = qs
append_pairs (pair k t ps) qs = pair k t (append_pairs ps qs)

append_pairs-none : (ps : Pairs) → append_pairs ps no_pairs ≡ ps
append_pairs-none no_pairs = refl
append_pairs-none (pair k t ps) = ap (pair k t) (append_pairs-none ps)

append_pairs-assoc : (ps : Pairs) (k : List ℕ) (t : Tree) (qs : Pairs) → append_pairs (append_pairs ps (pair k t no_pairs)) qs ≡ append_pairs ps (pair k t qs)
append_pairs-assoc no_pairs k t qs = refl
append_pairs-assoc (pair l u ps) k t qs = ap (pair l u) (append_pairs-assoc ps k t qs)

above_is : (k l : List ℕ) → slice_cmp nat_cmp l k ≡ Less → slice_cmp nat_cmp k l ≡ Greater
above_is k l below = nat_list_cmp_total.antisymm k l ∙ ap ordering_reverse below

put_last : (k : List ℕ) (t : Tree) (ps : Pairs) → Under k ps → put k t ps ≡ append_pairs ps (pair k t no_pairs)
put_last k t no_pairs under = refl
put_last k t (pair l u ps) under = rw (above_is k l under.0) (ap (pair l u) (put_last k t ps under.1))

no_key : (k : List ℕ) (ps : Pairs) → Under k ps → has_key k ps ≡ false
no_key k no_pairs under = refl
no_key k (pair l u ps) under = rw (above_is k l under.0) (no_key k ps under.1)

Under-next : (k l : List ℕ) (t : Tree) (ps : Pairs) → Under k ps → slice_cmp nat_cmp k l ≡ Less → Under l (append_pairs ps (pair k t no_pairs))
Under-next k l t no_pairs under below = (below, tt)
Under-next k l t (pair m u ps) under below = (nat_list_cmp_total.trans m k l under.0 below, Under-next k l t ps under.1 below)

-- each of these keys is below the first key of those
abbrev UnderAll : Pairs → Pairs → Type 0
UnderAll no_pairs before = Unit {0}
UnderAll (pair k t ps) before = Under k before

under_none : (ps : Pairs) → UnderAll ps no_pairs
under_none no_pairs = tt
under_none (pair k t ps) = tt

UnderAll-next : (k : List ℕ) (t : Tree) (ps before : Pairs) → Under k before → IsBelow k ps → UnderAll ps (append_pairs before (pair k t no_pairs))
UnderAll-next k t no_pairs before under below = tt
UnderAll-next k t (pair l u ps) before under below = Under-next k l t before under below

-- ---- values

mutual
  value_spelled : (d : ℕ) (t : Tree) → depth t ≤ d → Fits t → SpellsWithin d t (shortest t)
  value_spelled d nil deep fits = spells_nil d 0xc0 rows.nil
  value_spelled d (flag false) deep fits = spells_flag d 0xc2 false rows.is_false
  value_spelled d (flag true) deep fits = spells_flag d 0xc3 true rows.is_true
  value_spelled d (number z) deep fits = number_spelled d z fits
  value_spelled d (raw content) deep fits = spells_bytes d content (shortest_raw content) (raw_spelled content fits)
  value_spelled zero (array items) deep fits = absurd (omega arith)
  value_spelled (suc d) (array items) deep fits =
      let head = head_spelled array_value 0x90 0x10 0xdc 0xdd (items_count items) rows.fixarray rows.array16 rows.array32 fits.0 in
      subst (SpellsWithin (suc d) (array items)) (sym (ap (λ (s : List ℕ). s ++ shortest_items items) head.parts))
      (spells_array d head.first head.kind items head.count (shortest_items items) head.row head.counts (items_spelled d items (omega arith) fits.1))
  value_spelled zero (table pairs) deep fits = absurd (omega arith)
  value_spelled (suc d) (table pairs) deep fits =
      let head = head_spelled map_value 0x80 0x10 0xde 0xdf (pairs_count pairs) rows.fixmap rows.map16 rows.map32 fits.0 in
      subst (SpellsWithin (suc d) (table pairs)) (sym (ap (λ (s : List ℕ). s ++ shortest_pairs pairs) head.parts))
      (spells_map d head.first head.kind (pairs_count pairs) pairs head.count (shortest_pairs pairs) head.row head.counts
      (pairs_spelled d no_pairs pairs (omega arith) fits.2 fits.1 (under_none pairs)))

  items_spelled : (d : ℕ) (items : Items) → items_depth items ≤ d → ItemsFit items → SpellsItems d items (shortest_items items)
  items_spelled d no_items deep fits = spells_no_items d
  items_spelled d (item t ts) deep fits =
      spells_item d t ts (shortest t) (shortest_items ts) (value_spelled d t (omega arith) fits.0) (items_spelled d ts (omega arith) fits.1)

  pairs_spelled : (d : ℕ) (before pairs : Pairs) → pairs_depth pairs ≤ d → PairsFit pairs → IsIncreasing pairs → UnderAll pairs before
      → SpellsPairs d (pairs_count pairs) before (append_pairs before pairs) (shortest_pairs pairs)
  pairs_spelled d before no_pairs deep fits order under = rw (append_pairs-none before) (spells_no_pairs d before)
  pairs_spelled d before (pair k t ps) deep fits order under =
      let next : Pairs = append_pairs before (pair k t no_pairs) in
      let others = pairs_spelled d next ps (omega arith) fits.2 order.1 (UnderAll-next k t ps before under order.0) in
      let moved : SpellsPairs d (pairs_count ps) (put k t before) (append_pairs before (pair k t ps)) (shortest_pairs ps) =
      rw (put_last k t before under, ← append_pairs-assoc before k t ps) others in
      rw add-one (spells_pair d (pairs_count ps) before (append_pairs before (pair k t ps)) k t (shortest_raw k) (shortest t) (shortest_pairs ps)
      (raw_spelled k fits.0) (no_key k before under) (value_spelled d t (omega arith) fits.1) moved)

pub shortest_spelled : (t : Tree) → IsWritable t → Spells t (shortest t)
shortest_spelled t writable = value_spelled 64 t writable.depth_fits writable.fits
