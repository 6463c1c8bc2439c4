-- Which pairs can be written.
use Rattle.std.proofs.Common.{cond, ltb, Bool, ◌≡◌, ℕ, ◌+◌, ◌^◌, ◌<◌, ◌≤◌, true, false, List, ◌++◌, length, ℤ, pos, Ordering, Less, Equal, Greater, nat_cmp}
use Rattle.std.proofs.Common.{arith}
use Rattle.std.specs.Ordering.{match_ordering}
use Rattle.std.specs.Cmp.Lexicographic.{slice_cmp}
use Rattle.std.specs.Prelude.{neg_ℤ, int_lt}
use Rattle.std.proofs.lemmas.Int.{ints}
use Rattle.std.proofs.lemmas.List.{length-append}
use Rattle.ferry_msgpack.specs.Shortest.{shortest, shortest_count, shortest_number, shortest_items, shortest_pairs, shortest_raw, raw_head, array_head}
use Rattle.ferry_msgpack.specs.Shortest.{map_head}
use Rattle.ferry_msgpack.specs.Tree.{Tree, nil, flag, number, raw, array, table, Items, no_items, item, items_count, Pairs, no_pairs, pair, pairs_count, put}
use Rattle.ferry_msgpack.specs.Writable.{depth, pairs_depth, IsIncreasing, IsNumber, Fits, ItemsFit, PairsFit, IsWritable}
use Rattle.ferry_fields.specs.Sizes.{IsOrdered, ItemsOrdered, PairsOrdered}
use Rattle.ferry_fields.proofs.PutLemmas.{IsIncreasing-put}

-- ---- pairs in order

-- pairs in order, in whose values at most so many arrays and maps stand inside each other
pub record AreOrdered (d : ℕ) (pairs : Pairs) : Type 0 where
  pub deep : pairs_depth pairs ≤ d
  pub increase : IsIncreasing pairs
  pub ordered : PairsOrdered pairs

pub no_pairs_ordered : (d : ℕ) → AreOrdered d no_pairs
no_pairs_ordered d = record { deep = omega arith; increase = tt; ordered = tt }

depth_at_order : (d : ℕ) (k : List ℕ) (t : Tree) (l : List ℕ) (u : Tree) (ps : Pairs) (o : Ordering) → depth t ≤ d → pairs_depth (pair l u ps) ≤ d
    → pairs_depth (put k t ps) ≤ d
    → pairs_depth (match_ordering o (pair k t (pair l u ps)) (pair l t ps) (pair l u (put k t ps))) ≤ d
depth_at_order d k t l u ps Less deep old rest = omega arith
depth_at_order d k t l u ps Equal deep old rest = omega arith
depth_at_order d k t l u ps Greater deep old rest = omega arith

pub pairs_depth-put : (d : ℕ) (k : List ℕ) (t : Tree) (ps : Pairs) → depth t ≤ d → pairs_depth ps ≤ d → pairs_depth (put k t ps) ≤ d
pairs_depth-put d k t no_pairs deep old = omega arith
pairs_depth-put d k t (pair l u ps) deep old = depth_at_order d k t l u ps (slice_cmp nat_cmp k l) deep old (pairs_depth-put d k t ps deep (omega arith))

ordered_at_order : (k : List ℕ) (t : Tree) (l : List ℕ) (u : Tree) (ps : Pairs) (o : Ordering) → IsOrdered t → PairsOrdered (pair l u ps)
    → PairsOrdered (put k t ps)
    → PairsOrdered (match_ordering o (pair k t (pair l u ps)) (pair l t ps) (pair l u (put k t ps)))
ordered_at_order k t l u ps Less new old rest = (new, old)
ordered_at_order k t l u ps Equal new old rest = (new, old.1)
ordered_at_order k t l u ps Greater new old rest = (old.0, rest)

pub PairsOrdered-put : (k : List ℕ) (t : Tree) (ps : Pairs) → IsOrdered t → PairsOrdered ps → PairsOrdered (put k t ps)
PairsOrdered-put k t no_pairs new old = (new, tt)
PairsOrdered-put k t (pair l u ps) new old = ordered_at_order k t l u ps (slice_cmp nat_cmp k l) new old (PairsOrdered-put k t ps new old.1)

-- another pair put to them
pub put_ordered : (d : ℕ) (k : List ℕ) (t : Tree) (ps : Pairs) → depth t ≤ d → IsOrdered t → AreOrdered d ps → AreOrdered d (put k t ps)
put_ordered d k t ps deep new old =
    record { deep = pairs_depth-put d k t ps deep old.deep; increase = IsIncreasing-put k t ps old.increase; ordered = PairsOrdered-put k t ps new old.ordered }

-- ---- pairs with their lengths

-- pairs that can be written, apart from how many they are
pub record AreGood (pairs : Pairs) : Type 0 where
  pub deep : pairs_depth pairs ≤ 63
  pub increase : IsIncreasing pairs
  pub fit : PairsFit pairs

pub no_pairs_good : AreGood no_pairs
no_pairs_good = record { deep = omega arith; increase = tt; fit = tt }

fit_at_order : (k : List ℕ) (t : Tree) (l : List ℕ) (u : Tree) (ps : Pairs) (o : Ordering) → length k < 2 ^ 32 → Fits t → PairsFit (pair l u ps)
    → PairsFit (put k t ps)
    → PairsFit (match_ordering o (pair k t (pair l u ps)) (pair l t ps) (pair l u (put k t ps)))
fit_at_order k t l u ps Less len fits old rest = (len, fits, old)
fit_at_order k t l u ps Equal len fits old rest = (old.0, fits, old.2)
fit_at_order k t l u ps Greater len fits old rest = (old.0, old.1, rest)

pub PairsFit-put : (k : List ℕ) (t : Tree) (ps : Pairs) → length k < 2 ^ 32 → Fits t → PairsFit ps → PairsFit (put k t ps)
PairsFit-put k t no_pairs len fits old = (len, fits, tt)
PairsFit-put k t (pair l u ps) len fits old = fit_at_order k t l u ps (slice_cmp nat_cmp k l) len fits old (PairsFit-put k t ps len fits old.2)

-- another pair put to them
pub put_good : (k : List ℕ) (t : Tree) (ps : Pairs) → length k < 2 ^ 32 → depth t ≤ 63 → Fits t → AreGood ps → AreGood (put k t ps)
put_good k t ps len deep fits old =
    record { deep = pairs_depth-put 63 k t ps deep old.deep; increase = IsIncreasing-put k t ps old.increase; fit = PairsFit-put k t ps len fits old.fit }

pub good_writable : (ps : Pairs) → AreGood ps → pairs_count ps < 2 ^ 32 → IsWritable (table ps)
good_writable ps good count = record { depth_fits = omega (arith, good.deep); fits = (count, good.increase, good.fit) }

pub writable_good : (ps : Pairs) → IsWritable (table ps) → AreGood ps
writable_good ps writable = let fits = writable.fits in let deep = writable.depth_fits in record { deep = omega (arith, deep); increase = fits.1; fit = fits.2 }

pub small_number : (n : ℕ) → n < 2 ^ 64 → IsNumber (pos n)
small_number n lt = (grind (arith, ints), grind (arith, ints))

-- ---- what can be written is in order

mutual
  pub fits_ordered : (t : Tree) → Fits t → IsOrdered t
  fits_ordered nil fits = tt
  fits_ordered (flag b) fits = tt
  fits_ordered (number z) fits = fits
  fits_ordered (raw content) fits = tt
  fits_ordered (array items) fits = items_fit_ordered items fits.1
  fits_ordered (table pairs) fits = (fits.1, pairs_fit_ordered pairs fits.2)

  pub items_fit_ordered : (items : Items) → ItemsFit items → ItemsOrdered items
  items_fit_ordered no_items fits = tt
  items_fit_ordered (item t ts) fits = (fits_ordered t fits.0, items_fit_ordered ts fits.1)

  pub pairs_fit_ordered : (pairs : Pairs) → PairsFit pairs → PairsOrdered pairs
  pairs_fit_ordered no_pairs fits = tt
  pairs_fit_ordered (pair k t ps) fits = (fits_ordered t fits.1, pairs_fit_ordered ps fits.2)

pub writable_ordered : (t : Tree) → IsWritable t → IsOrdered t
writable_ordered t writable = fits_ordered t writable.fits

pub writable_pairs_ordered : (ps : Pairs) → IsWritable (table ps) → AreOrdered 63 ps
writable_pairs_ordered ps writable =
    let good = writable_good ps writable in
    record { deep = good.deep; increase = good.increase; ordered = pairs_fit_ordered ps good.fit }

-- ---- no length is above that of the spelling

either : (b : Bool) (x y : List ℕ) → 1 ≤ length x → 1 ≤ length y → 1 ≤ length (cond b x y)
either true x y first second = first
either false x y first second = second

some_number : (z : ℤ) → 1 ≤ length (shortest_number z)
unfolding shortest_number
some_number z =
    either (int_lt z (neg_ℤ (pos 0x80000000))) _ _ (omega arith) (either (int_lt z (neg_ℤ (pos 0x8000))) _ _ (omega arith)
    (either (int_lt z (neg_ℤ (pos 0x80))) _ _ (omega arith) (either (int_lt z (neg_ℤ (pos 0x20))) _ _ (omega arith)
    (either (int_lt z (pos 0x80)) _ _ (omega arith) (either (int_lt z (pos 0x100)) _ _ (omega arith)
    (either (int_lt z (pos 0x10000)) _ _ (omega arith) (either (int_lt z (pos 0x100000000)) _ _ (omega arith) (omega arith))))))))

some_count : (first small two four n : ℕ) → 1 ≤ length (shortest_count first small two four n)
unfolding shortest_count
some_count first small two four n = either (ltb n small) _ _ (omega arith) (either (ltb n (2 ^ 16)) _ _ (omega arith) (omega arith))

-- each value has a byte
pub some_byte : (t : Tree) → 1 ≤ length (shortest t)
some_byte nil = omega arith
some_byte (flag false) = omega arith
some_byte (flag true) = omega arith
some_byte (number z) = some_number z
some_byte (raw content) = omega (arith, some_count 0xa0 0x20 0xda 0xdb (length content), length-append (raw_head (length content)) content)
some_byte (array items) =
    omega (arith, some_count 0x90 0x10 0xdc 0xdd (items_count items), length-append (array_head (items_count items)) (shortest_items items))
some_byte (table pairs) = omega (arith, some_count 0x80 0x10 0xde 0xdf (pairs_count pairs), length-append (map_head (pairs_count pairs)) (shortest_pairs pairs))

length-item : (t : Tree) (ts : Items) → length (shortest_items (item t ts)) ≡ length (shortest t) + length (shortest_items ts)
length-item t ts = length-append (shortest t) (shortest_items ts)

length-pair : (k : List ℕ) (t : Tree) (ps : Pairs) → length (shortest_pairs (pair k t ps)) ≡ length (raw_head (length k)) + length k + (length (shortest t)
    + length (shortest_pairs ps))
length-pair k t ps =
    omega (
      arith,
      length-append (shortest_raw k) (shortest t ++ shortest_pairs ps),
      length-append (raw_head (length k)) k,
      length-append (shortest t)
          (shortest_pairs ps),
    )

length-array : (items : Items) → length (shortest (array items)) ≡ length (array_head (items_count items)) + length (shortest_items items)
length-array items = length-append (array_head (items_count items)) (shortest_items items)

length-table : (ps : Pairs) → length (shortest (table ps)) ≡ length (map_head (pairs_count ps)) + length (shortest_pairs ps)
length-table ps = length-append (map_head (pairs_count ps)) (shortest_pairs ps)

items_below : (items : Items) → items_count items ≤ length (shortest_items items)
items_below no_items = omega arith
items_below (item t ts) = let rest = items_below ts in omega (arith, some_byte t, length-item t ts, rest)

pub pairs_below : (ps : Pairs) → pairs_count ps ≤ length (shortest_pairs ps)
pairs_below no_pairs = omega arith
pairs_below (pair k t ps) = let rest = pairs_below ps in omega (arith, some_byte t, length-pair k t ps, rest)

mutual
  short_fits : (t : Tree) → IsOrdered t → length (shortest t) < 2 ^ 32 → Fits t
  short_fits nil ordered short = tt
  short_fits (flag b) ordered short = tt
  short_fits (number z) ordered short = ordered
  short_fits (raw content) ordered short = omega (arith, short, length-append (raw_head (length content)) content)
  short_fits (array items) ordered short =
      (omega (arith, short, length-array items, items_below items), short_items_fit items ordered (omega (arith, short, length-array items)))
  short_fits (table pairs) ordered short =
      (omega (arith, short, length-table pairs, pairs_below pairs), ordered.0, short_pairs_fit pairs ordered.1 (omega (arith, short, length-table pairs)))

  short_items_fit : (items : Items) → ItemsOrdered items → length (shortest_items items) < 2 ^ 32 → ItemsFit items
  short_items_fit no_items ordered short = tt
  short_items_fit (item t ts) ordered short =
      (short_fits t ordered.0 (omega (arith, short, length-item t ts)), short_items_fit ts ordered.1 (omega (arith, short, length-item t ts)))

  short_pairs_fit : (pairs : Pairs) → PairsOrdered pairs → length (shortest_pairs pairs) < 2 ^ 32 → PairsFit pairs
  short_pairs_fit no_pairs ordered short = tt
  short_pairs_fit (pair k t ps) ordered short = (
    omega (arith, short, length-pair k t ps),
    short_fits t ordered.0 (omega (arith, short, length-pair k t ps)),
    short_pairs_fit ps ordered.1
        (omega (arith, short, length-pair k t ps)),
  )

-- a value in order can be written where its spelling is short enough for every length in it
pub short_writable : (t : Tree) → depth t ≤ 64 → IsOrdered t → length (shortest t) < 2 ^ 32 → IsWritable t
short_writable t deep ordered short = record { depth_fits = deep; fits = short_fits t ordered short }

-- the same of a map of pairs in order
pub ordered_writable : (ps : Pairs) → AreOrdered 63 ps → length (shortest (table ps)) < 2 ^ 32 → IsWritable (table ps)
ordered_writable ps ordered short = let deep = ordered.deep in short_writable (table ps) (omega (arith, deep)) (ordered.increase, ordered.ordered) short
