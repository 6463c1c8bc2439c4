-- Which values can be written, as a test that computes.
use Rattle.std.specs.Prelude.{ℕ, ◌-◌, ◌^◌, List, length, Bool, true, ◌&&◌, nat_lt, ℤ, pos, neg_ℤ, int_lt, int_le}
use Rattle.std.specs.Ordering.{nat_cmp, is_lt}
use Rattle.std.specs.Cmp.Lexicographic.{slice_cmp}
use Rattle.ferry_msgpack.specs.Tree.{Tree, nil, flag, number, raw, array, table, Items, no_items, item, items_count, Pairs, no_pairs, pair, pairs_count}

abbrev pub number_fits : ℤ → Bool
number_fits z = int_le (neg_ℤ (pos (2 ^ 63))) z && int_lt z (pos (2 ^ 64))

abbrev pub is_below : List ℕ → Pairs → Bool
is_below k no_pairs = true
is_below k (pair l t ps) = is_lt (slice_cmp nat_cmp k l)

abbrev pub keys_increase : Pairs → Bool
keys_increase no_pairs = true
keys_increase (pair k t ps) = is_below k ps && keys_increase ps

-- the value fits, and at most so many arrays and maps stand inside each other
abbrev mutual
  pub fits_within : ℕ → Tree → Bool
  fits_within d nil = true
  fits_within d (flag b) = true
  fits_within d (number z) = number_fits z
  fits_within d (raw content) = nat_lt (length content) (2 ^ 32)
  fits_within d (array items) = nat_lt 0 d && (nat_lt (items_count items) (2 ^ 32) && items_fit (d - 1) items)
  fits_within d (table pairs) = nat_lt 0 d && (nat_lt (pairs_count pairs) (2 ^ 32) && (keys_increase pairs && pairs_fit (d - 1) pairs))

  pub items_fit : ℕ → Items → Bool
  items_fit d no_items = true
  items_fit d (item t ts) = fits_within d t && items_fit d ts

  pub pairs_fit : ℕ → Pairs → Bool
  pairs_fit d no_pairs = true
  pairs_fit d (pair k t ps) = nat_lt (length k) (2 ^ 32) && (fits_within d t && pairs_fit d ps)
