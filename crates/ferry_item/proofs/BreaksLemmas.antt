-- A rule other than Short that is broken stays so with more bytes behind.
use Rattle.std.proofs.Common.{◌≢◌, ℕ, suc, List, ◌∷◌, ◌++◌, refl, sym, ap, subst, ◌∙◌, append_assoc}
use Rattle.ferry_msgpack.specs.declared.fault.PackFault.{PackFault}
use Rattle.ferry_msgpack.specs.declared.fault.PackFault.TheVariants.{Short}
use Rattle.ferry_msgpack.specs.Tree.{Pairs, no_pairs, put}
use Rattle.ferry_msgpack.specs.Faults.{BreaksKey, key_missing, key_refused, key_not_raw, key_ends, BreaksWithin, value_missing, value_refused, unsigned_ends}
use Rattle.ferry_msgpack.specs.Faults.{signed_ends, raw_ends, array_too_deep, map_too_deep, array_ends, map_ends, in_array, in_map, BreaksItems, in_first_item}
use Rattle.ferry_msgpack.specs.Faults.{in_later_item, BreaksPairs, in_key, key_stands_before, in_value, in_later_pair, Breaks}

key_more : (bytes more : List ℕ) (f : PackFault) → BreaksKey bytes f → f ≢ Short → BreaksKey (bytes ++ more) f
key_more bytes more f key_missing other = absurd (other refl)
key_more bytes more f (key_refused b rest row) other = key_refused b (rest ++ more) row
key_more bytes more f (key_not_raw b first rest row is) other = key_not_raw b first (rest ++ more) row is
key_more bytes more f (key_ends b c rest row ends) other = absurd (other refl)

mutual
  value_more : (d : ℕ) (bytes more : List ℕ) (f : PackFault) → BreaksWithin d bytes f → f ≢ Short → BreaksWithin d (bytes ++ more) f
  value_more d bytes more f (value_missing _) other = absurd (other refl)
  value_more d bytes more f (value_refused _ b rest row) other = value_refused d b (rest ++ more) row
  value_more d bytes more f (unsigned_ends _ b w rest row lt) other = absurd (other refl)
  value_more d bytes more f (signed_ends _ b w rest row lt) other = absurd (other refl)
  value_more d bytes more f (raw_ends _ b c rest row ends) other = absurd (other refl)
  value_more d bytes more f (array_too_deep b c rest row) other = array_too_deep b c (rest ++ more) row
  value_more d bytes more f (map_too_deep b c rest row) other = map_too_deep b c (rest ++ more) row
  value_more d bytes more f (array_ends inner b c rest row ends) other = absurd (other refl)
  value_more d bytes more f (map_ends inner b c rest row ends) other = absurd (other refl)
  value_more d bytes more f (in_array inner b c n count rest _ row counts broken) other =
      subst (λ (s : List ℕ). BreaksWithin (suc inner) (b ∷ s) f) (sym (append_assoc count rest more))
      (in_array inner b c n count (rest ++ more) f row counts (items_more inner n rest more f broken other))
  value_more d bytes more f (in_map inner b c n count rest _ row counts broken) other =
      subst (λ (s : List ℕ). BreaksWithin (suc inner) (b ∷ s) f) (sym (append_assoc count rest more))
      (in_map inner b c n count (rest ++ more) f row counts (pairs_more inner n no_pairs rest more f broken other))

  items_more : (d n : ℕ) (bytes more : List ℕ) (f : PackFault) → BreaksItems d n bytes f → f ≢ Short → BreaksItems d n (bytes ++ more) f
  items_more d n bytes more f (in_first_item _ m _ _ broken) other = in_first_item d m (bytes ++ more) f (value_more d bytes more f broken other)
  items_more d n bytes more f (in_later_item _ m t front rest _ spelled broken) other =
      subst (λ (s : List ℕ). BreaksItems d (suc m) s f) (sym (append_assoc front rest more))
      (in_later_item d m t front (rest ++ more) f spelled (items_more d m rest more f broken other))

  pairs_more : (d n : ℕ) (before : Pairs) (bytes more : List ℕ) (f : PackFault) → BreaksPairs d n before bytes f → f ≢ Short
      → BreaksPairs d n before (bytes ++ more) f
  pairs_more d n before bytes more f (in_key _ m _ _ _ broken) other = in_key d m before (bytes ++ more) f (key_more bytes more f broken other)
  pairs_more d n before bytes more f (key_stands_before _ m _ key front rest named again) other =
      subst (λ (s : List ℕ). BreaksPairs d (suc m) before s f) (sym (append_assoc front rest more))
      (key_stands_before d m before key front (rest ++ more) named again)
  pairs_more d n before bytes more f (in_value _ m _ key front rest _ named new broken) other =
      subst (λ (s : List ℕ). BreaksPairs d (suc m) before s f) (sym (append_assoc front rest more))
      (in_value d m before key front (rest ++ more) f named new (value_more d rest more f broken other))
  pairs_more d n before bytes more f (in_later_pair _ m _ key t front middle rest _ named new spelled broken) other =
      subst (λ (s : List ℕ). BreaksPairs d (suc m) before s f)
      (sym (append_assoc front (middle ++ rest) more ∙ ap (λ (s : List ℕ). front ++ s) (append_assoc middle rest more)))
      (in_later_pair d m before key t front middle (rest ++ more) f named new spelled (pairs_more d m (put key t before) rest more f broken other))

-- a rule other than Short stays broken
pub broken_more : (bytes more : List ℕ) (f : PackFault) → Breaks bytes f → f ≢ Short → Breaks (bytes ++ more) f
broken_more bytes more f broken other = value_more 64 bytes more f broken other
