-- Values: what is read is spelled so, what is spelled so is read, and each fault is the first broken rule.
use Rattle.std.proofs.Common.{◌≡◌, ℕ, zero, suc, ◌+◌, Bool, true, false, cond, List, [], ◌∷◌, ◌++◌, ℤ, pos, Result, Ok, Err, refl, sym, ap, subst, ◌∙◌}
use Rattle.std.proofs.Common.{append_assoc, add-one, arith}
use Rattle.std.specs.Int.{Width, cast_signed}
use Rattle.ferry_msgpack.specs.declared.fault.PackFault.{PackFault}
use Rattle.ferry_msgpack.specs.declared.fault.PackFault.TheVariants.{Short, Repeat, Deep}
use Rattle.ferry_msgpack.specs.Tree.{Tree, number, raw, array, table, Items, item, items_count, Pairs, no_pairs, has_key, put}
use Rattle.ferry_msgpack.specs.First.{Count, First, no_value, nil_value, flag_value, small_number, unsigned_number, signed_number, raw_value, array_value}
use Rattle.ferry_msgpack.specs.First.{map_value, Row}
use Rattle.ferry_msgpack.specs.Spelling.{Counts, SpellsRaw, spells_raw, SpellsWithin, spells_nil, spells_flag, spells_small, spells_unsigned, spells_signed}
use Rattle.ferry_msgpack.specs.Spelling.{spells_bytes, spells_array, spells_map, SpellsItems, spells_no_items, spells_item, SpellsPairs, spells_no_pairs}
use Rattle.ferry_msgpack.specs.Spelling.{spells_pair}
use Rattle.ferry_msgpack.specs.Faults.{BreaksWithin, value_missing, value_refused, unsigned_ends, signed_ends, raw_ends, array_too_deep, map_too_deep}
use Rattle.ferry_msgpack.specs.Faults.{array_ends, map_ends, in_array, in_map, BreaksItems, in_first_item, in_later_item, BreaksPairs, in_key}
use Rattle.ferry_msgpack.specs.Faults.{key_stands_before, in_value, in_later_pair}
use Rattle.ferry_msgpack.specs.Reading.{◌>>=◌, first_of, number_at, signed_at, count_at, raw_at, key_at, Reader, items_at, pairs_at, array_at, table_at}
use Rattle.ferry_msgpack.specs.Reading.{value_by, flat_by, value_at}
use Rattle.ferry_msgpack.proofs.FirstLemmas.{first_of-Row, Row-first_of}
use Rattle.ferry_msgpack.proofs.FieldLemmas.{TellsNumber, number_tells, number_again, number_short, TellsCount, count_tells, count_again, count_short, TellsRaw}
use Rattle.ferry_msgpack.proofs.FieldLemmas.{raw_tells, raw_again, raw_short, TellsKey, key_tells, key_again, key_breaks}

-- ---- what is read, or the first broken rule

-- a value that was read, and what follows it; or the first broken rule
abbrev pub Tells : ℕ → List ℕ → Result (Tree × List ℕ) PackFault → Type 0
Tells d bytes (Ok x) = (front : List ℕ) × (bytes ≡ front ++ x.1) × SpellsWithin d x.0 front
Tells d bytes (Err f) = BreaksWithin d bytes f

abbrev pub TellsItems : ℕ → ℕ → List ℕ → Result (Items × List ℕ) PackFault → Type 0
TellsItems d n bytes (Ok x) = (front : List ℕ) × (bytes ≡ front ++ x.1) × SpellsItems d x.0 front × (n ≡ items_count x.0)
TellsItems d n bytes (Err f) = BreaksItems d n bytes f

abbrev pub TellsPairs : ℕ → ℕ → Pairs → List ℕ → Result (Pairs × List ℕ) PackFault → Type 0
TellsPairs d n before bytes (Ok x) = (front : List ℕ) × (bytes ≡ front ++ x.1) × SpellsPairs d n before x.0 front
TellsPairs d n before bytes (Err f) = BreaksPairs d n before bytes f

module _ (d : ℕ) (read : Reader) (inner : (bytes : List ℕ) → Tells d bytes (read bytes)) where
  item_then : (n : ℕ) (bytes : List ℕ) (t : Tree) (after front : List ℕ) → bytes ≡ front ++ after → SpellsWithin d t front
      → (r : Result (Items × List ℕ) PackFault) → TellsItems d n after r
      → TellsItems d (suc n) bytes (r >>= λ others. Ok (item t others.0, others.1))
  item_then n bytes t after front parts spelled (Ok x) told = (
    front ++ told.0,
    parts ∙ ap (λ (s : List ℕ). front ++ s) told.1
        ∙ sym (append_assoc front told.0 x.1),
    spells_item d t x.0 front told.0 spelled told.2,
    omega (arith, told.3),
  )
  item_then n bytes t after front parts spelled (Err f) told =
      subst (λ (s : List ℕ). BreaksItems d (suc n) s f) (sym parts) (in_later_item d n t front after f spelled told)

  item_from : (n : ℕ) (bytes : List ℕ) → ((after : List ℕ) → TellsItems d n after (items_at read n after)) → (r : Result (Tree × List ℕ) PackFault)
      → Tells d bytes r
      → TellsItems d (suc n) bytes (r >>= λ first. items_at read n first.1 >>= λ others. Ok (item first.0 others.0, others.1))
  item_from n bytes rest (Ok x) told = item_then n bytes x.0 x.1 told.0 told.1 told.2 (items_at read n x.1) (rest x.1)
  item_from n bytes rest (Err f) told = in_first_item d n bytes f told

  items_tells : (n : ℕ) (bytes : List ℕ) → TellsItems d n bytes (items_at read n bytes)
  unfolding items_at
  items_tells zero bytes = ([], refl, spells_no_items d, refl)
  items_tells (suc n) bytes = item_from n bytes (items_tells n) (read bytes) (inner bytes)

  pair_then : (n : ℕ) (before : Pairs) (bytes key : List ℕ) (t : Tree) (front middle after : List ℕ) → bytes ≡ front ++ (middle ++ after)
      → SpellsRaw key front → has_key key before ≡ false → SpellsWithin d t middle
      → (r : Result (Pairs × List ℕ) PackFault) → TellsPairs d n (put key t before) after r → TellsPairs d (suc n) before bytes r
  pair_then n before bytes key t front middle after parts named new spelled (Ok x) told = (
    front ++ (middle ++ told.0),
    parts ∙ ap (λ (s : List ℕ). front ++ (middle ++ s)) told.1 ∙ ap (λ (s : List ℕ). front ++ s) (sym (append_assoc middle told.0 x.1))
        ∙ sym (append_assoc front (middle ++ told.0) x.1),
    spells_pair d n before x.0 key t front middle told.0 named new spelled told.2,
  )
  pair_then n before bytes key t front middle after parts named new spelled (Err f) told =
      subst (λ (s : List ℕ). BreaksPairs d (suc n) before s f) (sym parts) (in_later_pair d n before key t front middle after f named new spelled told)

  value_of_pair : (n : ℕ) (before : Pairs) (bytes key front after : List ℕ) → bytes ≡ front ++ after → SpellsRaw key front → has_key key before ≡ false
      → ((t : Tree) (rest : List ℕ) → TellsPairs d n (put key t before) rest (pairs_at read n (put key t before) rest))
      → (r : Result (Tree × List ℕ) PackFault) → Tells d after r
      → TellsPairs d (suc n) before bytes (r >>= λ value. pairs_at read n (put key value.0 before) value.1)
  value_of_pair n before bytes key front after parts named new rest (Ok x) told =
      pair_then n before bytes key x.0 front told.0 x.1 (parts ∙ ap (λ (s : List ℕ). front ++ s) told.1) named new told.2
      (pairs_at read n (put key x.0 before) x.1) (rest x.0 x.1)
  value_of_pair n before bytes key front after parts named new rest (Err f) told =
      subst (λ (s : List ℕ). BreaksPairs d (suc n) before s f) (sym parts) (in_value d n before key front after f named new told)

  key_then : (n : ℕ) (before : Pairs) (bytes key front after : List ℕ) → bytes ≡ front ++ after → SpellsRaw key front
      → ((t : Tree) (rest : List ℕ) → TellsPairs d n (put key t before) rest (pairs_at read n (put key t before) rest))
      → (b : Bool) → has_key key before ≡ b → TellsPairs d (suc n) before bytes
      (cond b (Err Repeat) (read after >>= λ value. pairs_at read n (put key value.0 before) value.1))
  key_then n before bytes key front after parts named rest true again =
      subst (λ (s : List ℕ). BreaksPairs d (suc n) before s Repeat) (sym parts) (key_stands_before d n before key front after named again)
  key_then n before bytes key front after parts named rest false new =
      value_of_pair n before bytes key front after parts named new rest (read after) (inner after)

  pair_from : (n : ℕ) (before : Pairs) (bytes : List ℕ) → ((next : Pairs) (rest : List ℕ) → TellsPairs d n next rest (pairs_at read n next rest))
      → (r : Result (List ℕ × List ℕ) PackFault) → TellsKey bytes r
      → TellsPairs d (suc n) before bytes (r >>= λ key. cond (has_key key.0 before) (Err Repeat)
      (read key.1 >>= λ value. pairs_at read n (put key.0 value.0 before) value.1))
  pair_from n before bytes rest (Ok x) told = key_then n before bytes x.0 told.0 x.1 told.1 told.2 (λ t r. rest (put x.0 t before) r) (has_key x.0 before) refl
  pair_from n before bytes rest (Err f) told = in_key d n before bytes f told

  pairs_tells : (n : ℕ) (before : Pairs) (bytes : List ℕ) → TellsPairs d n before bytes (pairs_at read n before bytes)
  unfolding pairs_at
  pairs_tells zero before bytes = ([], refl, spells_no_pairs d before)
  pairs_tells (suc n) before bytes = pair_from n before bytes (pairs_tells n) (key_at bytes) (key_tells bytes)

  array_end : (b : ℕ) (c : Count) (bytes : List ℕ) (n : ℕ) (count after : List ℕ) → Row b (array_value c) → Counts c n count → bytes ≡ count ++ after
      → (r : Result (Items × List ℕ) PackFault) → TellsItems d n after r → Tells (suc d) (b ∷ bytes) (r >>= λ items. Ok (array items.0, items.1))
  array_end b c bytes n count after row counts parts (Ok x) told = (
    b ∷ (count ++ told.0),
    ap (λ (s : List ℕ). b ∷ s) (parts ∙ ap (λ (s : List ℕ). count ++ s) told.1 ∙ sym (append_assoc count told.0 x.1)),
    spells_array d b c x.0 count told.0 row (subst (λ (m : ℕ). Counts c m count) told.3 counts) told.2,
  )
  array_end b c bytes n count after row counts parts (Err f) told =
      subst (λ (s : List ℕ). BreaksWithin (suc d) (b ∷ s) f) (sym parts) (in_array d b c n count after f row counts told)

  array_from : (b : ℕ) (c : Count) (bytes : List ℕ) → Row b (array_value c) → (r : Result (ℕ × List ℕ) PackFault) → TellsCount c bytes r
      → Tells (suc d) (b ∷ bytes) (r >>= λ n. items_at read n.0 n.1 >>= λ items. Ok (array items.0, items.1))
  array_from b c bytes row (Ok x) told = array_end b c bytes x.0 told.0 x.1 row told.2 told.1 (items_at read x.0 x.1) (items_tells x.0 x.1)
  array_from b c bytes row (Err f) told = rw told.0 (array_ends d b c bytes row told.1)

  array_tells : (b : ℕ) (c : Count) (bytes : List ℕ) → Row b (array_value c) → Tells (suc d) (b ∷ bytes) (array_at read c bytes)
  unfolding array_at
  array_tells b c bytes row = array_from b c bytes row (count_at c bytes) (count_tells c bytes)

  table_end : (b : ℕ) (c : Count) (bytes : List ℕ) (n : ℕ) (count after : List ℕ) → Row b (map_value c) → Counts c n count → bytes ≡ count ++ after
      → (r : Result (Pairs × List ℕ) PackFault) → TellsPairs d n no_pairs after r → Tells (suc d) (b ∷ bytes) (r >>= λ pairs. Ok (table pairs.0, pairs.1))
  table_end b c bytes n count after row counts parts (Ok x) told = (
    b ∷ (count ++ told.0),
    ap (λ (s : List ℕ). b ∷ s) (parts ∙ ap (λ (s : List ℕ). count ++ s) told.1 ∙ sym (append_assoc count told.0 x.1)),
    spells_map d b c n x.0 count told.0 row counts told.2,
  )
  table_end b c bytes n count after row counts parts (Err f) told =
      subst (λ (s : List ℕ). BreaksWithin (suc d) (b ∷ s) f) (sym parts) (in_map d b c n count after f row counts told)

  table_from : (b : ℕ) (c : Count) (bytes : List ℕ) → Row b (map_value c) → (r : Result (ℕ × List ℕ) PackFault) → TellsCount c bytes r
      → Tells (suc d) (b ∷ bytes) (r >>= λ n. pairs_at read n.0 no_pairs n.1 >>= λ pairs. Ok (table pairs.0, pairs.1))
  table_from b c bytes row (Ok x) told = table_end b c bytes x.0 told.0 x.1 row told.2 told.1 (pairs_at read x.0 no_pairs x.1) (pairs_tells x.0 no_pairs x.1)
  table_from b c bytes row (Err f) told = rw told.0 (map_ends d b c bytes row told.1)

  table_tells : (b : ℕ) (c : Count) (bytes : List ℕ) → Row b (map_value c) → Tells (suc d) (b ∷ bytes) (table_at read c bytes)
  unfolding table_at
  table_tells b c bytes row = table_from b c bytes row (count_at c bytes) (count_tells c bytes)

unsigned_tells : (d b : ℕ) (w : Width) (bytes : List ℕ) → Row b (unsigned_number w) → (r : Result (ℕ × List ℕ) PackFault) → TellsNumber w bytes r
    → Tells d (b ∷ bytes) (r >>= λ n. Ok (number (pos n.0), n.1))
unsigned_tells d b w bytes row (Ok x) told = (
  b ∷ told.0,
  ap (λ (s : List ℕ). b ∷ s) told.1,
  subst (λ (n : ℕ). SpellsWithin d (number (pos n)) (b ∷ told.0)) (sym told.2)
      (spells_unsigned d b w told.0 row told.3),
)
unsigned_tells d b w bytes row (Err f) told = rw told.0 (unsigned_ends d b w bytes row told.1)

abbrev as_signed : Width → ℕ × List ℕ → Result (ℤ × List ℕ) PackFault
as_signed w n = Ok (cast_signed w n.0, n.1)

signed_tells : (d b : ℕ) (w : Width) (bytes : List ℕ) → Row b (signed_number w) → (r : Result (ℕ × List ℕ) PackFault) → TellsNumber w bytes r
    → Tells d (b ∷ bytes) ((r >>= as_signed w) >>= λ n. Ok (number n.0, n.1))
signed_tells d b w bytes row (Ok x) told = (
  b ∷ told.0,
  ap (λ (s : List ℕ). b ∷ s) told.1,
  subst (λ (n : ℕ). SpellsWithin d (number (cast_signed w n)) (b ∷ told.0)) (sym told.2)
      (spells_signed d b w told.0 row told.3),
)
signed_tells d b w bytes row (Err f) told = rw told.0 (signed_ends d b w bytes row told.1)

bytes_tell : (d b : ℕ) (c : Count) (bytes : List ℕ) → Row b (raw_value c) → (r : Result (List ℕ × List ℕ) PackFault) → TellsRaw c bytes r
    → Tells d (b ∷ bytes) (r >>= λ content. Ok (raw content.0, content.1))
bytes_tell d b c bytes row (Ok x) told = (
  b ∷ (told.0 ++ x.0),
  ap (λ (s : List ℕ). b ∷ s) (told.1 ∙ sym (append_assoc told.0 x.0 x.1)),
  spells_bytes d x.0 (b ∷ (told.0 ++ x.0)) (spells_raw b c told.0 x.0 row told.2),
)
bytes_tell d b c bytes row (Err f) told = rw told.0 (raw_ends d b c bytes row told.1)

by_first : (d b : ℕ) (bytes : List ℕ) (arrays maps : Count → Reader) → ((c : Count) → Row b (array_value c) → Tells d (b ∷ bytes) (arrays c bytes))
    → ((c : Count) → Row b (map_value c) → Tells d (b ∷ bytes) (maps c bytes))
    → (first : First) → Row b first → Tells d (b ∷ bytes) (value_by arrays maps first bytes)
unfolding signed_at
by_first d b bytes arrays maps in_arrays in_maps no_value row = value_refused d b bytes row
by_first d b bytes arrays maps in_arrays in_maps nil_value row = (b ∷ [], refl, spells_nil d b row)
by_first d b bytes arrays maps in_arrays in_maps (flag_value f) row = (b ∷ [], refl, spells_flag d b f row)
by_first d b bytes arrays maps in_arrays in_maps (small_number z) row = (b ∷ [], refl, spells_small d b z row)
by_first d b bytes arrays maps in_arrays in_maps (unsigned_number w) row = unsigned_tells d b w bytes row (number_at w bytes) (number_tells w bytes)
by_first d b bytes arrays maps in_arrays in_maps (signed_number w) row = signed_tells d b w bytes row (number_at w bytes) (number_tells w bytes)
by_first d b bytes arrays maps in_arrays in_maps (raw_value c) row = bytes_tell d b c bytes row (raw_at c bytes) (raw_tells c bytes)
by_first d b bytes arrays maps in_arrays in_maps (array_value c) row = in_arrays c row
by_first d b bytes arrays maps in_arrays in_maps (map_value c) row = in_maps c row

-- what is read is spelled so, and a fault is the first broken rule
pub value_tells : (d : ℕ) (bytes : List ℕ) → Tells d bytes (value_at d bytes)
unfolding value_at
value_tells d [] = value_missing d
value_tells zero (b ∷ bytes) =
    by_first 0 b bytes _ _ (λ c row. array_too_deep b c bytes row) (λ c row. map_too_deep b c bytes row) (first_of b) (Row-first_of b)
value_tells (suc d) (b ∷ bytes) =
    by_first (suc d) b bytes _ _ (λ c row. array_tells d (value_at d) (value_tells d) b c bytes row)
    (λ c row. table_tells d (value_at d) (value_tells d) b c bytes row) (first_of b) (Row-first_of b)

-- ---- what is spelled is read, and what breaks a rule is refused

-- what reads an array or a map at this depth
abbrev arrays_of : ℕ → Count → Reader
arrays_of zero = λ _ _. Err Deep
arrays_of (suc d) = array_at (value_at d)

abbrev maps_of : ℕ → Count → Reader
maps_of zero = λ _ _. Err Deep
maps_of (suc d) = table_at (value_at d)

value_first : (d b : ℕ) (first : First) (bytes : List ℕ) → Row b first → value_at d (b ∷ bytes) ≡ value_by (arrays_of d) (maps_of d) first bytes
unfolding value_at
value_first zero b first bytes row = ap (λ f. flat_by f bytes) (first_of-Row b first row)
value_first (suc d) b first bytes row = ap (λ f. value_by (array_at (value_at d)) (table_at (value_at d)) f bytes) (first_of-Row b first row)

value_missing_is : (d : ℕ) → value_at d [] ≡ Err Short
unfolding value_at
value_missing_is d = refl

behind_count : (count body rest : List ℕ) (b : ℕ) → (b ∷ (count ++ body)) ++ rest ≡ b ∷ (count ++ (body ++ rest))
behind_count count body rest b = ap (λ (s : List ℕ). b ∷ s) (append_assoc count body rest)

mutual
  unfolding signed_at array_at table_at items_at pairs_at

  -- what is spelled is read, whatever follows
  pub value_again : (d : ℕ) (t : Tree) (front rest : List ℕ) → SpellsWithin d t front → value_at d (front ++ rest) ≡ Ok (t, rest)
  value_again d t front rest (spells_nil _ b row) = value_first d b nil_value rest row
  value_again d t front rest (spells_flag _ b f row) = value_first d b (flag_value f) rest row
  value_again d t front rest (spells_small _ b z row) = value_first d b (small_number z) rest row
  value_again d t front rest (spells_unsigned _ b w bytes row len) =
      value_first d b (unsigned_number w) (bytes ++ rest) row ∙ rw (number_again w bytes rest len) refl
  value_again d t front rest (spells_signed _ b w bytes row len) =
      value_first d b (signed_number w) (bytes ++ rest) row ∙ rw (number_again w bytes rest len) refl
  value_again d t front rest (spells_bytes _ content bytes (spells_raw b c count _ row counts)) =
      ap (value_at d) (behind_count count content rest b) ∙ value_first d b (raw_value c) (count ++ (content ++ rest)) row
      ∙ rw (raw_again c count content rest counts) refl
  value_again d t front rest (spells_array inner b c items count body row counts spelled) =
      ap (value_at d) (behind_count count body rest b) ∙ value_first d b (array_value c) (count ++ (body ++ rest)) row
      ∙ rw (count_again c (items_count items) count (body ++ rest) counts, items_again inner items body rest spelled) refl
  value_again d t front rest (spells_map inner b c n pairs count body row counts spelled) =
      ap (value_at d) (behind_count count body rest b) ∙ value_first d b (map_value c) (count ++ (body ++ rest)) row
      ∙ rw (count_again c n count (body ++ rest) counts, pairs_again inner n no_pairs pairs body rest spelled) refl

  pub items_again : (d : ℕ) (items : Items) (front rest : List ℕ) → SpellsItems d items front
      → items_at (value_at d) (items_count items) (front ++ rest) ≡ Ok (items, rest)
  items_again d items front rest (spells_no_items _) = refl
  items_again d items front rest (spells_item _ t ts first others spelled spell_others) =
      ap (items_at (value_at d) (items_count ts + 1)) (append_assoc first others rest)
      ∙ rw (add-one, value_again d t first (others ++ rest) spelled, items_again d ts others rest spell_others) refl

  pub pairs_again : (d n : ℕ) (before pairs : Pairs) (front rest : List ℕ) → SpellsPairs d n before pairs front
      → pairs_at (value_at d) n before (front ++ rest) ≡ Ok (pairs, rest)
  pairs_again d n before pairs front rest (spells_no_pairs _ _) = refl
  pairs_again d n before pairs front rest (spells_pair _ m _ _ key t first middle others named new spelled spell_others) =
      ap (pairs_at (value_at d) (suc m) before) (append_assoc first (middle ++ others) rest ∙ ap (λ (s : List ℕ). first ++ s) (append_assoc middle others rest))
      ∙ rw (key_again key first (middle ++ (others ++ rest)) named, new, value_again d t middle (others ++ rest) spelled)
      (pairs_again d m (put key t before) pairs others rest spell_others)

mutual
  unfolding signed_at array_at table_at items_at pairs_at

  -- what breaks a rule first is refused for it
  pub value_breaks : (d : ℕ) (bytes : List ℕ) (f : PackFault) → BreaksWithin d bytes f → value_at d bytes ≡ Err f
  value_breaks d bytes f (value_missing _) = value_missing_is d
  value_breaks d bytes f (value_refused _ b rest row) = value_first d b no_value rest row
  value_breaks d bytes f (unsigned_ends _ b w rest row lt) = value_first d b (unsigned_number w) rest row ∙ rw (number_short w rest lt) refl
  value_breaks d bytes f (signed_ends _ b w rest row lt) = value_first d b (signed_number w) rest row ∙ rw (number_short w rest lt) refl
  value_breaks d bytes f (raw_ends _ b c rest row ends) = value_first d b (raw_value c) rest row ∙ rw (raw_short c rest ends) refl
  value_breaks d bytes f (array_too_deep b c rest row) = value_first 0 b (array_value c) rest row
  value_breaks d bytes f (map_too_deep b c rest row) = value_first 0 b (map_value c) rest row
  value_breaks d bytes f (array_ends inner b c rest row ends) = value_first (suc inner) b (array_value c) rest row ∙ rw (count_short c rest ends) refl
  value_breaks d bytes f (map_ends inner b c rest row ends) = value_first (suc inner) b (map_value c) rest row ∙ rw (count_short c rest ends) refl
  value_breaks d bytes f (in_array inner b c n count rest _ row counts broken) =
      value_first (suc inner) b (array_value c) (count ++ rest) row ∙ rw (count_again c n count rest counts, items_break inner n rest f broken) refl
  value_breaks d bytes f (in_map inner b c n count rest _ row counts broken) =
      value_first (suc inner) b (map_value c) (count ++ rest) row ∙ rw (count_again c n count rest counts, pairs_break inner n no_pairs rest f broken) refl

  pub items_break : (d n : ℕ) (bytes : List ℕ) (f : PackFault) → BreaksItems d n bytes f → items_at (value_at d) n bytes ≡ Err f
  items_break d n bytes f (in_first_item _ m _ _ broken) = rw (value_breaks d bytes f broken) refl
  items_break d n bytes f (in_later_item _ m t front rest _ spelled broken) = rw (value_again d t front rest spelled, items_break d m rest f broken) refl

  pub pairs_break : (d n : ℕ) (before : Pairs) (bytes : List ℕ) (f : PackFault) → BreaksPairs d n before bytes f → pairs_at (value_at d) n before bytes ≡ Err f
  pairs_break d n before bytes f (in_key _ m _ _ _ broken) = rw (key_breaks bytes f broken) refl
  pairs_break d n before bytes f (key_stands_before _ m _ key front rest named again) = rw (key_again key front rest named, again) refl
  pairs_break d n before bytes f (in_value _ m _ key front rest _ named new broken) =
      rw (key_again key front rest named, new, value_breaks d rest f broken) refl
  pairs_break d n before bytes f (in_later_pair _ m _ key t front middle rest _ named new spelled broken) =
      rw (key_again key front (middle ++ rest) named, new, value_again d t middle rest spelled) (pairs_break d m (put key t before) rest f broken)
