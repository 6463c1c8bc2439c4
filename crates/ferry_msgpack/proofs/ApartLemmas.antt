-- A map with the value of one name apart: what is kept is that of what reading gives.
use Rattle.std.proofs.Common.{◌≡◌, ℕ, suc, ◌-◌, ◌+◌, ◌≤◌, ◌<◌, Bool, true, false, cond, List, [], ◌∷◌, ◌++◌, Option, Some, None, option_and_then, option_map}
use Rattle.std.proofs.Common.{Result, Ok, Err, Ordering, Less, Equal, Greater, nat_cmp, is_eq, ◌||◌, pos, refl, sym, ap, ◌∙◌, append_assoc, append-nil, arith}
use Rattle.std.specs.Cmp.Lexicographic.{slice_cmp}
use Rattle.std.specs.Ordering.{match_ordering}
use Rattle.std.specs.Str.{bytes_eq}
use Rattle.std.proofs.lemmas.Slice.Eq.{bytes_eq-Decides}
use Rattle.ferry_msgpack.specs.declared.fault.PackFault.{PackFault}
use Rattle.ferry_msgpack.specs.declared.fault.PackFault.TheVariants.{Repeat}
use Rattle.ferry_msgpack.specs.First.{Count, First, no_value, nil_value, flag_value, small_number, unsigned_number, signed_number, raw_value}
use Rattle.ferry_msgpack.specs.First.{array_value, map_value}
use Rattle.ferry_msgpack.specs.Tree.{Tree, nil, number, raw, array, table, Items, item, Pairs, no_pairs, pair, has_key, put}
use Rattle.ferry_msgpack.specs.Reading.{◌>>=◌, Fails, Reader, first_of, number_at, signed_at, count_at, raw_at, key_at, items_at, pairs_at, array_at}
use Rattle.ferry_msgpack.specs.Reading.{table_at, value_by, value_at}
use Rattle.ferry_msgpack.specs.Apart.{Parts, array_by, array_front, array_apart, blanked, contents_in, contents_of, contents_under, items_apart, map_by}
use Rattle.ferry_msgpack.specs.Apart.{map_front, pair_apart, pairs_apart, parted, parts_of, parts_at, raw32_of, table_apart, value_apart, with_content}
use Rattle.ferry_msgpack.proofs.Loops.{Fails-through, pairs_go_on, pairs_repeat, key_fails, pair_fails, pairs_done}
use Rattle.ferry_msgpack.proofs.TreeLemmas.{same_text, self_equal}

-- a fault of reading is one of what goes on with what was read
pub Fails-on : {A B : Type 0} (e : PackFault) (f : A → Result B PackFault) (r : Result A PackFault) → Fails e r → Fails e (r >>= f)
Fails-on e f r failed = Fails-through e r (r >>= f) (λ g h. rw h refl) failed

-- ---- values that aren't kept

-- what is kept of a value, and what follows it
abbrev pub kept : {A : Type 0} → (Tree → Option A) → Result (Tree × List ℕ) PackFault → Result (Option A × List ℕ) PackFault
kept g read = read >>= λ x. Ok (g x.0, x.1)

-- nothing, and what follows the value
abbrev pub none_kept : (A : Type 0) → Result (Tree × List ℕ) PackFault → Result (Option A × List ℕ) PackFault
none_kept A read = read >>= λ x. Ok (None, x.1)

kept_through : {A B : Type 0} (g : Tree → Option A) (f : B → Tree) (r : Result (B × List ℕ) PackFault) → ((x : B) → g (f x) ≡ None)
    → kept g (r >>= λ x. Ok (f x.0, x.1)) ≡ none_kept A (r >>= λ x. Ok (f x.0, x.1))
kept_through {A} g f (Ok x) none = ap (λ (o : Option A). Ok (o, x.1)) (none x.0)
kept_through g f (Err e) none = refl

array_kept : {A : Type 0} (g : Tree → Option A) (read : Reader) → ((items : Items) → g (array items) ≡ None) → (r : Result (ℕ × List ℕ) PackFault)
    → kept g (r >>= λ n. (items_at read n.0 n.1 >>= λ items. Ok (array items.0, items.1)))
    ≡ none_kept A (r >>= λ n. (items_at read n.0 n.1 >>= λ items. Ok (array items.0, items.1)))
array_kept g read none (Ok n) = kept_through g array (items_at read n.0 n.1) none
array_kept g read none (Err e) = refl

table_kept : {A : Type 0} (g : Tree → Option A) (read : Reader) → ((pairs : Pairs) → g (table pairs) ≡ None) → (r : Result (ℕ × List ℕ) PackFault)
    → kept g (r >>= λ n. (pairs_at read n.0 no_pairs n.1 >>= λ pairs. Ok (table pairs.0, pairs.1)))
    ≡ none_kept A (r >>= λ n. (pairs_at read n.0 no_pairs n.1 >>= λ pairs. Ok (table pairs.0, pairs.1)))
table_kept g read none (Ok n) = kept_through g table (pairs_at read n.0 no_pairs n.1) none
table_kept g read none (Err e) = refl

no_array : (d : ℕ) (first : First) (bytes : List ℕ) → array_by first bytes ≡ None
    → kept contents_of (value_by (array_at (value_at d)) (table_at (value_at d)) first bytes)
    ≡ none_kept (List (List ℕ)) (value_by (array_at (value_at d)) (table_at (value_at d)) first bytes)
unfolding table_at signed_at
no_array d no_value bytes is = refl
no_array d nil_value bytes is = refl
no_array d (flag_value f) bytes is = refl
no_array d (small_number z) bytes is = refl
no_array d (unsigned_number w) bytes is = kept_through contents_of (λ n. number (pos n)) (number_at w bytes) (λ _. refl)
no_array d (signed_number w) bytes is = kept_through contents_of number (signed_at w bytes) (λ _. refl)
no_array d (raw_value c) bytes is = kept_through contents_of raw (raw_at c bytes) (λ _. refl)
no_array d (array_value c) bytes is = cc
no_array d (map_value c) bytes is = table_kept contents_of (value_at d) (λ _. refl) (count_at c bytes)

no_map : (name : List ℕ) (d : ℕ) (first : First) (bytes : List ℕ) → map_by first bytes ≡ None
    → kept (parts_of name) (value_by (array_at (value_at d)) (table_at (value_at d)) first bytes)
    ≡ none_kept Parts (value_by (array_at (value_at d)) (table_at (value_at d)) first bytes)
unfolding array_at signed_at
no_map name d no_value bytes is = refl
no_map name d nil_value bytes is = refl
no_map name d (flag_value f) bytes is = refl
no_map name d (small_number z) bytes is = refl
no_map name d (unsigned_number w) bytes is = kept_through (parts_of name) (λ n. number (pos n)) (number_at w bytes) (λ _. refl)
no_map name d (signed_number w) bytes is = kept_through (parts_of name) number (signed_at w bytes) (λ _. refl)
no_map name d (raw_value c) bytes is = kept_through (parts_of name) raw (raw_at c bytes) (λ _. refl)
no_map name d (array_value c) bytes is = array_kept (parts_of name) (value_at d) (λ _. refl) (count_at c bytes)
no_map name d (map_value c) bytes is = cc

-- where no array begins, nothing is kept of the value
pub other_value : (bytes : List ℕ) → array_front bytes ≡ None → value_apart (value_at 63 bytes) ≡ none_kept (List (List ℕ)) (value_at 63 bytes)
unfolding value_at
other_value [] is = refl
other_value (b ∷ bytes) is = no_array 62 (first_of b) bytes is

-- where no map begins, there are no parts
pub other_parts : (name bytes : List ℕ) → map_front bytes ≡ None → parts_at name bytes ≡ none_kept Parts (value_at 64 bytes)
unfolding value_at parts_at
other_parts name [] is = refl
other_parts name (b ∷ bytes) is = no_map name 63 (first_of b) bytes is

-- ---- where an array or a map begins

abbrev some_front : Count × List ℕ → Option (Count × List ℕ)
some_front x = Some x

same_front : (x y : Count × List ℕ) → some_front x ≡ some_front y → x ≡ y
same_front x y e = cc

array_is : (d : ℕ) (first : First) (bytes : List ℕ) (c : Count) (after : List ℕ) → array_by first bytes ≡ Some (c, after)
    → value_by (array_at (value_at d)) (table_at (value_at d)) first bytes ≡ array_at (value_at d) c after
array_is d no_value bytes c after is = cc
array_is d nil_value bytes c after is = cc
array_is d (flag_value f) bytes c after is = cc
array_is d (small_number z) bytes c after is = cc
array_is d (unsigned_number w) bytes c after is = cc
array_is d (signed_number w) bytes c after is = cc
array_is d (raw_value n) bytes c after is = cc
array_is d (array_value n) bytes c after is =
    ap (λ (x : Count × List ℕ). array_at (value_at d) x.0 x.1) (same_front (n, bytes) (c, after) is)
array_is d (map_value n) bytes c after is = cc

map_is : (d : ℕ) (first : First) (bytes : List ℕ) (c : Count) (after : List ℕ) → map_by first bytes ≡ Some (c, after)
    → value_by (array_at (value_at d)) (table_at (value_at d)) first bytes ≡ table_at (value_at d) c after
map_is d no_value bytes c after is = cc
map_is d nil_value bytes c after is = cc
map_is d (flag_value f) bytes c after is = cc
map_is d (small_number z) bytes c after is = cc
map_is d (unsigned_number w) bytes c after is = cc
map_is d (signed_number w) bytes c after is = cc
map_is d (raw_value n) bytes c after is = cc
map_is d (array_value n) bytes c after is = cc
map_is d (map_value n) bytes c after is = ap (λ (x : Count × List ℕ). table_at (value_at d) x.0 x.1) (same_front (n, bytes) (c, after) is)

array_then : (r : Result (Items × List ℕ) PackFault) → kept contents_of (r >>= λ items. Ok (array items.0, items.1)) ≡ items_apart r
array_then (Ok x) = refl
array_then (Err e) = refl

array_from : (r : Result (ℕ × List ℕ) PackFault)
    → kept contents_of (r >>= λ n. (items_at (value_at 62) n.0 n.1 >>= λ items. Ok (array items.0, items.1)))
    ≡ (r >>= λ n. items_apart (items_at (value_at 62) n.0 n.1))
array_from (Ok n) = array_then (items_at (value_at 62) n.0 n.1)
array_from (Err e) = refl

in_array : (c : Count) (bytes : List ℕ) → kept contents_of (array_at (value_at 62) c bytes) ≡ array_apart c bytes
unfolding array_at
in_array c bytes = array_from (count_at c bytes)

-- the value is the array that begins in front
pub array_value_apart : (bytes : List ℕ) (c : Count) (after : List ℕ) → array_front bytes ≡ Some (c, after)
    → value_apart (value_at 63 bytes) ≡ array_apart c after
unfolding value_at
array_value_apart [] c after is = cc
array_value_apart (b ∷ bytes) c after is = ap (kept contents_of) (array_is 62 (first_of b) bytes c after is) ∙ in_array c after

-- the parts of a map that was read
abbrev pub some_parts : Result (Parts × List ℕ) PackFault → Result (Option Parts × List ℕ) PackFault
some_parts read = read >>= λ x. Ok (Some x.0, x.1)

table_then : (name : List ℕ) (r : Result (Pairs × List ℕ) PackFault)
    → kept (parts_of name) (r >>= λ pairs. Ok (table pairs.0, pairs.1)) ≡ some_parts (pairs_apart name r)
table_then name (Ok x) = refl
table_then name (Err e) = refl

table_from : (name : List ℕ) (r : Result (ℕ × List ℕ) PackFault)
    → kept (parts_of name) (r >>= λ n. (pairs_at (value_at 63) n.0 no_pairs n.1 >>= λ pairs. Ok (table pairs.0, pairs.1)))
    ≡ some_parts (r >>= λ n. pairs_apart name (pairs_at (value_at 63) n.0 no_pairs n.1))
table_from name (Ok n) = table_then name (pairs_at (value_at 63) n.0 no_pairs n.1)
table_from name (Err e) = refl

in_table : (name : List ℕ) (c : Count) (bytes : List ℕ) → kept (parts_of name) (table_at (value_at 63) c bytes) ≡ some_parts (table_apart name c bytes)
unfolding table_at
in_table name c bytes = table_from name (count_at c bytes)

-- the value is the map that begins in front
pub map_parts : (name bytes : List ℕ) (c : Count) (after : List ℕ) → map_front bytes ≡ Some (c, after)
    → parts_at name bytes ≡ some_parts (table_apart name c after)
unfolding value_at parts_at
map_parts name [] c after is = cc
map_parts name (b ∷ bytes) c after is = ap (kept (parts_of name)) (map_is 63 (first_of b) bytes c after is) ∙ in_table name c after

pub parts_fail : (e : PackFault) (name bytes : List ℕ) (c : Count) (after : List ℕ) → map_front bytes ≡ Some (c, after)
    → Fails e (table_apart name c after) → Fails e (parts_at name bytes)
parts_fail e name bytes c after is failed =
    rw (map_parts name bytes c after is) (Fails-on e (λ (x : Parts × List ℕ). Ok (Some x.0, x.1)) (table_apart name c after) failed)

-- ---- the values of the array, one behind the other

-- contents, and others behind them, where both are there
abbrev pub joined : Option (List (List ℕ)) → Option (List (List ℕ)) → Option (List (List ℕ))
joined front back = option_and_then (λ all. option_map (λ others. all ++ others) back) front

joined-next : (front : Option (List (List ℕ))) (content : Option (List ℕ)) (back : Option (List (List ℕ)))
    → joined front (option_and_then (λ one. option_map (λ others. one ∷ others) back) content) ≡ joined (with_content front content) back
joined-next None content back = refl
joined-next (Some all) None back = refl
joined-next (Some all) (Some one) None = refl
joined-next (Some all) (Some one) (Some others) = ap (λ (x : List (List ℕ)). Some x) (sym (append_assoc all (one ∷ []) others))

joined-none : (front : Option (List (List ℕ))) → joined front (Some []) ≡ front
joined-none None = refl
joined-none (Some all) = ap (λ (x : List (List ℕ)). Some x) (append-nil all)

joined-start : (back : Option (List (List ℕ))) → joined (Some []) back ≡ back
joined-start None = refl
joined-start (Some others) = refl

-- the contents that are known, and those that are still read
abbrev pub behind : Option (List (List ℕ)) → Result (Option (List (List ℕ)) × List ℕ) PackFault → Result (Option (List (List ℕ)) × List ℕ) PackFault
behind front read = read >>= λ x. Ok (joined front x.0, x.1)

pub behind-start : (r : Result (Option (List (List ℕ)) × List ℕ) PackFault) → behind (Some []) r ≡ r
behind-start (Ok x) = ap (λ (o : Option (List (List ℕ))). Ok (o, x.1)) (joined-start x.0)
behind-start (Err e) = refl

regroup : (front : Option (List (List ℕ))) (t : Tree) (r : Result (Items × List ℕ) PackFault)
    → behind front (items_apart (r >>= λ x. Ok (item t x.0, x.1))) ≡ behind (with_content front (raw32_of t)) (items_apart r)
unfolding contents_in
regroup front t (Ok x) = ap (λ (o : Option (List (List ℕ))). Ok (o, x.1)) (joined-next front (raw32_of t) (contents_in x.0))
regroup front t (Err e) = refl

module _ (read : Reader) (front : Option (List (List ℕ))) (count i : ℕ) (bytes : List ℕ) (total : Result (Option (List (List ℕ)) × List ℕ) PackFault)
    (so_far : behind front (items_apart (items_at read (count - i) bytes)) ≡ total) where
  pub contents_go_on : (t : Tree) (after : List ℕ) → i < count → read bytes ≡ Ok (t, after)
      → behind (with_content front (raw32_of t)) (items_apart (items_at read (count - (i + 1)) after)) ≡ total
  unfolding items_at
  contents_go_on t after lt h =
      let k : count - i ≡ suc (count - (i + 1)) = omega arith in
      let one : behind front (items_apart (items_at read (count - i) bytes))
      ≡ behind (with_content front (raw32_of t)) (items_apart (items_at read (count - (i + 1)) after)) = rw (k, h)
      (regroup front t (items_at read (count - (i + 1)) after)) in
      sym one ∙ so_far

  pub contents_fail : (e : PackFault) → i < count → Fails e (read bytes) → Fails e total
  unfolding items_at
  contents_fail e lt = Fails-through e (read bytes) total (λ f h.
      let k : count - i ≡ suc (count - (i + 1)) = omega arith in
      let one : behind front (items_apart (items_at read (count - i) bytes)) ≡ Err f = rw (k, h) refl in
      sym so_far ∙ one)

  pub contents_done : count ≤ i → total ≡ Ok (front, bytes)
  unfolding items_at contents_in
  contents_done le =
      let k : count - i ≡ 0 = omega arith in
      let one : behind front (items_apart (items_at read (count - i) bytes)) ≡ Ok (front, bytes) = rw k
      (ap (λ (o : Option (List (List ℕ))). Ok (o, bytes)) (joined-none front)) in
      sym so_far ∙ one

-- ---- pairs, of which one is apart

has_key-blanked : (name key : List ℕ) (ps : Pairs) → has_key key (blanked name ps) ≡ has_key key ps
unfolding blanked
has_key-blanked name key no_pairs = refl
has_key-blanked name key (pair l u ps) = ap (λ (b : Bool). is_eq (slice_cmp nat_cmp key l) || b) (has_key-blanked name key ps)

-- the value that is left in a pair
abbrev pub left : List ℕ → List ℕ → Tree → Tree
left name key t = cond (bytes_eq key name) nil t

blanked_at : (name k : List ℕ) (t : Tree) (l : List ℕ) (u : Tree) (ps : Pairs) (o : Ordering) → slice_cmp nat_cmp k l ≡ o
    → blanked name (put k t ps) ≡ put k (left name k t) (blanked name ps)
    → blanked name (match_ordering o (pair k t (pair l u ps)) (pair l t ps) (pair l u (put k t ps)))
    ≡ match_ordering o (pair k (left name k t) (pair l (left name l u) (blanked name ps))) (pair l (left name k t) (blanked name ps))
    (pair l (left name l u) (put k (left name k t) (blanked name ps)))
unfolding blanked
blanked_at name k t l u ps Less is rest = refl
blanked_at name k t l u ps Equal is rest = ap (λ (m : List ℕ). pair l (left name m t) (blanked name ps)) (sym (same_text k l is))
blanked_at name k t l u ps Greater is rest = ap (pair l (left name l u)) rest

blanked-put : (name k : List ℕ) (t : Tree) (ps : Pairs) → blanked name (put k t ps) ≡ put k (left name k t) (blanked name ps)
unfolding blanked
blanked-put name k t no_pairs = refl
blanked-put name k t (pair l u ps) = blanked_at name k t l u ps (slice_cmp nat_cmp k l) refl (blanked-put name k t ps)

-- the contents that are known with a pair
abbrev pub known : List ℕ → List ℕ → Tree → Option (List (List ℕ)) → Option (List (List ℕ))
known name key t contents = cond (bytes_eq key name) (contents_of t) contents

-- two names, the one behind the other, aren't both this one
apart_names : (name k l : List ℕ) (b c : Bool) → slice_cmp nat_cmp k l ≡ Greater → bytes_eq k name ≡ b → bytes_eq l name ≡ c
    → (x y z : Option (List (List ℕ))) → cond c x (cond b y z) ≡ cond b y (cond c x z)
apart_names name k l true true is first second x y z =
    let same : k ≡ l = (bytes_eq-Decides k name).0 first ∙ sym ((bytes_eq-Decides l name).0 second) in
    let equal : slice_cmp nat_cmp k l ≡ Equal = ap (slice_cmp nat_cmp k) (sym same) ∙ self_equal k in
    cc
apart_names name k l true false is first second x y z = refl
apart_names name k l false true is first second x y z = refl
apart_names name k l false false is first second x y z = refl

twice : (b : Bool) (x y z : Option (List (List ℕ))) → cond b x z ≡ cond b x (cond b y z)
twice true x y z = refl
twice false x y z = refl

under_at : (name k : List ℕ) (t : Tree) (l : List ℕ) (u : Tree) (ps : Pairs) (o : Ordering) → slice_cmp nat_cmp k l ≡ o
    → contents_under name (put k t ps) ≡ known name k t (contents_under name ps)
    → contents_under name (match_ordering o (pair k t (pair l u ps)) (pair l t ps) (pair l u (put k t ps)))
    ≡ known name k t (known name l u (contents_under name ps))
unfolding contents_under
under_at name k t l u ps Less is rest = refl
under_at name k t l u ps Equal is rest = rw (same_text k l is) (twice (bytes_eq l name) (contents_of t) (contents_of u) (contents_under name ps))
under_at name k t l u ps Greater is rest =
    ap (known name l u) rest
    ∙ apart_names name k l (bytes_eq k name) (bytes_eq l name) is refl refl (contents_of u) (contents_of t) (contents_under name ps)

under-put : (name k : List ℕ) (t : Tree) (ps : Pairs) → contents_under name (put k t ps) ≡ known name k t (contents_under name ps)
unfolding contents_under
under-put name k t no_pairs = refl
under-put name k t (pair l u ps) = under_at name k t l u ps (slice_cmp nat_cmp k l) refl (under-put name k t ps)

-- what a pair leaves: its value, the contents that are known with it, and what follows it
abbrev Left : Type 0
Left = Tree × Option (List (List ℕ)) × List ℕ

abbrev left_as : Left → Result Left PackFault
left_as x = Ok x

same_left : (x y : Left) → left_as x ≡ left_as y → x ≡ y
same_left x y e = cc

pair_tells : (b : Bool) (contents : Option (List (List ℕ))) (r : Result (Tree × List ℕ) PackFault) (v : Tree) (said : Option (List (List ℕ))) (rest : List ℕ)
    → pair_apart b contents r ≡ Ok (v, said, rest)
    → (t : Tree) × (r ≡ Ok (t, rest)) × (v ≡ cond b nil t) × (said ≡ cond b (contents_of t) contents)
pair_tells b contents (Ok x) v said rest e =
    let same = same_left (cond b nil x.0, cond b (contents_of x.0) contents, x.1) (v, said, rest) e in (
      x.0,
      ap (λ (y : Left). Ok (x.0, y.2)) same,
      sym (ap (λ (y : Left). y.0) same),
      sym (ap (λ (y : Left). y.1) same),
    )
pair_tells b contents (Err f) v said rest e = cc

pair_was : (b : Bool) (contents : Option (List (List ℕ))) (r : Result (Tree × List ℕ) PackFault) (f : PackFault) → pair_apart b contents r ≡ Err f → r ≡ Err f
pair_was b contents (Ok x) f e = cc
pair_was b contents (Err g) f e = cc

-- pairs that were read, one apart, before those that are still read
pub record Kept (name : List ℕ) (read : Reader) (n : ℕ) (rest : List ℕ) (total : Result (Pairs × List ℕ) PackFault) (found : Pairs)
    (contents : Option (List (List ℕ))) : Type 0 where
  pub before : Pairs
  pub found_is : found ≡ blanked name before
  pub contents_is : contents ≡ contents_under name before
  pub so_far : pairs_at read n before rest ≡ total

pub none_before : (name : List ℕ) (read : Reader) (n : ℕ) (bytes : List ℕ) → Kept name read n bytes (pairs_at read n no_pairs bytes) no_pairs None
unfolding blanked contents_under
none_before name read n bytes = record { before = no_pairs; found_is = refl; contents_is = refl; so_far = refl }

module _ (name : List ℕ) (read : Reader) (count i : ℕ) (rest : List ℕ) (total : Result (Pairs × List ℕ) PackFault) (found : Pairs)
    (contents : Option (List (List ℕ))) (old : Kept name read (count - i) rest total found contents) where
  before_has : (key : List ℕ) (b : Bool) → has_key key found ≡ b → has_key key old.before ≡ b
  before_has key b is = sym (ap (has_key key) old.found_is ∙ has_key-blanked name key old.before) ∙ is

  pub apart_goes_on : (key after : List ℕ) (v : Tree) (said : Option (List (List ℕ))) (next : List ℕ) → i < count → key_at rest ≡ Ok (key, after)
      → has_key key found ≡ false → pair_apart (bytes_eq key name) contents (read after) ≡ Ok (v, said, next)
      → Kept name read (count - (i + 1)) next total (put key v found) said
  apart_goes_on key after v said next lt named new h =
      let told = pair_tells (bytes_eq key name) contents (read after) v said next h in
      record {
        before = put key told.0 old.before;
        found_is = ap (λ (w : Tree). put key w found) told.2 ∙ ap (put key (left name key told.0)) old.found_is ∙ sym (blanked-put name key told.0 old.before);
        contents_is = told.3 ∙ ap (known name key told.0) old.contents_is ∙ sym (under-put name key told.0 old.before);
        so_far = pairs_go_on read old.before count i rest total old.so_far key after told.0 next lt named (before_has key false new) told.1;
      }

  pub apart_repeats : (key after : List ℕ) → i < count → key_at rest ≡ Ok (key, after) → has_key key found ≡ true → pairs_apart name total ≡ Err Repeat
  apart_repeats key after lt named again =
      ap (pairs_apart name) (pairs_repeat read old.before count i rest total old.so_far key after lt named (before_has key true again))

  pub apart_key_fails : (e : PackFault) → i < count → Fails e (key_at rest) → Fails e (pairs_apart name total)
  apart_key_fails e lt failed = Fails-on e (λ x. Ok (parted name x.0, x.1)) total (key_fails read old.before count i rest total old.so_far e lt failed)

  pub apart_fails : (e : PackFault) (key after : List ℕ) → i < count → key_at rest ≡ Ok (key, after) → has_key key found ≡ false
      → Fails e (pair_apart (bytes_eq key name) contents (read after)) → Fails e (pairs_apart name total)
  apart_fails e key after lt named new failed =
      Fails-on e (λ x. Ok (parted name x.0, x.1)) total
      (pair_fails read old.before count i rest total old.so_far e key after lt named (before_has key false new)
      (Fails-through e (pair_apart (bytes_eq key name) contents (read after)) (read after) (pair_was (bytes_eq key name) contents (read after)) failed))

  pub apart_done : count ≤ i → pairs_apart name total ≡ Ok ((found, contents), rest)
  apart_done le =
      ap (pairs_apart name) (pairs_done read old.before count i rest total old.so_far le)
      ∙ rw (old.found_is, old.contents_is) refl
