-- What is behind levels, one step after another.
use Rattle.std.proofs.Common.{◌≡◌, ℕ, zero, suc, Bool, true, false, cond, List, [], ◌∷◌, ◌++◌, Result, Ok, Err, refl, sym, ap, subst, ◌∙◌, append_assoc, ◌||◌}
use Rattle.std.proofs.Common.{Vec, BTreeMap, Global, Ordering, Less, Equal, Greater, nat_cmp, is_eq}
use Rattle.std.specs.Ordering.{match_ordering}
use Rattle.std.specs.Cmp.Lexicographic.{slice_cmp}
use Rattle.ferry_msgpack.specs.declared.fault.PackFault.{PackFault}
use Rattle.ferry_msgpack.specs.declared.fault.PackFault.TheVariants.{Short, Repeat}
use Rattle.ferry_msgpack.specs.declared.value.Value.{Value}
use Rattle.ferry_msgpack.specs.Tree.{Tree, nil, array, table, Items, no_items, item, Pairs, no_pairs, pair, has_key, put}
use Rattle.ferry_msgpack.specs.First.{Count, First, no_value, nil_value, flag_value, small_number, unsigned_number, signed_number, raw_value, array_value}
use Rattle.ferry_msgpack.specs.First.{map_value}
use Rattle.ferry_msgpack.specs.Reading.{◌>>=◌, Reader, first_of, value_by, flat_by, value_at, items_at, pairs_at, array_at, table_at, key_at, count_at}
use Rattle.ferry_msgpack.specs.View.{pairs_view}
use Rattle.ferry_msgpack.proofs.FieldLemmas.{TellsCount, count_tells, count_again, TellsKey, key_tells, key_again}
use Rattle.ferry_msgpack.proofs.SpellingLemmas.{value_again}
use Rattle.ferry_msgpack.proofs.Places.{reading_tells}
use Rattle.ferry_item.specs.declared.progress.Level.{Level}
use Rattle.ferry_item.specs.declared.progress.Level.TheVariants as level
use Rattle.ferry_item.specs.Progress.{is_flat, rest_of, behind_level, behind_all, Lacks}

-- the names before a pair, each with nil
abbrev pub Names : Type 0
Names = BTreeMap (Vec ℕ Global) Value

-- ---- with more bytes behind

pub value_more : (d : ℕ) (bytes : List ℕ) (t : Tree) (rest more : List ℕ) → value_at d bytes ≡ Ok (t, rest) → value_at d (bytes ++ more) ≡ Ok (t, rest ++ more)
value_more d bytes t rest more is =
    let told = reading_tells d bytes t rest is in
    ap (λ (s : List ℕ). value_at d (s ++ more)) told.1 ∙ ap (value_at d) (append_assoc told.0 rest more) ∙ value_again d t told.0 (rest ++ more) told.2

pub count_more : (c : Count) (bytes : List ℕ) (n : ℕ) (rest more : List ℕ) → count_at c bytes ≡ Ok (n, rest) → count_at c (bytes ++ more) ≡ Ok (n, rest ++ more)
count_more c bytes n rest more is =
    let told = subst (TellsCount c bytes) is (count_tells c bytes) in
    ap (λ (s : List ℕ). count_at c (s ++ more)) told.1 ∙ ap (count_at c) (append_assoc told.0 rest more) ∙ count_again c n told.0 (rest ++ more) told.2

pub key_more : (bytes key rest more : List ℕ) → key_at bytes ≡ Ok (key, rest) → key_at (bytes ++ more) ≡ Ok (key, rest ++ more)
key_more bytes key rest more is =
    let told = subst (TellsKey bytes) is (key_tells bytes) in
    ap (λ (s : List ℕ). key_at (s ++ more)) told.1 ∙ ap key_at (append_assoc told.0 rest more) ∙ key_again key told.0 (rest ++ more) told.2

-- ---- values that are neither arrays nor maps

flat_any : (arrays maps : Count → Reader) (first : First) (bytes : List ℕ) → is_flat first ≡ true → value_by arrays maps first bytes ≡ flat_by first bytes
flat_any arrays maps no_value bytes flat = refl
flat_any arrays maps nil_value bytes flat = refl
flat_any arrays maps (flag_value f) bytes flat = refl
flat_any arrays maps (small_number z) bytes flat = refl
flat_any arrays maps (unsigned_number w) bytes flat = refl
flat_any arrays maps (signed_number w) bytes flat = refl
flat_any arrays maps (raw_value c) bytes flat = refl
flat_any arrays maps (array_value c) bytes flat = absurd cc
flat_any arrays maps (map_value c) bytes flat = absurd cc

pub flat_first : (d b : ℕ) (bytes : List ℕ) → is_flat (first_of b) ≡ true → value_at d (b ∷ bytes) ≡ flat_by (first_of b) bytes
unfolding value_at
flat_first zero b bytes flat = refl
flat_first (suc d) b bytes flat = flat_any (array_at (value_at d)) (table_at (value_at d)) (first_of b) bytes flat

-- such a value is read the same at each depth
pub flat_depth : (d e b : ℕ) (bytes : List ℕ) → is_flat (first_of b) ≡ true → value_at d (b ∷ bytes) ≡ value_at e (b ∷ bytes)
flat_depth d e b bytes flat = flat_first d b bytes flat ∙ sym (flat_first e b bytes flat)

-- ---- one level

pub values_done : (depth : ℕ) (bytes : List ℕ) → behind_level (level.Values depth 0) bytes ≡ Ok bytes
unfolding behind_level items_at
values_done depth bytes = refl

-- the value and those behind it
abbrev item_then : Tree → Items × List ℕ → Result (Items × List ℕ) PackFault
item_then t x = Ok (item t x.0, x.1)

items_rest : (t : Tree) (r : Result (Items × List ℕ) PackFault) → rest_of (r >>= item_then t) ≡ rest_of r
items_rest t (Ok x) = refl
items_rest t (Err f) = refl

pub value_passed : (depth left : ℕ) (bytes : List ℕ) (t : Tree) (rest : List ℕ) → value_at depth bytes ≡ Ok (t, rest)
    → behind_level (level.Values depth (suc left)) bytes ≡ behind_level (level.Values depth left) rest
unfolding behind_level items_at
value_passed depth left bytes t rest is = rw is (items_rest t (items_at (value_at depth) left rest))

pub value_short : (depth left : ℕ) (bytes : List ℕ) → value_at depth bytes ≡ Err Short → behind_level (level.Values depth (suc left)) bytes ≡ Err Short
unfolding behind_level items_at
value_short depth left bytes is = rw is refl

abbrev values_then : ℕ → ℕ → Tree × List ℕ → Result (Items × List ℕ) PackFault
values_then depth left first = items_at (value_at depth) left first.1 >>= item_then first.0

abbrev array_of : Items × List ℕ → Result (Tree × List ℕ) PackFault
array_of x = Ok (array x.0, x.1)

abbrev table_of : Pairs × List ℕ → Result (Tree × List ℕ) PackFault
table_of x = Ok (table x.0, x.1)

array_rest : (depth left : ℕ) (r : Result (Items × List ℕ) PackFault)
    → rest_of ((r >>= array_of) >>= values_then depth left) ≡ (rest_of r >>= behind_level (level.Values depth left))
unfolding behind_level
array_rest depth left (Ok x) = items_rest (array x.0) (items_at (value_at depth) left x.1)
array_rest depth left (Err f) = refl

array_is : (depth b : ℕ) (bytes : List ℕ) (c : Count) (n : ℕ) (rest : List ℕ) → first_of b ≡ array_value c → count_at c bytes ≡ Ok (n, rest)
    → value_at (suc depth) (b ∷ bytes) ≡ (items_at (value_at depth) n rest >>= array_of)
unfolding value_at array_at
array_is depth b bytes c n rest first counted = rw (first, counted) refl

-- an array's values come first, and then what was missing behind it
pub array_opened : (depth left b : ℕ) (bytes : List ℕ) (c : Count) (n : ℕ) (rest : List ℕ) → first_of b ≡ array_value c → count_at c bytes ≡ Ok (n, rest)
    → behind_level (level.Values (suc depth) (suc left)) (b ∷ bytes)
    ≡ (behind_level (level.Values depth n) rest >>= behind_level (level.Values (suc depth) left))
unfolding behind_level items_at
array_opened depth left b bytes c n rest first counted =
    rw (array_is depth b bytes c n rest first counted) (array_rest (suc depth) left (items_at (value_at depth) n rest))

pub array_short : (depth b : ℕ) (bytes : List ℕ) (c : Count) → first_of b ≡ array_value c → count_at c bytes ≡ Err Short
    → value_at (suc depth) (b ∷ bytes) ≡ Err Short
unfolding value_at array_at
array_short depth b bytes c first counted = rw (first, counted) refl

table_rest : (depth left : ℕ) (r : Result (Pairs × List ℕ) PackFault)
    → rest_of ((r >>= table_of) >>= values_then depth left) ≡ (rest_of r >>= behind_level (level.Values depth left))
unfolding behind_level
table_rest depth left (Ok x) = items_rest (table x.0) (items_at (value_at depth) left x.1)
table_rest depth left (Err f) = refl

table_is : (depth b : ℕ) (bytes : List ℕ) (c : Count) (n : ℕ) (rest : List ℕ) → first_of b ≡ map_value c → count_at c bytes ≡ Ok (n, rest)
    → value_at (suc depth) (b ∷ bytes) ≡ (pairs_at (value_at depth) n no_pairs rest >>= table_of)
unfolding value_at table_at
table_is depth b bytes c n rest first counted = rw (first, counted) refl

-- a map's pairs come first, and then what was missing behind it
pub map_opened : (depth left b : ℕ) (bytes : List ℕ) (c : Count) (n : ℕ) (rest : List ℕ) (names : Names) → first_of b ≡ map_value c
    → count_at c bytes ≡ Ok (n, rest) → pairs_view names.entries ≡ no_pairs
    → behind_level (level.Values (suc depth) (suc left)) (b ∷ bytes)
    ≡ (behind_level (level.Pairs depth n names) rest >>= behind_level (level.Values (suc depth) left))
unfolding behind_level items_at
map_opened depth left b bytes c n rest names first counted none =
    rw (table_is depth b bytes c n rest first counted, none) (table_rest (suc depth) left (pairs_at (value_at depth) n no_pairs rest))

pub map_short : (depth b : ℕ) (bytes : List ℕ) (c : Count) → first_of b ≡ map_value c → count_at c bytes ≡ Err Short
    → value_at (suc depth) (b ∷ bytes) ≡ Err Short
unfolding value_at table_at
map_short depth b bytes c first counted = rw (first, counted) refl

-- ---- the names of pairs

-- the pairs with nil in place of their values
abbrev erase : Pairs → Pairs
erase no_pairs = no_pairs
erase (pair k t ps) = pair k nil (erase ps)

has_key-erase : (k : List ℕ) (ps : Pairs) → has_key k (erase ps) ≡ has_key k ps
has_key-erase k no_pairs = refl
has_key-erase k (pair l t ps) = ap (λ (b : Bool). is_eq (slice_cmp nat_cmp k l) || b) (has_key-erase k ps)

erase-match_ordering : (o : Ordering) (a b c : Pairs) → erase (match_ordering o a b c) ≡ match_ordering o (erase a) (erase b) (erase c)
erase-match_ordering Less a b c = refl
erase-match_ordering Equal a b c = refl
erase-match_ordering Greater a b c = refl

erase-put : (k : List ℕ) (t : Tree) (ps : Pairs) → erase (put k t ps) ≡ put k nil (erase ps)
erase-put k t no_pairs = refl
erase-put k t (pair l u ps) = erase-match_ordering (slice_cmp nat_cmp k l) _ _ _ ∙ rw (erase-put k t ps) refl

module _ (read : Reader) where
  -- pairs with the same names behind them leave the same rest
  abbrev AreSame : ℕ → Type 0
  AreSame n = (a b : Pairs) (bytes : List ℕ) → erase a ≡ erase b → rest_of (pairs_at read n a bytes) ≡ rest_of (pairs_at read n b bytes)

  value_same : (n : ℕ) (key : List ℕ) (a b : Pairs) → erase a ≡ erase b → AreSame n → (again : Bool) (r : Result (Tree × List ℕ) PackFault)
      → rest_of (cond again (Err Repeat) (r >>= λ value. pairs_at read n (put key value.0 a) value.1))
      ≡ rest_of (cond again (Err Repeat) (r >>= λ value. pairs_at read n (put key value.0 b) value.1))
  value_same n key a b e same true r = refl
  value_same n key a b e same false (Ok x) =
      same (put key x.0 a) (put key x.0 b) x.1 (erase-put key x.0 a ∙ ap (put key nil) e ∙ sym (erase-put key x.0 b))
  value_same n key a b e same false (Err f) = refl

  key_same : (n : ℕ) (a b : Pairs) → erase a ≡ erase b → AreSame n → (r : Result (List ℕ × List ℕ) PackFault)
      → rest_of (r >>= λ key. cond (has_key key.0 a) (Err Repeat) (read key.1 >>= λ value. pairs_at read n (put key.0 value.0 a) value.1))
      ≡ rest_of (r >>= λ key. cond (has_key key.0 b) (Err Repeat) (read key.1 >>= λ value. pairs_at read n (put key.0 value.0 b) value.1))
  key_same n a b e same (Ok x) =
      let named : has_key x.0 a ≡ has_key x.0 b = sym (has_key-erase x.0 a) ∙ ap (has_key x.0) e ∙ has_key-erase x.0 b in
      rw named (value_same n x.0 a b e same (has_key x.0 b) (read x.1))
  key_same n a b e same (Err f) = refl

  pairs_same : (n : ℕ) → AreSame n
  unfolding pairs_at
  pairs_same zero a b bytes e = refl
  pairs_same (suc n) a b bytes e = key_same n a b e (pairs_same n) (key_at bytes)

pub names_done : (depth : ℕ) (names : Names) (bytes : List ℕ) → behind_level (level.Pairs depth 0 names) bytes ≡ Ok bytes
unfolding behind_level pairs_at
names_done depth names bytes = refl

-- the value alone
abbrev item_alone : Tree × List ℕ → Result (Items × List ℕ) PackFault
item_alone first = Ok (item first.0 no_items, first.1)

value_then : (depth left : ℕ) (key : List ℕ) (before later : Pairs) → later ≡ put key nil before → (r : Result (Tree × List ℕ) PackFault)
    → rest_of (r >>= λ value. pairs_at (value_at depth) left (put key value.0 before) value.1)
    ≡ (rest_of (r >>= item_alone) >>= λ bytes. rest_of (pairs_at (value_at depth) left later bytes))
value_then depth left key before later puts (Ok x) =
    pairs_same (value_at depth) left (put key x.0 before) later x.1
    (erase-put key x.0 before ∙ sym (erase-put key nil before) ∙ ap erase (sym puts))
value_then depth left key before later puts (Err f) = refl

-- a name's value comes first, and then the later pairs
pub name_passed : (depth left : ℕ) (names later : Names) (bytes key rest : List ℕ) → key_at bytes ≡ Ok (key, rest)
    → has_key key (pairs_view names.entries) ≡ false → pairs_view later.entries ≡ put key nil (pairs_view names.entries)
    → behind_level (level.Pairs depth (suc left) names) bytes
    ≡ (behind_level (level.Values depth 1) rest >>= behind_level (level.Pairs depth left later))
unfolding behind_level pairs_at items_at
name_passed depth left names later bytes key rest named new puts =
    rw (named, new) (value_then depth left key (pairs_view names.entries) (pairs_view later.entries) puts (value_at depth rest))

pub name_short : (depth left : ℕ) (names : Names) (bytes : List ℕ) → key_at bytes ≡ Err Short
    → behind_level (level.Pairs depth (suc left) names) bytes ≡ Err Short
unfolding behind_level pairs_at
name_short depth left names bytes is = rw is refl

-- ---- levels inside each other

bind_ok : (r : Result (List ℕ) PackFault) → r ≡ (r >>= λ bytes. Ok bytes)
bind_ok (Ok x) = refl
bind_ok (Err f) = refl

bind_again : (r : Result (List ℕ) PackFault) (f g : List ℕ → Result (List ℕ) PackFault) → ((r >>= f) >>= g) ≡ (r >>= λ bytes. f bytes >>= g)
bind_again (Ok x) f g = refl
bind_again (Err e) f g = refl

-- the innermost level comes first
all_push : (levels : List Level) (inner : Level) (bytes : List ℕ) → behind_all (levels ++ inner ∷ []) bytes ≡ (behind_level inner bytes >>= behind_all levels)
unfolding behind_all
all_push [] inner bytes = bind_ok (behind_level inner bytes)
all_push (one ∷ levels) inner bytes =
    ap (λ (r : Result (List ℕ) PackFault). r >>= behind_level one) (all_push levels inner bytes)
    ∙ bind_again (behind_level inner bytes) (behind_all levels) (behind_level one)

all_then : (levels : List Level) (later : Level) (r : Result (List ℕ) PackFault)
    → (r >>= behind_all (levels ++ later ∷ [])) ≡ ((r >>= behind_level later) >>= behind_all levels)
all_then levels later (Ok x) = all_push levels later x
all_then levels later (Err f) = refl

module _ (levels : List Level) (inner : Level) (bytes : List ℕ) where
  from_inner : (r : Result (List ℕ) PackFault) → behind_level inner bytes ≡ r → behind_all (levels ++ inner ∷ []) bytes ≡ (r >>= behind_all levels)
  from_inner r is = all_push levels inner bytes ∙ ap (λ (x : Result (List ℕ) PackFault). x >>= behind_all levels) is

  -- the innermost level has all
  pub lacks_done : (rest : List ℕ) → behind_level inner bytes ≡ Ok rest → Lacks levels rest → Lacks (levels ++ inner ∷ []) bytes
  unfolding Lacks
  lacks_done rest is lacks = from_inner (Ok rest) is ∙ lacks

  -- the innermost level lacks bytes
  pub lacks_short : behind_level inner bytes ≡ Err Short → Lacks (levels ++ inner ∷ []) bytes
  unfolding Lacks
  lacks_short is = from_inner (Err Short) is

  -- another level stands in place of the innermost one
  pub lacks_same : (later : Level) (rest : List ℕ) → behind_level inner bytes ≡ behind_level later rest → Lacks (levels ++ later ∷ []) rest
      → Lacks (levels ++ inner ∷ []) bytes
  unfolding Lacks
  lacks_same later rest is lacks = from_inner (behind_level later rest) is ∙ sym (all_push levels later rest) ∙ lacks

  -- two other levels stand in its place
  pub lacks_opened : (later opened : Level) (rest : List ℕ) → behind_level inner bytes ≡ (behind_level opened rest >>= behind_level later)
      → Lacks ((levels ++ later ∷ []) ++ opened ∷ []) rest
      → Lacks (levels ++ inner ∷ []) bytes
  unfolding Lacks
  lacks_opened later opened rest is lacks =
      from_inner (behind_level opened rest >>= behind_level later) is ∙ sym (all_then levels later (behind_level opened rest))
      ∙ sym (all_push (levels ++ later ∷ []) opened rest) ∙ lacks
