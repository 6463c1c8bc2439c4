-- The tree of a value, level by level, and a `BTreeMap` beside the pairs that it stands for.
use Rattle.std.proofs.Common.{◌≡◌, ℕ, List, [], ◌∷◌, ◌++◌, Vec, Global, Ordering, Less, Equal, Greater, nat_cmp, is_eq, is_some, cond, Bool, true, false, Some}
use Rattle.std.proofs.Common.{◌||◌, refl, ap, ◌∙◌, rules}
use Rattle.std.specs.Cmp.Lexicographic.{slice_cmp}
use Rattle.std.specs.Ordering.{match_ordering}
use Rattle.std.specs.Map.{lookup}
use Rattle.std.specs.BTreeMap.{insert_entry, is_at}
use Rattle.ferry_msgpack.specs.Tree.{nil, flag, number, raw, array, table, no_items, item, has_key, put}
use Rattle.ferry_msgpack.specs.View.{value_view, items_view, pairs_view}
use Rattle.ferry_msgpack.proofs.Loops.{append_items}
use Rattle.ferry_msgpack.specs.declared.value.Value.{Value, Nil, Flag, Number, Raw, Array, Table, the_lemmas}

abbrev pub Entry : Type 0
Entry = Vec ℕ Global × Value

pub view_array : (v : Vec Value Global) → value_view (Array v) ≡ array (items_view v.items)
view_array v = search (rules, the_lemmas)

pub view_table : (v : Vec Entry Global) → value_view (Table v) ≡ table (pairs_view v.items)
view_table v = search (rules, the_lemmas)

pub view_raw : (v : Vec ℕ Global) → value_view (Raw v) ≡ raw v.items
view_raw v = search (rules, the_lemmas)

pub view_nil : value_view Nil ≡ nil
view_nil = search (rules, the_lemmas)

pub view_flag : (b : Bool) → value_view (Flag b) ≡ flag b
view_flag b = search (rules, the_lemmas)

pub view_number : (z : _) → value_view (Number z) ≡ number z
view_number z = search (rules, the_lemmas)

-- the order of the keys in a `BTreeMap` of them
abbrev pub key_cmp : Vec ℕ Global → Vec ℕ Global → Ordering
key_cmp a b = slice_cmp nat_cmp a.items b.items

pairs_view-match_ordering : (o : Ordering) (a b c : List Entry)
    → pairs_view (match_ordering o a b c) ≡ match_ordering o (pairs_view a) (pairs_view b) (pairs_view c)
pairs_view-match_ordering Less a b c = refl
pairs_view-match_ordering Equal a b c = refl
pairs_view-match_ordering Greater a b c = refl

pub pairs_view-insert_entry : (es : List Entry) (k : Vec ℕ Global) (v : Value)
    → pairs_view (insert_entry key_cmp es k v) ≡ put k.items (value_view v) (pairs_view es)
pairs_view-insert_entry [] k v = refl
pairs_view-insert_entry (e ∷ es) k v = pairs_view-match_ordering (key_cmp k e.0) _ _ _ ∙ rw (pairs_view-insert_entry es k v) refl

found_or : (b : Bool) (v : Value) (rest : _) (d : Bool) → is_some rest ≡ d → is_some (cond b (Some v) rest) ≡ b || d
found_or true v rest d e = refl
found_or false v rest d e = e

-- the map has a key where its pairs have it
pub has_key-lookup : (key : List ℕ) (es : List Entry) → is_some (lookup (is_at (λ k. slice_cmp nat_cmp key k.items)) es) ≡ has_key key (pairs_view es)
has_key-lookup key [] = refl
has_key-lookup key (e ∷ es) = found_or (is_eq (slice_cmp nat_cmp key e.0.items)) e.1 _ _ (has_key-lookup key es)

pub items_view-push : (vs : List Value) (v : Value) → items_view (vs ++ v ∷ []) ≡ append_items (items_view vs) (item (value_view v) no_items)
items_view-push [] v = refl
items_view-push (u ∷ vs) v = ap (item (value_view u)) (items_view-push vs v)
