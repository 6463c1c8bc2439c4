-- Names and archives, read one after the other.
use Rattle.std.proofs.Common.{◌≡◌, ℕ, ◌+◌, ◌≤◌, ◌<◌, List, [], ◌∷◌, ◌++◌, length, get_or, drop, map, fold, Vec, Global, Option, Some, None, option_map}
use Rattle.std.proofs.Common.{option_and_then, Ordering, Less, Equal, Greater, nat_cmp, refl, sym, ap, ◌∙◌, append_assoc, append-nil, add-one, drop-cons}
use Rattle.std.proofs.lemmas.List.{drop_all}
use Rattle.std.specs.Cmp.Lexicographic.{slice_cmp}
use Rattle.std.specs.Ordering.{match_ordering}
use Rattle.std.specs.BTreeSet.{insert_key}
use Rattle.ferry_msgpack.specs.declared.value.Value.{Value}
use Rattle.ferry_msgpack.specs.Tree.{item, Items, Pairs}
use Rattle.ferry_msgpack.specs.View.{value_view, items_view, pairs_view}
use Rattle.ferry_msgpack.proofs.ViewLemmas.{Entry}
use Rattle.ferry_fields.specs.Fields.{raw_of, pairs_in}
use Rattle.ferry_fields.proofs.FieldLemmas.{pairs-drop}
use Rattle.ferry_manifest.specs.declared.manifest.ArchiveRef.{ArchiveRef}
use Rattle.ferry_manifest.specs.Manifest.Text.{archive_from, archives_of, in_order, raws_in}

-- ---- names

-- the names that vectors hold
abbrev pub names_view : List (Vec ℕ Global) → List (List ℕ)
names_view names = map (λ name. name.items) names

-- the order of names in a `BTreeSet` of them
abbrev pub name_cmp : Vec ℕ Global → Vec ℕ Global → Ordering
name_cmp a b = slice_cmp nat_cmp a.items b.items

names_view-match : (o : Ordering) (a b c : List (Vec ℕ Global))
    → names_view (match_ordering o a b c) ≡ match_ordering o (names_view a) (names_view b) (names_view c)
names_view-match Less a b c = refl
names_view-match Equal a b c = refl
names_view-match Greater a b c = refl

pub names_view-insert : (names : List (Vec ℕ Global)) (name : Vec ℕ Global)
    → names_view (insert_key name_cmp names name) ≡ insert_key (slice_cmp nat_cmp) (names_view names) name.items
names_view-insert [] name = refl
names_view-insert (n ∷ names) name = names_view-match (name_cmp name n) _ _ _ ∙ rw (names_view-insert names name) refl

-- these names, and of the values from here on those that they are
unfoldable pub names_with : List (Vec ℕ Global) → Items → Option (List (List ℕ))
names_with names items = option_map (fold (insert_key (slice_cmp nat_cmp)) (names_view names)) (raws_in items)

pub items-drop : (vs : List Value) (place : ℕ) (v : Value) → place < length vs
    → items_view (drop place vs) ≡ item (value_view (get_or vs place v)) (items_view (drop (place + 1) vs))
items-drop vs place v lt = rw (add-one place) (ap items_view (drop-cons vs place v lt))

pub names_start : (vs : List Value) → names_with [] (items_view (drop 0 vs)) ≡ option_map in_order (raws_in (items_view vs))
unfolding names_with in_order
names_start vs = refl

names_after : (names : List (List ℕ)) (name : List ℕ) (rest : Option (List (List ℕ)))
    → option_map (fold (insert_key (slice_cmp nat_cmp)) names) (option_map (λ contents. name ∷ contents) rest)
    ≡ option_map (fold (insert_key (slice_cmp nat_cmp)) (insert_key (slice_cmp nat_cmp) names name)) rest
names_after names name None = refl
names_after names name (Some rest) = refl

pub names_more : (names : List (Vec ℕ Global)) (name : Vec ℕ Global) (vs : List Value) (place : ℕ) (v : Value) → place < length vs
    → raw_of (value_view (get_or vs place v)) ≡ Some name.items
    → names_with (insert_key name_cmp names name) (items_view (drop (place + 1) vs)) ≡ names_with names (items_view (drop place vs))
unfolding names_with raws_in
names_more names name vs place v lt is =
    let rest = raws_in (items_view (drop (place + 1) vs)) in
    let here : raws_in (items_view (drop place vs)) ≡ option_map (λ contents. name.items ∷ contents) rest = rw (items-drop vs place v lt, is) refl in
    rw (here, names_view-insert names name) (sym (names_after (names_view names) name.items rest))

pub names_fail : (vs : List Value) (place : ℕ) (v : Value) → place < length vs → raw_of (value_view (get_or vs place v)) ≡ None
    → raws_in (items_view (drop place vs)) ≡ None
unfolding raws_in
names_fail vs place v lt is = rw (items-drop vs place v lt, is) refl

no_more : (x : Option (List (List ℕ))) → option_map in_order x ≡ None → x ≡ None
no_more None e = refl
no_more (Some names) e = cc

-- a value that isn't bytes
pub names_lost : (names : List (Vec ℕ Global)) (vs : List Value) (place : ℕ) (v : Value) → place < length vs → raw_of (value_view (get_or vs place v)) ≡ None
    → names_with names (items_view (drop place vs)) ≡ option_map in_order (raws_in (items_view vs)) → raws_in (items_view vs) ≡ None
unfolding names_with
names_lost names vs place v lt is so_far =
    let none : names_with names (items_view (drop place vs)) ≡ None = rw (names_fail vs place v lt is) refl in
    no_more (raws_in (items_view vs)) (sym so_far ∙ none)

pub names_done : (names : List (Vec ℕ Global)) (vs : List Value) (place : ℕ) → length vs ≤ place
    → names_with names (items_view (drop place vs)) ≡ Some (names_view names)
unfolding names_with raws_in
names_done names vs place le = rw (drop_all place vs le) refl

-- ---- archives

-- these archives, and those of the pairs from here on
unfoldable pub archives_with : List ArchiveRef → Pairs → Option (List ArchiveRef)
archives_with archives pairs = option_map (λ others. archives ++ others) (archives_of pairs)

append_none : (o : Option (List ArchiveRef)) → option_map (λ others. [] ++ others) o ≡ o
append_none None = refl
append_none (Some others) = refl

pub archives_start : (es : List Entry) → archives_with [] (pairs_view (drop 0 es)) ≡ archives_of (pairs_view es)
unfolding archives_with
archives_start es = append_none (archives_of (pairs_view es))

archives_after : (archives : List ArchiveRef) (archive : ArchiveRef) (o : Option (List ArchiveRef))
    → option_map (λ others. archives ++ others) (option_map (λ others. archive ∷ others) o) ≡ option_map (λ others. (archives ++ archive ∷ []) ++ others) o
archives_after archives archive None = refl
archives_after archives archive (Some others) = ap (λ all. Some all) (sym (append_assoc archives (archive ∷ []) others))

pub archives_more : (archives : List ArchiveRef) (archive : ArchiveRef) (es : List Entry) (place : ℕ) (e : Entry) → place < length es
    → option_and_then (archive_from (get_or es place e).0.items) (pairs_in (value_view (get_or es place e).1)) ≡ Some archive
    → archives_with (archives ++ archive ∷ []) (pairs_view (drop (place + 1) es)) ≡ archives_with archives (pairs_view (drop place es))
unfolding archives_with archives_of
archives_more archives archive es place e lt is =
    let rest = archives_of (pairs_view (drop (place + 1) es)) in
    let here : archives_of (pairs_view (drop place es)) ≡ option_map (λ others. archive ∷ others) rest = rw (pairs-drop es place e lt, is) refl in
    rw here (sym (archives_after archives archive rest))

-- a value that is no map with an id and a time
pub archives_lost : (archives : List ArchiveRef) (es : List Entry) (place : ℕ) (e : Entry) → place < length es
    → option_and_then (archive_from (get_or es place e).0.items) (pairs_in (value_view (get_or es place e).1)) ≡ None
    → archives_with archives (pairs_view (drop place es)) ≡ archives_of (pairs_view es) → archives_of (pairs_view es) ≡ None
unfolding archives_with archives_of
archives_lost archives es place e lt is so_far =
    let here : archives_of (pairs_view (drop place es)) ≡ None = rw (pairs-drop es place e lt, is) refl in
    let none : archives_with archives (pairs_view (drop place es)) ≡ None = rw here refl in
    sym so_far ∙ none

pub archives_done : (archives : List ArchiveRef) (es : List Entry) (place : ℕ) → length es ≤ place
    → archives_with archives (pairs_view (drop place es)) ≡ Some archives
unfolding archives_with archives_of
archives_done archives es place le = rw (drop_all place es le) (ap (λ all. Some all) (append-nil archives))
