-- The pairs whose names aren't among some.
use Rattle.std.proofs.Common.{◌≡◌, ℕ, Bool, true, false, not, ◌||◌, List, [], ◌∷◌, ◌++◌, filter, length, refl, sym, ap, ◌∙◌, append_assoc, append-nil, arith}
use Rattle.ferry_msgpack.specs.Tree.{Tree, Pairs, no_pairs, pair}
use Rattle.ferry_msgpack.specs.View.{value_view, pairs_view}
use Rattle.ferry_msgpack.proofs.ViewLemmas.{Entry}
use Rattle.ferry_fields.specs.Others.{is_among, without, has_among}

pub without-among : (names : List (List ℕ)) (name : List ℕ) (t : Tree) (ps : Pairs) → is_among names name ≡ true
    → without names (pair name t ps) ≡ without names ps
unfolding without
without-among names name t ps e = rw e refl

pub without-other : (names : List (List ℕ)) (name : List ℕ) (t : Tree) (ps : Pairs) → is_among names name ≡ false
    → without names (pair name t ps) ≡ pair name t (without names ps)
unfolding without
without-other names name t ps e = rw e refl

pub without-none : (names : List (List ℕ)) → without names no_pairs ≡ no_pairs
unfolding without
without-none names = refl

both_false : (b c : Bool) → (b || c) ≡ false → (b ≡ false) × (c ≡ false)
both_false false c e = (refl, e)
both_false true c e = cc

-- where none of the names is there, all pairs are kept
pub without-apart : (names : List (List ℕ)) (ps : Pairs) → has_among names ps ≡ false → without names ps ≡ ps
unfolding has_among
without-apart names no_pairs apart = without-none names
without-apart names (pair l t ps) apart =
    let both = both_false (is_among names l) (has_among names ps) apart in
    without-other names l t ps both.0 ∙ ap (pair l t) (without-apart names ps both.1)

-- ---- the loop that keeps them

-- whether the name of a pair is another one
abbrev pub is_other : List (List ℕ) → Entry → Bool
is_other names e = not (is_among names e.0.items)

filter_then : (names : List (List ℕ)) (e : Entry) (es : List Entry) (b : Bool) → is_among names e.0.items ≡ b
    → pairs_view (filter (is_other names) es) ≡ without names (pairs_view es)
    → pairs_view (filter (is_other names) (e ∷ es)) ≡ without names (pairs_view (e ∷ es))
filter_then names e es true is rest = rw is (rest ∙ sym (without-among names e.0.items (value_view e.1) (pairs_view es) is))
filter_then names e es false is rest =
    rw is (ap (pair e.0.items (value_view e.1)) rest ∙ sym (without-other names e.0.items (value_view e.1) (pairs_view es) is))

pub without-filter : (names : List (List ℕ)) (es : List Entry) → pairs_view (filter (is_other names) es) ≡ without names (pairs_view es)
without-filter names [] = sym (without-none names)
without-filter names (e ∷ es) = filter_then names e es (is_among names e.0.items) refl (without-filter names es)

-- what was kept, and of the rest what will be
unfoldable pub kept_with : List (List ℕ) → List Entry → List Entry → List Entry
kept_with names kept rest = kept ++ filter (is_other names) rest

pub keep_next : (names : List (List ℕ)) (kept rest : List Entry) (e : Entry) → is_among names e.0.items ≡ false
    → kept_with names kept (e ∷ rest) ≡ kept_with names (kept ++ e ∷ []) rest
unfolding kept_with
keep_next names kept rest e is = rw is (sym (append_assoc kept (e ∷ []) (filter (is_other names) rest)))

pub skip_next : (names : List (List ℕ)) (kept rest : List Entry) (e : Entry) → is_among names e.0.items ≡ true
    → kept_with names kept (e ∷ rest) ≡ kept_with names kept rest
unfolding kept_with
skip_next names kept rest e is = rw is refl

pub kept_all : (names : List (List ℕ)) (kept : List Entry) → kept_with names kept [] ≡ kept
unfolding kept_with
kept_all names kept = append-nil kept

pub kept_none : (names : List (List ℕ)) (rest : List Entry) → kept_with names [] rest ≡ filter (is_other names) rest
unfolding kept_with
kept_none names rest = refl

pub none_left : (es : List Entry) → length es ≡ 0 → es ≡ []
none_left [] e = refl
none_left (e ∷ es) is = absurd (omega arith)
