-- The value of a name among the pairs of a map.
use Rattle.std.proofs.Common.{◌≡◌, ℕ, zero, suc, ◌+◌, ◌<◌, true, false, List, [], ◌∷◌, length, drop, get_or, codes, ℤ, pos, Some, None, refl, ap, arith}
use Rattle.std.proofs.Common.{add-one, drop-cons}
use Rattle.std.specs.Str.{bytes_eq}
use Rattle.ferry_msgpack.specs.Tree.{Tree, number, raw, table, Pairs, no_pairs, pair}
use Rattle.ferry_msgpack.specs.View.{value_view, pairs_view}
use Rattle.ferry_msgpack.proofs.ViewLemmas.{Entry}
use Rattle.ferry_fields.specs.Fields.{value_of, number_in, raw_in, raw32_in, raw64_in, map_in, has_version_1}

pub value_of-here : (name key : List ℕ) (t : Tree) (ps : Pairs) → bytes_eq key name ≡ true → value_of name (pair key t ps) ≡ Some t
unfolding value_of
value_of-here name key t ps e = rw e refl

pub value_of-other : (name key : List ℕ) (t : Tree) (ps : Pairs) → bytes_eq key name ≡ false → value_of name (pair key t ps) ≡ value_of name ps
unfolding value_of
value_of-other name key t ps e = rw e refl

pub value_of-none : (name : List ℕ) → value_of name no_pairs ≡ None
unfolding value_of
value_of-none name = refl

-- the pairs from a place on are the one there and those behind it
pub pairs-drop : (es : List Entry) (place : ℕ) (e : Entry) → place < length es
    → pairs_view (drop place es) ≡ pair (get_or es place e).0.items (value_view (get_or es place e).1) (pairs_view (drop (place + 1) es))
pairs-drop es place e lt = rw (add-one place) (ap pairs_view (drop-cons es place e lt))

-- the pair at a place is one, whatever stands for a pair that isn't there
pub same_get : (es : List Entry) (place : ℕ) (d e : Entry) → place < length es → get_or es place d ≡ get_or es place e
same_get [] place d e lt = absurd (omega arith)
same_get (f ∷ es) zero d e lt = refl
same_get (f ∷ es) (suc place) d e lt = same_get es place d e (omega arith)

-- ---- fields by their values

pub number_is : (name : List ℕ) (pairs : Pairs) (z : ℤ) → value_of name pairs ≡ Some (number z) → number_in name pairs ≡ Some z
number_is name pairs z e = rw e refl

pub raw_is : (name : List ℕ) (pairs : Pairs) (bytes : List ℕ) → value_of name pairs ≡ Some (raw bytes) → raw_in name pairs ≡ Some bytes
raw_is name pairs bytes e = rw e refl

pub raw32_is : (name : List ℕ) (pairs : Pairs) (bytes : List ℕ) → value_of name pairs ≡ Some (raw bytes) → length bytes ≡ 32 → raw32_in name pairs ≡ Some bytes
raw32_is name pairs bytes e len = rw (e, len) refl

pub raw64_is : (name : List ℕ) (pairs : Pairs) (bytes : List ℕ) → value_of name pairs ≡ Some (raw bytes) → length bytes ≡ 64 → raw64_in name pairs ≡ Some bytes
raw64_is name pairs bytes e len = rw (e, len) refl

pub map_is : (name : List ℕ) (pairs inner : Pairs) → value_of name pairs ≡ Some (table inner) → map_in name pairs ≡ Some inner
map_is name pairs inner e = rw e refl

pub version_is : (pairs : Pairs) → value_of (codes "version") pairs ≡ Some (number (pos 1)) → has_version_1 pairs ≡ true
version_is pairs e = rw e refl
