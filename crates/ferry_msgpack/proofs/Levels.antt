-- What a value is, by how many arrays and maps may stand inside each other.
use Rattle.std.proofs.Common.{◌≡◌, ℕ, zero, suc, ◌-◌, ◌≤◌, List, [], ◌∷◌, length, get_or, take, drop, refl, sym, ap, ◌∙◌, arith}
use Rattle.std.proofs.lemmas.List.{take_all}
use Rattle.ferry_msgpack.specs.declared.first.First.{First}
use Rattle.ferry_msgpack.specs.declared.first.First.TheVariants.{Refused, Nil, Flag, Small, Unsigned, Signed, Raw, Array, Table}
use Rattle.ferry_msgpack.specs.declared.first.Count.{Count}
use Rattle.ferry_msgpack.specs.FirstView.{first_view}
use Rattle.ferry_msgpack.specs.First as table
use Rattle.ferry_msgpack.specs.Reading.{first_of, value_at, flat_by, array_at, table_at}

behind_first : (b : ℕ) (bytes : List ℕ) → take (length (b ∷ bytes) - 1) (drop 1 (b ∷ bytes)) ≡ bytes
behind_first b bytes = let k : suc (length bytes) - 1 ≡ length bytes = omega arith in rw k (take_all (length bytes) bytes (omega arith))

pub at_bottom : (d : ℕ) (bytes : List ℕ) (first : First) → d ≡ 0 → 1 ≤ length bytes → first_view first ≡ first_of (get_or bytes 0 0)
    → value_at d bytes ≡ flat_by (first_view first) (take (length bytes - 1) (drop 1 bytes))
unfolding value_at
at_bottom d [] first e some is = absurd (omega arith)
at_bottom zero (b ∷ bytes) first e some is = rw (is, behind_first b bytes) refl
at_bottom (suc d) (b ∷ bytes) first e some is = absurd (omega arith)

pub at_array : (d : ℕ) (bytes : List ℕ) (c : table.Count) → (d ≡ 0 → ⊥) → 1 ≤ length bytes → table.array_value c ≡ first_of (get_or bytes 0 0)
    → value_at d bytes ≡ array_at (value_at (d - 1)) c (take (length bytes - 1) (drop 1 bytes))
unfolding value_at
at_array d [] c inner some is = absurd (omega arith)
at_array zero (b ∷ bytes) c inner some is = absurd (inner refl)
at_array (suc d) (b ∷ bytes) c inner some is = let e : suc d - 1 ≡ d = omega arith in rw (behind_first b bytes, e, ← is) refl

pub at_table : (d : ℕ) (bytes : List ℕ) (c : table.Count) → (d ≡ 0 → ⊥) → 1 ≤ length bytes → table.map_value c ≡ first_of (get_or bytes 0 0)
    → value_at d bytes ≡ table_at (value_at (d - 1)) c (take (length bytes - 1) (drop 1 bytes))
unfolding value_at
at_table d [] c inner some is = absurd (omega arith)
at_table zero (b ∷ bytes) c inner some is = absurd (inner refl)
at_table (suc d) (b ∷ bytes) c inner some is = let e : suc d - 1 ≡ d = omega arith in rw (behind_first b bytes, e, ← is) refl

flat_cons : (d b : ℕ) (bytes : List ℕ) (first : First) → first_view first ≡ first_of b → ((c : Count) → first ≡ Array c → ⊥)
    → ((c : Count) → first ≡ Table c → ⊥)
    → value_at d (b ∷ bytes) ≡ flat_by (first_view first) bytes
unfolding value_at
flat_cons zero b bytes first is no_array no_table = rw is refl
flat_cons (suc d) b bytes Refused is no_array no_table = rw (← is) refl
flat_cons (suc d) b bytes Nil is no_array no_table = rw (← is) refl
flat_cons (suc d) b bytes (Flag f) is no_array no_table = rw (← is) refl
flat_cons (suc d) b bytes (Small z) is no_array no_table = rw (← is) refl
flat_cons (suc d) b bytes (Unsigned w) is no_array no_table = rw (← is) refl
flat_cons (suc d) b bytes (Signed w) is no_array no_table = rw (← is) refl
flat_cons (suc d) b bytes (Raw c) is no_array no_table = rw (← is) refl
flat_cons (suc d) b bytes (Array c) is no_array no_table = absurd (no_array c refl)
flat_cons (suc d) b bytes (Table c) is no_array no_table = absurd (no_table c refl)

pub at_flat : (d : ℕ) (bytes : List ℕ) (first : First) → 1 ≤ length bytes → first_view first ≡ first_of (get_or bytes 0 0)
    → ((c : Count) → first ≡ Array c → ⊥) → ((c : Count) → first ≡ Table c → ⊥)
    → value_at d bytes ≡ flat_by (first_view first) (take (length bytes - 1) (drop 1 bytes))
at_flat d [] first some is no_array no_table = absurd (omega arith)
at_flat d (b ∷ bytes) first some is no_array no_table =
    flat_cons d b bytes first is no_array no_table ∙ ap (flat_by (first_view first)) (sym (behind_first b bytes))
