-- The map that bytes spell with nothing behind it.
use Rattle.std.proofs.Common.{◌≡◌, ◌≢◌, ℕ, ◌-◌, ◌<◌, List, [], ◌∷◌, length, take, drop, Some, None, Result, Ok, Err, refl, sym, ap, subst, ◌∙◌, arith}
use Rattle.std.proofs.Common.{append-nil}
use Rattle.std.proofs.lemmas.List.{take-append-drop, length-drop, drop_all}
use Rattle.ferry_msgpack.specs.declared.fault.PackFault.{PackFault}
use Rattle.ferry_msgpack.specs.Tree.{Tree, nil, flag, number, raw, array, table, Pairs}
use Rattle.ferry_msgpack.specs.Spelling.{Spells, SpellsWithin}
use Rattle.ferry_msgpack.specs.Faults.{Breaks}
use Rattle.ferry_msgpack.specs.Reading.{value_at}
use Rattle.ferry_msgpack.specs.Calls.Read.{StandsAt}
use Rattle.ferry_msgpack.specs.Shortest.{shortest}
use Rattle.ferry_msgpack.specs.Writable.{IsWritable}
use Rattle.ferry_msgpack.proofs.ShortestLemmas.{shortest_spelled}
use Rattle.ferry_msgpack.proofs.SpellingLemmas.{Tells, value_tells, value_again, value_breaks}
use Rattle.ferry_fields.specs.Fields.{map_of, only_map, pairs_in}

-- what is spelled is read
pub map_of-spelled : (bytes : List ℕ) (t : Tree) → Spells t bytes → map_of bytes ≡ pairs_in t
unfolding map_of
map_of-spelled bytes t spelled = ap (λ (s : List ℕ). only_map (value_at 64 s)) (sym (append-nil bytes)) ∙ ap only_map (value_again 64 t bytes [] spelled)

-- what stands in front
stands_in_front : (bytes : List ℕ) (t : Tree) (stop : ℕ) → StandsAt bytes 0 t stop → value_at 64 bytes ≡ Ok (t, drop stop bytes)
stands_in_front bytes t stop stands =
    let size : stop - 0 ≡ stop = omega arith in
    let spelled : Spells t (take stop bytes) = subst (λ (n : ℕ). Spells t (take n bytes)) size stands.spelled in
    ap (value_at 64) (sym (take-append-drop stop bytes)) ∙ value_again 64 t (take stop bytes) (drop stop bytes) spelled

-- where all of the bytes are the value, it is read
pub map_of-whole : (bytes : List ℕ) (t : Tree) (stop : ℕ) → StandsAt bytes 0 t stop → stop ≡ length bytes → map_of bytes ≡ pairs_in t
unfolding map_of
map_of-whole bytes t stop stands whole =
    ap only_map (stands_in_front bytes t stop stands ∙ ap (λ (rest : List ℕ). Ok (t, rest)) (drop_all stop bytes (omega arith)))

only_map-behind : (t : Tree) (rest : List ℕ) → 0 < length rest → only_map (Ok (t, rest)) ≡ None
only_map-behind t [] lt = absurd (omega arith)
only_map-behind t (b ∷ rest) lt = refl

-- where bytes follow it, none is
pub map_of-behind : (bytes : List ℕ) (t : Tree) (stop : ℕ) → StandsAt bytes 0 t stop → stop ≢ length bytes → map_of bytes ≡ None
unfolding map_of
map_of-behind bytes t stop stands part =
    let within = stands.within in
    ap only_map (stands_in_front bytes t stop stands) ∙ only_map-behind t (drop stop bytes) (omega (arith, length-drop stop bytes, within, part))

-- where no value is spelled, none is read
pub map_of-broken : (bytes : List ℕ) (fault : PackFault) → Breaks bytes fault → map_of bytes ≡ None
unfolding map_of
map_of-broken bytes fault broken = ap only_map (value_breaks 64 bytes fault broken)

only_pairs : (bytes : List ℕ) (pairs : Pairs) (t : Tree) → SpellsWithin 64 t bytes → pairs_in t ≡ Some pairs → Spells (table pairs) bytes
only_pairs bytes pairs nil spelled e = cc
only_pairs bytes pairs (flag b) spelled e = cc
only_pairs bytes pairs (number z) spelled e = cc
only_pairs bytes pairs (raw content) spelled e = cc
only_pairs bytes pairs (array items) spelled e = cc
only_pairs bytes pairs (table ps) spelled e =
    let same : ps ≡ pairs = cc in
    subst (λ (qs : Pairs). Spells (table qs) bytes) same spelled

map_tells : (bytes : List ℕ) (pairs : Pairs) (r : Result (Tree × List ℕ) PackFault) → Tells 64 bytes r → only_map r ≡ Some pairs → Spells (table pairs) bytes
map_tells bytes pairs (Err fault) told e = cc
map_tells bytes pairs (Ok (t, [])) told e =
    let whole : told.0 ≡ bytes = sym (told.1 ∙ append-nil told.0) in
    only_pairs bytes pairs t (subst (λ (s : List ℕ). SpellsWithin 64 t s) whole told.2) e
map_tells bytes pairs (Ok (t, b ∷ rest)) told e = cc

-- what is read is spelled
pub spelled-map_of : (bytes : List ℕ) (pairs : Pairs) → map_of bytes ≡ Some pairs → Spells (table pairs) bytes
unfolding map_of
spelled-map_of bytes pairs e = map_tells bytes pairs (value_at 64 bytes) (value_tells 64 bytes) e

-- what is written of a map is read again
pub map_of-shortest : (pairs : Pairs) → IsWritable (table pairs) → map_of (shortest (table pairs)) ≡ Some pairs
map_of-shortest pairs writable = map_of-spelled (shortest (table pairs)) (table pairs) (shortest_spelled (table pairs) writable)
