-- The laws of spellings and faults, which the crates above cite.
use Rattle.std.proofs.Common.{◌≡◌, ℕ, List, ◌++◌, ◌⊎◌, inl, inr, Result, Ok, Err, sym, ap, ◌∙◌, []}
use Rattle.std.proofs.lemmas.List.{append_cancel_right}
use Rattle.ferry_msgpack.specs.declared.fault.PackFault.{PackFault}
use Rattle.ferry_msgpack.specs.declared.fault.PackFault.TheVariants.{Memory}
use Rattle.ferry_msgpack.specs.Tree.{Tree, Pairs, no_pairs, put}
use Rattle.ferry_msgpack.specs.Spelling.{Spells}
use Rattle.ferry_msgpack.specs.Faults.{BreaksKey, key_missing, key_refused, key_not_raw, key_ends, BreaksWithin, value_missing, value_refused, unsigned_ends}
use Rattle.ferry_msgpack.specs.Faults.{signed_ends, raw_ends, array_too_deep, map_too_deep, array_ends, map_ends, in_array, in_map, BreaksItems, in_first_item}
use Rattle.ferry_msgpack.specs.Faults.{in_later_item, BreaksPairs, in_key, key_stands_before, in_value, in_later_pair, Breaks}
use Rattle.ferry_msgpack.specs.Reading.{value_at}
use Rattle.ferry_msgpack.specs.Shortest.{shortest}
use Rattle.ferry_msgpack.specs.Writable.{IsWritable}
use Rattle.ferry_msgpack.proofs.ShortestLemmas.{shortest_spelled}
use Rattle.ferry_msgpack.proofs.SpellingLemmas.{Tells, value_tells, value_again, value_breaks}
use Rattle.ferry_msgpack.proofs.Places.{same_reading, no_reading, same_fault}

-- no spelling begins another, and bytes spell one value at most
pub one_spelling : (t u : Tree) (a b x y : List ℕ) → Spells t a → Spells u b → a ++ x ≡ b ++ y → (a ≡ b) × (t ≡ u)
one_spelling t u a b x y first second same =
    let read = same_reading (t, x) (u, y) (sym (value_again 64 t a x first) ∙ ap (value_at 64) same ∙ value_again 64 u b y second) in
    let rests : y ≡ x = sym (ap (λ (p : Tree × List ℕ). p.1) read) in
    (append_cancel_right a b x (same ∙ ap (λ (s : List ℕ). b ++ s) rests), ap (λ (p : Tree × List ℕ). p.0) read)

-- where a value is spelled no rule is broken
pub spelled_unbroken : (t : Tree) (front rest : List ℕ) (fault : PackFault) → Spells t front → Breaks (front ++ rest) fault → ⊥
spelled_unbroken t front rest fault spelled broken =
    no_reading (t, rest) fault (sym (value_again 64 t front rest spelled) ∙ value_breaks 64 (front ++ rest) fault broken)

-- one rule at most is the first that is broken
pub one_fault : (bytes : List ℕ) (f g : PackFault) → Breaks bytes f → Breaks bytes g → f ≡ g
one_fault bytes f g first second = same_fault f g (sym (value_breaks 64 bytes f first) ∙ value_breaks 64 bytes g second)

either_tells : (bytes : List ℕ) (r : Result (Tree × List ℕ) PackFault) → Tells 64 bytes r
    → ((t : Tree) × (front : List ℕ) × (rest : List ℕ) × Spells t front × (bytes ≡ front ++ rest)) ⊎ ((fault : PackFault) × Breaks bytes fault)
either_tells bytes (Ok x) told = inl (x.0, told.0, x.1, told.2, told.1)
either_tells bytes (Err f) told = inr (f, told)

-- a value is spelled in front, or a rule is broken
pub spelled_or_broken : (bytes : List ℕ) → ((t : Tree) × (front : List ℕ) × (rest : List ℕ) × Spells t front × (bytes ≡ front ++ rest))
    ⊎ ((fault : PackFault) × Breaks bytes fault)
spelled_or_broken bytes = either_tells bytes (value_at 64 bytes) (value_tells 64 bytes)

key_rule : (bytes : List ℕ) (f : PackFault) → BreaksKey bytes f → f ≡ Memory → ⊥
key_rule bytes f key_missing e = absurd cc
key_rule bytes f (key_refused b rest row) e = absurd cc
key_rule bytes f (key_not_raw b first rest row other) e = absurd cc
key_rule bytes f (key_ends b c rest row ends) e = absurd cc

mutual
  value_rule : (d : ℕ) (bytes : List ℕ) (f : PackFault) → BreaksWithin d bytes f → f ≡ Memory → ⊥
  value_rule d bytes f (value_missing _) e = absurd cc
  value_rule d bytes f (value_refused _ b rest row) e = absurd cc
  value_rule d bytes f (unsigned_ends _ b w rest row lt) e = absurd cc
  value_rule d bytes f (signed_ends _ b w rest row lt) e = absurd cc
  value_rule d bytes f (raw_ends _ b c rest row ends) e = absurd cc
  value_rule d bytes f (array_too_deep b c rest row) e = absurd cc
  value_rule d bytes f (map_too_deep b c rest row) e = absurd cc
  value_rule d bytes f (array_ends inner b c rest row ends) e = absurd cc
  value_rule d bytes f (map_ends inner b c rest row ends) e = absurd cc
  value_rule d bytes f (in_array inner b c n count rest _ row counts broken) e = items_rule inner n rest f broken e
  value_rule d bytes f (in_map inner b c n count rest _ row counts broken) e = pairs_rule inner n no_pairs rest f broken e

  items_rule : (d n : ℕ) (bytes : List ℕ) (f : PackFault) → BreaksItems d n bytes f → f ≡ Memory → ⊥
  items_rule d n bytes f (in_first_item _ m _ _ broken) e = value_rule d bytes f broken e
  items_rule d n bytes f (in_later_item _ m t front rest _ spelled broken) e = items_rule d m rest f broken e

  pairs_rule : (d n : ℕ) (before : Pairs) (bytes : List ℕ) (f : PackFault) → BreaksPairs d n before bytes f → f ≡ Memory → ⊥
  pairs_rule d n before bytes f (in_key _ m _ _ _ broken) e = key_rule bytes f broken e
  pairs_rule d n before bytes f (key_stands_before _ m _ key front rest named again) e = absurd cc
  pairs_rule d n before bytes f (in_value _ m _ key front rest _ named new broken) e = value_rule d rest f broken e
  pairs_rule d n before bytes f (in_later_pair _ m _ key t front middle rest _ named new spelled broken) e = pairs_rule d m (put key t before) rest f broken e

-- want of memory is no rule of the bytes
pub broken_rule : (bytes : List ℕ) (f : PackFault) → Breaks bytes f → f ≡ Memory → ⊥
broken_rule bytes f broken = value_rule 64 bytes f broken

-- two values that can be written are one where their spellings are
pub same_spelling : (t u : Tree) → IsWritable t → IsWritable u → shortest t ≡ shortest u → t ≡ u
same_spelling t u first second same =
    (one_spelling t u (shortest t) (shortest u) [] [] (shortest_spelled t first) (shortest_spelled u second) (ap (λ (s : List ℕ). s ++ []) same)).1
