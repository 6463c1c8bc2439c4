-- The walk through a map, pair by pair.
use Rattle.std.proofs.Common.{◌≡◌, ℕ, suc, ◌+◌, ◌-◌, ◌≤◌, ◌<◌, true, false, List, ◌++◌, length, take, drop, Option, Some, None, refl, sym, ap, subst, ◌∙◌}
use Rattle.std.proofs.Common.{arith}
use Rattle.std.proofs.lemmas.List.{take-append-drop, take_all, length-drop}
use Rattle.ferry_msgpack.specs.declared.fault.PackFault.{PackFault}
use Rattle.ferry_msgpack.specs.Tree.{Tree}
use Rattle.ferry_msgpack.specs.Spelling.{Spells}
use Rattle.ferry_msgpack.specs.Faults.{Breaks}
use Rattle.ferry_msgpack.specs.Calls.Read.{StandsAt}
use Rattle.ferry_msgpack.proofs.SpellingLemmas.{value_again, value_breaks}
use Rattle.ferry_manifest.specs.Walk.{value_front, was_read, is_raw, behind_name}

-- ---- the value in front

pub value_front-spelled : (t : Tree) (front rest : List ℕ) → Spells t front → value_front (front ++ rest) ≡ Some (t, rest)
unfolding value_front
value_front-spelled t front rest spelled = ap was_read (value_again 64 t front rest spelled)

-- what `read` found at the place 0
pub value_front-found : (bytes : List ℕ) (t : Tree) (stop : ℕ) → StandsAt bytes 0 t stop
    → value_front bytes ≡ Some (t, take (length bytes - stop) (drop stop bytes))
value_front-found bytes t stop stands =
    let size : stop - 0 ≡ stop = omega arith in
    let spelled : Spells t (take stop bytes) = subst (λ (n : ℕ). Spells t (take n bytes)) size stands.spelled in
    let rest : take (length bytes - stop) (drop stop bytes) ≡ drop stop bytes =
    take_all (length bytes - stop) (drop stop bytes) (omega (arith, length-drop stop bytes)) in
    rw rest (ap value_front (sym (take-append-drop stop bytes)) ∙ value_front-spelled t (take stop bytes) (drop stop bytes) spelled)

pub value_front-broken : (bytes : List ℕ) (fault : PackFault) → Breaks bytes fault → value_front bytes ≡ None
unfolding value_front
value_front-broken bytes fault broken = ap was_read (value_breaks 64 bytes fault broken)

-- ---- pair by pair

module _ (name : List ℕ) (count place : ℕ) (rest : List ℕ) (total : Option (List ℕ)) (so_far : behind_name name (count - place) rest ≡ total) where
  pub name_here : (key : Tree) (after : List ℕ) → place < count → value_front rest ≡ Some (key, after) → is_raw name key ≡ true → total ≡ Some after
  unfolding behind_name
  name_here key after lt read named =
      let k : count - place ≡ suc (count - (place + 1)) = omega arith in
      let one : behind_name name (count - place) rest ≡ Some after = rw (k, read, named) refl in
      sym so_far ∙ one

  pub key_lost : place < count → value_front rest ≡ None → total ≡ None
  unfolding behind_name
  key_lost lt read =
      let k : count - place ≡ suc (count - (place + 1)) = omega arith in
      let one : behind_name name (count - place) rest ≡ None = rw (k, read) refl in
      sym so_far ∙ one

  pub value_lost : (key : Tree) (after : List ℕ) → place < count → value_front rest ≡ Some (key, after) → is_raw name key ≡ false → value_front after ≡ None
      → total ≡ None
  unfolding behind_name
  value_lost key after lt read other lost =
      let k : count - place ≡ suc (count - (place + 1)) = omega arith in
      let one : behind_name name (count - place) rest ≡ None = rw (k, read, other, lost) refl in
      sym so_far ∙ one

  pub name_later : (key : Tree) (after : List ℕ) (value : Tree) (next : List ℕ) → place < count → value_front rest ≡ Some (key, after)
      → is_raw name key ≡ false → value_front after ≡ Some (value, next)
      → behind_name name (count - (place + 1)) next ≡ total
  unfolding behind_name
  name_later key after value next lt read other found =
      let k : count - place ≡ suc (count - (place + 1)) = omega arith in
      let one : behind_name name (count - place) rest ≡ behind_name name (count - (place + 1)) next = rw (k, read, other, found) refl in
      sym one ∙ so_far

  pub name_nowhere : count ≤ place → total ≡ None
  unfolding behind_name
  name_nowhere le =
      let k : count - place ≡ 0 = omega arith in
      let one : behind_name name (count - place) rest ≡ None = rw k refl in
      sym so_far ∙ one
