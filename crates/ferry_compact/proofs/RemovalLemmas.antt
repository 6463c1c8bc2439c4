-- Lemmas on the removal of segments.
use Rattle.std.proofs.Common.{◌≡◌, ℕ, Bool, true, false, nat_lt, if◌then◌else◌, List, [], ◌∷◌, map}
use Rattle.std.proofs.Common.{Option, Result, refl, sym, ◌∙◌, ap, subst, arith}
use Rattle.std.proofs.lemmas.Bool.{ltb-true}
use Rattle.ferry_disk.specs.Act.{RemoveOf, Step}
use Rattle.ferry_disk.specs.Device.{Told}
use Rattle.ferry_write.specs.Script.{Ran, removals}
use Rattle.ferry_write.specs.declared.fault.WriteFault.{WriteFault}

none_below : (n : ℕ) (b : Bool) → nat_lt n 0 ≡ b → b ≡ false
none_below n true is = absurd (let lt = ltb-true n 0 is in omega (arith, lt))
none_below n false is = refl

-- no number is below zero
pub removals_whole : (numbers : List ℕ) → removals 0 numbers ≡ map RemoveOf numbers
removals_whole [] = refl
removals_whole (n ∷ ns) =
    ap (λ (b : Bool). if b then removals 0 ns else RemoveOf n ∷ removals 0 ns) (none_below n (nat_lt n 0) refl)
    ∙ ap (λ (l : List Step). RemoveOf n ∷ l) (removals_whole ns)

pub one_removed : (n : ℕ) (a b : Option Told) (count after : ℕ) (result : Result (Unit {0}) WriteFault) → Ran (RemoveOf n ∷ []) a b count after result
    → Ran (removals 0 (n ∷ [])) a b count after result
one_removed n a b count after result ran =
    subst (λ (s : List Step). Ran s a b count after result) (sym (removals_whole (n ∷ []))) ran

pub all_removed : (numbers : List ℕ) (a b : Option Told) (count after : ℕ) (result : Result (Unit {0}) WriteFault)
    → Ran (removals 0 numbers) a b count after result → Ran (map RemoveOf numbers) a b count after result
all_removed numbers a b count after result ran = subst (λ (s : List Step). Ran s a b count after result) (removals_whole numbers) ran
