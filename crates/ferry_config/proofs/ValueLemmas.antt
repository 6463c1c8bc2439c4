-- Lemmas on the numbers of a config.
use Rattle.std.proofs.Common.{◌≡◌, ℕ, ◌+◌, ◌-◌, ◌*◌, ◌<◌, ◌≤◌, true, false, ◌&&◌, List, [], ◌∷◌, length, drop, get_or, refl, ap, sym, ◌∙◌, arith, add-one}
use Rattle.std.proofs.Common.{drop-cons, Some, None, if◌then◌else◌, nat_le, ◌==◌, ◌≢◌, inl, inr, rules, ◌^◌, not, eq-eqb}
use Rattle.std.proofs.lemmas.Bool.{cases_Bool, le-leb, leb-true}
use Rattle.std.proofs.lemmas.Fmt.{digits_decimal, digits_value-decimal, first_decimal, decimal-digits_value}
use Rattle.std.proofs.lemmas.Str.Parse.{IsNumeralModel, numerals_by_fold}
use Rattle.std.proofs.lemmas.Option.{cond_some}
use Rattle.std.specs.Char.{is_ascii_digit}
use Rattle.std.specs.Fmt.{decimal}
use Rattle.std.specs.Str.{all_ascii_digits}
use Rattle.ferry_config.proofs.BoolLemmas.{and_left, and_right, false_true, not_equal, not_true}
use Rattle.ferry_config.specs.Value.{greatest, number_from, number_of}

-- digits add to the number before them
pub number_from-ge : (before : ℕ) (text : List ℕ) → before ≤ number_from before text
unfolding number_from
number_from-ge before [] = omega arith
number_from-ge before (digit ∷ rest) = omega (arith, number_from-ge (10 * before + (digit - 48)) rest)

-- one more digit
pub number_from-drop : (before : ℕ) (text : List ℕ) (i : ℕ) → i < length text
    → number_from before (drop i text) ≡ number_from (10 * before + (get_or text i 0 - 48)) (drop (i + 1) text)
unfolding number_from
number_from-drop before text i within = rw (add-one i, drop-cons text i 0 within) refl

-- one more byte that is a digit
pub digits-drop : (text : List ℕ) (i : ℕ) → i < length text → is_ascii_digit (get_or text i 0) ≡ true
    → all_ascii_digits (drop i text) ≡ all_ascii_digits (drop (i + 1) text)
digits-drop text i within digit = rw (add-one i, drop-cons text i 0 within, digit) refl

pub number_from-nil : (before : ℕ) → number_from before [] ≡ before
unfolding number_from
number_from-nil before = refl

-- the number that is spelled, where the digits are read to their end
pub spelled-end : (text : List ℕ) (number : ℕ) → all_ascii_digits text ≡ true → number_from 0 text ≡ number → number ≤ greatest
    → Some number ≡ (if all_ascii_digits text && nat_le (number_from 0 text) greatest then Some (number_from 0 text) else None)
spelled-end text number digits same small =
    let fits : nat_le number greatest ≡ true = le-leb _ _ small in
    rw (digits, same, fits) refl

above : (whole number : ℕ) {rest : ℕ} → number ≤ rest → greatest < number → whole ≡ rest → nat_le whole greatest ≡ false
above whole number {rest} more over same =
    elim (cases_Bool (nat_le whole greatest)) [
      | inl fits ↦ let small : whole ≤ greatest = leb-true _ _ fits in absurd (omega arith)
      | inr other ↦ other
    ]

-- nothing is spelled, where the number is already greater
pub spelled-over : (text : List ℕ) (number : ℕ) (rest : List ℕ) → number_from 0 text ≡ number_from number rest → greatest < number
    → None ≡ (if all_ascii_digits text && nat_le (number_from 0 text) greatest then Some (number_from 0 text) else None)
spelled-over text number rest same over =
    let past : nat_le (number_from 0 text) greatest ≡ false = above _ _ (number_from-ge number rest) over same in
    elim (cases_Bool (all_ascii_digits text)) [ inl digits ↦ rw (digits, past) refl | inr other ↦ rw other refl ]

least_digit : (digit : ℕ) → is_ascii_digit digit ≡ true → 48 ≤ digit
least_digit digit here =
    elim (cases_Bool (nat_le 48 digit)) [ inl least ↦ leb-true _ _ least | inr less ↦ absurd (false_true (sym (rw less at here))) ]

-- digits whose first isn't 0 spell a number from 1 on
pub number_from-positive : (text : List ℕ) → all_ascii_digits text ≡ true → 0 < length text → get_or text 0 0 ≢ 48 → 1 ≤ number_from 0 text
unfolding number_from
number_from-positive [] digits some first = absurd (omega arith)
number_from-positive (digit ∷ rest) digits some first =
    elim (cases_Bool (is_ascii_digit digit)) [
      | inl here ↦
          let least : 48 ≤ digit = least_digit digit here in
          let one : 1 ≤ 0 + (digit - 48) = omega arith in
          omega (arith, one, number_from-ge (0 + (digit - 48)) rest)
      | inr other ↦ absurd (false_true (sym (rw other at digits)))
    ]

-- no digits are no number
pub number_of-empty : (text : List ℕ) → length text ≡ 0 → None ≡ number_of text
unfolding number_of number_from
number_of-empty [] none = refl
number_of-empty (digit ∷ rest) none = absurd (omega arith)

-- where the first digit isn't 0, the number is what is spelled
pub number_of-spelled : (text : List ℕ) → 0 < length text → get_or text 0 0 ≢ 48
    → (if all_ascii_digits text && nat_le (number_from 0 text) greatest then Some (number_from 0 text) else None) ≡ number_of text
unfolding number_of
number_of-spelled text some first =
    let other : get_or text 0 0 == 48 ≡ false = not_equal _ _ first in
    elim (cases_Bool (all_ascii_digits text)) [
      | inl digits ↦
          let positive : nat_le 1 (number_from 0 text) ≡ true = le-leb _ _ (number_from-positive text digits some first) in
          rw (digits, other, positive) refl
      | inr no_digits ↦ rw no_digits refl
    ]

-- ---- a number that is written

-- the digits and their value, as std's lemmas on written numbers take them
written : IsNumeralModel (λ ds. all_ascii_digits ds ≡ true) (number_from 0)
unfolding number_from
written = numerals_by_fold _ (search rules) number_from (search rules)

pub digits-decimal : (n : ℕ) → n ≤ greatest → all_ascii_digits (decimal n) ≡ true
digits-decimal n small = digits_decimal written n (omega arith)

-- a number that is written is read as itself
pub number_of-decimal : (n : ℕ) → 1 ≤ n → n ≤ greatest → number_of (decimal n) ≡ Some n
unfolding number_of
number_of-decimal n least small =
    let below : n < 2 ^ 64 = omega arith in
    let value : number_from 0 (decimal n) ≡ n = digits_value-decimal written n below in
    let high : 48 < get_or (decimal n) 0 0 = first_decimal n least below in
    let first : (get_or (decimal n) 0 0 == 48) ≡ false = not_equal _ _ (λ e. omega arith) in
    rw (digits-decimal n small, first, value, le-leb _ _ least, le-leb _ _ small) refl

some_digits : (text : List ℕ) → 1 ≤ number_from 0 text → 0 < length text
unfolding number_from
some_digits [] least = absurd (omega arith)
some_digits (digit ∷ rest) least = omega arith

-- what is read is written so
pub decimal-number_of : (text : List ℕ) (n : ℕ) → number_of text ≡ Some n → (text ≡ decimal n) × (1 ≤ n) × (n ≤ greatest)
unfolding number_of
decimal-number_of text n found =
    let value = number_from 0 text in
    let parts = cond_some (all_ascii_digits text && (not (get_or text 0 0 == 48) && (nat_le 1 value && nat_le value greatest))) value n found in
    let digits = and_left (all_ascii_digits text) _ parts.0 in
    let others = and_right (all_ascii_digits text) _ parts.0 in
    let first = not_true _ (and_left (not (get_or text 0 0 == 48)) _ others) in
    let range = and_right (not (get_or text 0 0 == 48)) _ others in
    let least : 1 ≤ value = leb-true _ _ (and_left (nat_le 1 value) (nat_le value greatest) range) in
    let small : value ≤ greatest = leb-true _ _ (and_right (nat_le 1 value) (nat_le value greatest) range) in
    let no_zero : get_or text 0 0 ≡ 48 → length text ≡ 1 = λ e. absurd (false_true (sym (eq-eqb _ _ e) ∙ first)) in
    let same : decimal value ≡ text = decimal-digits_value written text digits (some_digits text least) no_zero (omega arith) in
    (sym same ∙ ap decimal parts.1, rw parts.1 at least, rw parts.1 at small)
