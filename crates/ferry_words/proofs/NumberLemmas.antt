-- Lemmas on the numbers among words.
use Rattle.std.proofs.Common.{◌≡◌, ℕ, ◌^◌, ◌<◌, ◌≤◌, nat_le, Bool, true, false, if◌then◌else◌, ◌&&◌, ◌||◌, List, [], ◌∷◌, length, get_or, Option, Some, None}
use Rattle.std.proofs.Common.{Result, Ok, Err, refl, arith}
use Rattle.std.proofs.lemmas.Bool.{leb-true, lt-ltb}
use Rattle.std.proofs.lemmas.Str.Parse.{numerals_by_value, parse_plain, tells_all_ascii_digits}
use Rattle.std.specs.Option.{SomeIff, option_and_then}
use Rattle.std.specs.Result.{OkIff, result_ok}
use Rattle.std.specs.Str.{all_ascii_digits}
use Rattle.std.specs.Str.Parse.{ParsesUnsigned, digits_value}
use Rattle.ferry_words.specs.Words.{block, block_of, checkpoint, checkpoint_of, count_of, is_decimal, iterations}
use Rattle.ferry_words.specs.Words.{iterations_of, number_of, number_or, threshold, threshold_of, value_of}

left : (a b : Bool) → (a && b) ≡ true → a ≡ true
left true b h = refl
left false b h = h

decimal_read : {E : Type 0} (word : List ℕ) (read : Result ℕ E) → 48 < get_or word 0 0 → 0 < length word
    → OkIff read ((all_ascii_digits word ≡ true) × (0 < length word) × (digits_value 10 word < 2 ^ 32)) (digits_value 10 word)
    → SomeIff (result_ok read) ((is_decimal word ≡ true) × (digits_value 10 word < 2 ^ 32)) (digits_value 10 word)
decimal_read word (Ok number) first some h =
    let digits = h.0.0 in
    let leads = lt-ltb _ _ first in
    ((rw (digits, leads) (or_true _), h.0.2), h.1)
  where
    or_true : (a : Bool) → (a || true) ≡ true
    or_true true = refl
    or_true false = refl
decimal_read word (Err error) first some h = λ is. h (left _ _ is.0, some, is.1)

some : (word : List ℕ) → 48 < get_or word 0 0 → 0 < length word
some [] first = absurd (omega arith)
some (digit ∷ rest) first = omega arith

-- a text that begins with neither a zero nor a sign is parsed as it is
pub decimal_parsed : {E : Type 0} (word : List ℕ) (read : Result ℕ E) → ParsesUnsigned 32 10 word read → 48 < get_or word 0 0
    → SomeIff (result_ok read) ((is_decimal word ≡ true) × (digits_value 10 word < 2 ^ 32)) (digits_value 10 word)
decimal_parsed word read parsed first =
    decimal_read word read first (some word first)
    (parse_plain (numerals_by_value (λ (text : List ℕ). all_ascii_digits text ≡ true) tells_all_ascii_digits) 32 word read parsed
    (λ e. omega (arith, e, first)))

-- ---- number_given

-- a number is from least to most
abbrev IsWithin : ℕ → ℕ → ℕ → Type 0
IsWithin least most number = (least ≤ number) × (number ≤ most)

within_by : (least most default number : ℕ) (written reaches within : Bool) → nat_le least number ≡ reaches → nat_le number most ≡ within
    → IsWithin least most default → IsWithin least most (number_or default (if written && (reaches && within) then Some number else None))
within_by least most default number true true true r w h = (leb-true _ _ r, leb-true _ _ w)
within_by least most default number true true false r w h = h
within_by least most default number true false within r w h = h
within_by least most default number false reaches within r w h = h

number_within : (least most default : ℕ) (value : Option (List ℕ)) → IsWithin least most default
    → IsWithin least most (number_or default (option_and_then (number_of least most) value))
unfolding number_of
number_within least most default None h = h
number_within least most default (Some word) h =
    within_by least most default (digits_value 10 word) (is_decimal word) (nat_le least (digits_value 10 word))
    (nat_le (digits_value 10 word) most) refl refl h

pub iterations_in_range : (given : List (List ℕ)) → (1 ≤ iterations_of given) × (iterations_of given ≤ 10000000)
iterations_in_range given = number_within 1 10000000 100000 (value_of given iterations.name) (omega arith, omega arith)

pub block_in_range : (given : List (List ℕ)) → (64 ≤ block_of given) × (block_of given ≤ 8388608)
block_in_range given = number_within 64 8388608 2097152 (value_of given block.name) (omega arith, omega arith)

pub checkpoint_in_range : (given : List (List ℕ)) → (1 ≤ checkpoint_of given) × (checkpoint_of given ≤ 1000000)
checkpoint_in_range given = number_within 1 1000000 1024 (value_of given checkpoint.name) (omega arith, omega arith)

pub threshold_in_range : (given : List (List ℕ)) → threshold_of given ≤ 100
threshold_in_range given = (number_within 0 100 10 (value_of given threshold.name) (omega arith, omega arith)).1

option_within : (least most default : ℕ) (word : List ℕ) → IsWithin least most default → IsWithin least most (number_or default (number_of least most word))
option_within least most default word h = number_within least most default (Some word) h

pub count_in_range : (operands : List (List ℕ)) → (1 ≤ count_of operands) × (count_of operands ≤ 64)
count_in_range operands = option_within 1 64 1 (get_or operands 0 []) (omega arith, omega arith)
