-- Lemmas on the lines of a text.
use Rattle.std.proofs.Common.{◌≡◌, ℕ, ◌+◌, ◌<◌, Bool, true, false, ◌==◌, nat_lt, ◌≤◌, cond, List, [], ◌∷◌, length, take, drop, Some, None, refl, arith, inl}
use Rattle.std.proofs.Common.{inr}
use Rattle.std.specs.List.{onto_first, position, position_or_len, slice_split}
use Rattle.std.specs.Str.Lines.{lines, lines_of_parts, strip_carriage_return}
use Rattle.std.proofs.lemmas.List.Splits.{slice_split_first, slice_split_none}
use Rattle.std.proofs.lemmas.Bool.{cases_Bool, ltb-false, ltb-true}
use Rattle.std.proofs.lemmas.Bool.Decides.{nat_tests}
use Rattle.std.proofs.lemmas.List.Sums.{fails_before_first}
use Rattle.std.proofs.lemmas.Option.{cond_some}

-- a list that has a first element
pub record IsSome (parts : List (List ℕ)) : Type 0 where
  pub first : List ℕ
  pub more : List (List ℕ)
  pub is : parts ≡ first ∷ more

some_onto : (byte : ℕ) (parts : List (List ℕ)) → IsSome (onto_first byte parts)
some_onto byte [] = record { first = byte ∷ []; more = []; is = refl }
some_onto byte (part ∷ parts) = record { first = byte ∷ part; more = parts; is = refl }

-- a text parts into one part at least
pub some_parts : (p : ℕ → Bool) (text : List ℕ) → IsSome (slice_split p text)
some_parts p [] = record { first = []; more = []; is = refl }
some_parts p (byte ∷ rest) =
    elim (cases_Bool (p byte)) [
      | inl holds ↦ rw holds record { first = []; more = slice_split p rest; is = refl }
      | inr fails ↦ rw fails (some_onto byte (slice_split p rest))
    ]

-- the parts where one stands before the others
pub parts-cons : (x : List ℕ) (parts : List (List ℕ)) → IsSome parts → lines_of_parts (x ∷ parts) ≡ strip_carriage_return x ∷ lines_of_parts parts
parts-cons x parts some = rw some.is refl

-- what the place of the first element that passes says
place_some : (p : ℕ → Bool) (text : List ℕ) (at : ℕ) → position p text ≡ Some at → (position_or_len p text ≡ at) × (at < length text)
place_some p text at found =
    let parts = cond_some (nat_lt (position_or_len p text) (length text)) (position_or_len p text) at found in
    let within : position_or_len p text < length text = ltb-true _ _ parts.0 in
    (parts.1, rw parts.1 at within)

past_the_end : (b : Bool) (at : ℕ) → cond b (Some at) None ≡ None → b ≡ false
past_the_end true at e = cc
past_the_end false at e = refl

-- where no element passes, the list is the one part
place_none : (p : ℕ → Bool) (text : List ℕ) → position p text ≡ None → slice_split p text ≡ text ∷ []
place_none p text none =
    let past : length text ≤ position_or_len p text =
    ltb-false _ _ (past_the_end (nat_lt (position_or_len p text) (length text)) (position_or_len p text) none) in
    slice_split_none p text (λ k d within. fails_before_first p text k d (omega arith))

-- the first line and those behind it, where the first end of a line stands at this place
pub lines-first : (text : List ℕ) (at : ℕ) → position (λ byte. byte == 10) text ≡ Some at
    → lines text ≡ strip_carriage_return (take at text) ∷ lines (drop (at + 1) text)
lines-first text at found =
    let is_end = λ (byte : ℕ). byte == 10 in
    let here = place_some is_end text at found in
    let within : position_or_len is_end text < length text = rw here.0 here.1 in
    rw (slice_split_first is_end text 0 within, here.0)
    (parts-cons (take at text) (slice_split is_end (drop (at + 1) text)) (some_parts is_end (drop (at + 1) text)))

one_part : (text : List ℕ) → 0 < length text → lines_of_parts (text ∷ []) ≡ text ∷ []
one_part text some = grind (arith, nat_tests)

-- the one line where there is no end of a line
pub lines-last : (text : List ℕ) → 0 < length text → position (λ byte. byte == 10) text ≡ None → lines text ≡ text ∷ lines []
lines-last text some none = rw (place_none (λ byte. byte == 10) text none) (one_part text some)
