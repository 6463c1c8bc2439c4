-- Lemmas on specs/Text.antt: the number that is read of a text is the one that it spells, and what is written of a number spells it.
use Rattle.std.proofs.Common.{◌≡◌, ◌⊎◌, inl, inr, ℕ, zero, suc, ◌^◌}
use Rattle.std.proofs.Common.{◌<◌, nat_eq, Bool, true, false, ◌&&◌, if◌then◌else◌, List, [], ◌∷◌, ◌++◌}
use Rattle.std.proofs.Common.{length, take, drop, get_or, slice_index, Option, Some, None, Result, Ok, Err, refl, sym, ◌∙◌, ap, subst, arith}
use Rattle.std.specs.Int.{w64, from_be_bytes, to_be_bytes, byte_at, bytes_high_first}
use Rattle.std.proofs.lemmas.Bool.{and_parts, eqb-true}
use Rattle.std.proofs.lemmas.List.{length-append, length-drop, take-append-drop, get_or-drop}
use Rattle.std.proofs.lemmas.Nat.{from_be_bytes-to_be_bytes_8}
use Rattle.std.proofs.Math.Seq.{take-append_seam}
use Rattle.hex.specs.Hex.{decode_sized, lower_digits}
use Rattle.hex.specs.declared.error.FromHexError.{FromHexError}
use Rattle.hex.proofs.HexLemmas.{decode_of-encode_lower, decode_sized-ok, decode_sized-twice, length-encode_with}
use Rattle.ferry_stops.specs.Counters.{IsNonce, SpellsNumber}
use Rattle.ferry_nonce.specs.Text.{number_text, digits_of, number_of, number_in}

-- ---- what is written of a number

byte_fits : (k n : ℕ) → byte_at k n < 256
byte_fits zero n = omega arith
byte_fits (suc k) n = omega arith

are_bytes_at : (count n i : ℕ) → slice_index (bytes_high_first count n) i < 256
are_bytes_at zero n i = omega arith
are_bytes_at (suc count) n zero = byte_fits count n
are_bytes_at (suc count) n (suc i) = are_bytes_at count n i

pub text_spells : (number : ℕ) → number < 2 ^ 64 → SpellsNumber (number_text number) number
text_spells number fits = record {
  digits = number_text number;
  text_is = inl refl;
  sixteen = length-encode_with lower_digits (to_be_bytes w64 number);
  bytes = to_be_bytes w64 number;
  decoded = decode_of-encode_lower (to_be_bytes w64 number) (λ i. are_bytes_at 8 number i);
  value_is = sym (from_be_bytes-to_be_bytes_8 number fits);
}

-- ---- what is read of a text

number_of_ok : (result : Result (List ℕ) FromHexError) (number : ℕ) → number_of result ≡ Some number
    → (bytes : List ℕ) × (result ≡ Ok bytes) × (number ≡ from_be_bytes w64 bytes)
number_of_ok (Ok bytes) number e = (bytes, refl, (let f : from_be_bytes w64 bytes ≡ number = cc in sym f))
number_of_ok (Err fault) number e = absurd (let no : ⊥ = cc in no)

-- the digits of a text are the text, or stand before its line feed

one_left : (bytes : List ℕ) → length bytes ≡ 1 → get_or bytes 0 0 ≡ 10 → bytes ≡ 10 ∷ []
one_left [] l i = absurd (omega (arith, l))
one_left (b ∷ []) l i = ap (λ (x : ℕ). x ∷ []) i
one_left (b ∷ (x ∷ bytes)) l i = absurd (omega (arith, l))

before_feed : (text : List ℕ) → length text ≡ 17 → get_or text 16 0 ≡ 10 → text ≡ take 16 text ++ (10 ∷ [])
before_feed text l i =
    let left : length (drop 16 text) ≡ 1 = omega (arith, l, length-drop 16 text) in
    let last : get_or (drop 16 text) 0 0 ≡ 10 = get_or-drop 16 text 0 0 ∙ i in
    sym (take-append-drop 16 text) ∙ ap (λ (b : List ℕ). take 16 text ++ b) (one_left (drop 16 text) left last)

parts_by : (text : List ℕ) (b : Bool) → nat_eq (length text) 17 && nat_eq (get_or text 16 0) 10 ≡ b
    → (text ≡ (if b then take 16 text else text)) ⊎ (text ≡ (if b then take 16 text else text) ++ (10 ∷ []))
parts_by text false e = inl refl
parts_by text true e =
    let parts = and_parts (nat_eq (length text) 17) (nat_eq (get_or text 16 0) 10) e in
    inr (before_feed text (eqb-true (length text) 17 parts.0) (eqb-true (get_or text 16 0) 10 parts.1))

parts_of : (text : List ℕ) → (text ≡ digits_of text) ⊎ (text ≡ digits_of text ++ (10 ∷ []))
parts_of text = parts_by text (nat_eq (length text) 17 && nat_eq (slice_index text 16) 10) refl

chosen : (count last : ℕ) (front text digits : List ℕ) → count ≡ 17 → last ≡ 10 → front ≡ digits
    → (if nat_eq count 17 && nat_eq last 10 then front else text) ≡ digits
chosen count last front text digits c l f = rw (c, l) f

last_behind : (xs : List ℕ) (n x : ℕ) → length xs ≡ n → get_or (xs ++ (x ∷ [])) n 0 ≡ x
last_behind [] n x e = rw (sym e) refl
last_behind (y ∷ xs) n x e = rw (sym e) (last_behind xs (length xs) x refl)

front_before : (xs ys : List ℕ) (n : ℕ) → length xs ≡ n → take n (xs ++ ys) ≡ xs
front_before xs ys n e = rw (sym e) (take-append_seam xs ys)

digits_same : (text digits : List ℕ) → (text ≡ digits) ⊎ (text ≡ digits ++ (10 ∷ [])) → length digits ≡ 16 → digits_of text ≡ digits
digits_same text digits (inl e) sixteen =
    subst (λ (t : List ℕ). digits_of t ≡ digits) (sym e) (rw sixteen refl)
digits_same text digits (inr e) sixteen =
    let whole = digits ++ (10 ∷ []) in
    let long : length whole ≡ 17 = omega (arith, sixteen, length-append digits (10 ∷ [])) in
    let last : get_or whole 16 0 ≡ 10 = last_behind digits 16 10 sixteen in
    let front : take 16 whole ≡ digits = front_before digits (10 ∷ []) 16 sixteen in
    subst (λ (t : List ℕ). digits_of t ≡ digits) (sym e) (chosen (length whole) (get_or whole 16 0) (take 16 whole) whole digits long last front)

pub read_spells : (text : List ℕ) (number : ℕ) → number_in text ≡ Some number → SpellsNumber text number
unfolding number_in
read_spells text number e =
    let found = number_of_ok (decode_sized (digits_of text) 8) number e in
    let long : length (digits_of text) ≡ 16 = decode_sized-ok (digits_of text) 8 found.0 found.1 in
    record {
      digits = digits_of text;
      text_is = parts_of text;
      sixteen = long;
      bytes = found.0;
      decoded = sym (decode_sized-twice (digits_of text) 8 long) ∙ found.1;
      value_is = found.2;
    }

pub spelled_read : (text : List ℕ) (number : ℕ) → SpellsNumber text number → number_in text ≡ Some number
unfolding number_in
spelled_read text number s =
    let same : digits_of text ≡ s.digits = digits_same text s.digits s.text_is s.sixteen in
    ap (λ (d : List ℕ). number_of (decode_sized d 8)) same
    ∙ (ap number_of (decode_sized-twice s.digits 8 s.sixteen ∙ s.decoded) ∙ ap (λ (n : ℕ). Some n) (sym s.value_is))

-- a text of another length spells none
no_length : (text digits : List ℕ) → (text ≡ digits) ⊎ (text ≡ digits ++ (10 ∷ [])) → length digits ≡ 16 → (length text ≡ 16 → ⊥) → (length text ≡ 17 → ⊥) → ⊥
no_length text digits (inl e) sixteen a b = a (ap length e ∙ sixteen)
no_length text digits (inr e) sixteen a b = b (omega (arith, ap length e, sixteen, length-append digits (10 ∷ [])))

none_by : (text : List ℕ) (found : Option ℕ) → number_in text ≡ found → (length text ≡ 16 → ⊥) → (length text ≡ 17 → ⊥) → number_in text ≡ None
none_by text None e a b = e
none_by text (Some number) e a b = let s = read_spells text number e in absurd (no_length text s.digits s.text_is s.sixteen a b)

pub none_read : (text : List ℕ) → (length text ≡ 16 → ⊥) → (length text ≡ 17 → ⊥) → number_in text ≡ None
none_read text a b = none_by text (number_in text) refl a b

-- ---- one number

pub one_number : (file : Option (List ℕ)) (a b : ℕ) → IsNonce file a → IsNonce file b → a ≡ b
one_number None a b p q = p ∙ sym q
one_number (Some text) a b p q =
    let x : number_in text ≡ Some a = spelled_read text a p in
    let y : number_in text ≡ Some b = spelled_read text b q in
    let same : ◌≡◌ {A = Option ℕ} (Some a) (Some b) = sym x ∙ y in cc
