-- The last blocks of a text, its padding with it.
use Rattle.std.proofs.Common.{◌≡◌, ℕ, suc, ◌<◌, ◌≤◌, ◌+◌, ◌-◌, ◌*◌, ◌/◌, ◌%◌, ◌^◌, List, ◌∷◌, ◌++◌}
use Rattle.std.proofs.Common.{length, take, drop, replicate, refl, sym, ap, ◌∙◌, arith, w64, length-append, length-drop, append_assoc, inl, inr}
use Rattle.std.specs.Int.{to_be_bytes}
use Rattle.std.proofs.lemmas.List.{drop-append-le, drop-drop, take-append-le, take-replicate, take-take, take_all}
use Rattle.std.proofs.lemmas.Bool.{cases_lt}
use Rattle.std.proofs.lemmas.Simd.{length-replicate}
use Rattle.std.proofs.Math.Seq.{take-append-add}
use Rattle.sha2.specs.Sha256.{padding}
use Rattle.ferry_mac.specs.Lanes.{behind_key, IsEnding}

-- the zeros of the padding of a text that has a block before it
abbrev zeros : ℕ → ℕ
zeros n = (119 - (64 + n) % 64) % 64

pub length-padding : (n : ℕ) → length (padding n) ≡ 9 + (119 - n % 64) % 64
length-padding n =
    let bytes : List ℕ = to_be_bytes w64 (n * 8 % 2 ^ 64) in
    let eight : length bytes ≡ 8 = refl in
    let none : length {A = ℕ} (replicate ((119 - n % 64) % 64) 0) ≡ (119 - n % 64) % 64 = length-replicate _ 0 in
    omega (arith, length-append (replicate ((119 - n % 64) % 64) 0) bytes, eight, none)

-- whole blocks, of which the padding begins the last one or the last but one
pub length-behind_key : (text : List ℕ) → length (behind_key text) ≡ (length text + 72) / 64 * 64
length-behind_key text =
    let n = length text in
    let both : length (behind_key text) ≡ n + length (padding (64 + n)) = length-append text (padding (64 + n)) in
    omega (arith, both, length-padding (64 + n))

-- what is behind the last whole block of a text
pub behind_whole : (text : List ℕ)
    → drop (length text / 64 * 64) (behind_key text) ≡ drop (length text / 64 * 64) text ++ padding (64 + length text)
behind_whole text = drop-append-le (length text / 64 * 64) text (padding (64 + length text)) (omega arith)

-- a whole block of the text
pub block_within : (text : List ℕ) (n : ℕ) → n < length text / 64 → take 64 (drop (n * 64) text) ≡ take 64 (drop (n * 64) (behind_key text))
block_within text n h =
    let rest = drop (n * 64) text in
    let padded : drop (n * 64) (behind_key text) ≡ rest ++ padding (64 + length text) =
    drop-append-le (n * 64) text (padding (64 + length text)) (omega arith) in
    let fits : 64 ≤ length rest = omega (arith, length-drop (n * 64) text) in
    rw padded (sym (take-append-le 64 rest (padding (64 + length text)) fits))

-- the first block behind the whole ones
pub block_first : (text end : List ℕ) (n : ℕ) → IsEnding end text → n ≡ length text / 64
    → take 64 end ≡ take 64 (drop (n * 64) (behind_key text))
block_first text end n ending e =
    let all = drop (length text / 64 * 64) (behind_key text) in
    let long : 64 ≤ length all = omega (arith, length-drop (length text / 64 * 64) (behind_key text), length-behind_key text) in
    rw e (sym (take-take 64 (length all) end long) ∙ ap (take 64) ending)

-- the second one, where the padding needs it
pub block_second : (text end : List ℕ) (n : ℕ) → IsEnding end text → length end ≡ 128 → length text / 64 < n
    → n < length (behind_key text) / 64 → take 64 (drop 64 end) ≡ take 64 (drop (n * 64) (behind_key text))
block_second text end n ending long after before =
    let whole = length text / 64 * 64 in
    let all = drop whole (behind_key text) in
    let both : length all ≡ 128 = omega (arith, length-drop whole (behind_key text), length-behind_key text) in
    let same : end ≡ all = sym (take_all (length all) end (omega arith)) ∙ ending in
    let place : whole + 64 ≡ n * 64 = omega (arith, length-behind_key text) in
    rw (same, drop-drop 64 whole (behind_key text), place) refl

-- the bytes that `ending` puts together
pub ending_by_parts : (text rest begun end : List ℕ) (len bits : ℕ) → rest ≡ drop (length text / 64 * 64) text
    → begun ≡ rest ++ 0x80 ∷ replicate (127 - length rest) 0 → take len end ≡ take (len - 8) begun ++ to_be_bytes w64 bits
    → bits ≡ (64 + length text) * 8 % 2 ^ 64 → (length rest < 56 → len ≡ 64) → (56 ≤ length rest → len ≡ 128)
    → IsEnding end text
ending_by_parts text rest begun end len bits behind marked made count short long =
    let n = length text in
    let more = zeros n in
    let left : length rest ≡ n % 64 = omega (arith, ap length behind, length-drop (n / 64 * 64) text) in
    let size : len ≡ length rest + (9 + more) = elim (cases_lt (length rest) 56) [
      | inl lt ↦ let e = short lt in omega arith
      | inr ge ↦ let e = long ge in omega arith
    ] in
    let front : len - 8 ≡ length rest + suc more = omega arith in
    let whole : length (drop (n / 64 * 64) (behind_key text)) ≡ len =
    omega (arith, length-drop (n / 64 * 64) (behind_key text), length-append text (padding (64 + n)), length-padding (64 + n)) in
    let none : take {A = ℕ} more (replicate (127 - length rest) 0) ≡ replicate more 0 = take-replicate more (127 - length rest) 0 (omega arith) in
    let start : take (len - 8) begun ≡ rest ++ 0x80 ∷ replicate more 0 =
    rw (front, marked, take-append-add rest (0x80 ∷ replicate (127 - length rest) 0) (suc more), none) refl in
    ap (λ k. take k end) whole ∙ made ∙ rw (start, count, append_assoc, behind) (sym (behind_whole text))
