-- Lemmas on specs/KeyExpansion.antt.
use Rattle.std.proofs.Common.{◌≡◌, ℕ, zero, suc, ◌+◌, ◌-◌, ◌/◌, ◌%◌, ◌<◌, ◌≤◌, List, [], ◌∷◌, length, get_or, take, refl, sym, ap, ◌∙◌, arith, true, eqb}
use Rattle.std.proofs.Common.{eq-eqb, lt-ltb, subst, inl, inr, set}
use Rattle.std.proofs.lemmas.List.{get_or-take, take_all, take_more_set, length_push}
use Rattle.std.proofs.lemmas.Bool.{cases_lt}
use Rattle.ferry_aes.specs.KeyExpansion.{add_words, sub_word, rot_word, rcon, addend, next_word, first_words, key_expansion}
use Rattle.ferry_aes.specs.declared.expansion.TheConstants.{ROUND_CONSTANTS}
use Rattle.ferry_aes.proofs.Tables.{ROUND_CONSTANTS-at}

-- ---- addend

constant_is_rcon : (i : ℕ) → 8 ≤ i → i < 60 → (get_or ROUND_CONSTANTS (i / 8 - 1) 0 ∷ 0 ∷ 0 ∷ 0 ∷ []) ≡ rcon (i / 8)
unfolding rcon
constant_is_rcon i low high = ap (λ x. x ∷ 0 ∷ 0 ∷ 0 ∷ []) (ROUND_CONSTANTS-at (i / 8 - 1) (omega arith))

pub addend_with_constant : (i : ℕ) (before turned subbed sum : List ℕ) → 8 ≤ i → i < 60 → i % 8 ≡ 0 → turned ≡ rot_word before → subbed ≡ sub_word turned
    → sum ≡ add_words subbed (get_or ROUND_CONSTANTS (i / 8 - 1) 0 ∷ 0 ∷ 0 ∷ 0 ∷ []) → sum ≡ addend i before
unfolding addend
addend_with_constant i before turned subbed sum low high whole a b c =
    let e = constant_is_rcon i low high in
    let t : eqb (i % 8) 0 ≡ true = eq-eqb _ _ whole in
    rw t (c ∙ rw (b, a, e) refl)

-- ---- next_word

-- the next word depends on the words before it alone
pub next_word-take : (key : List ℕ) (w : List (List ℕ)) (i : ℕ) → next_word key (take i w) i ≡ next_word key w i
unfolding next_word
next_word-take key w i =
    elim (cases_lt i 8) [
      | inl key_part ↦ let t = lt-ltb i 8 key_part in rw t refl
      | inr past_key ↦
          let near : i - 1 < i = omega arith in
          let far : i - 8 < i = omega arith in
          rw (get_or-take i w (i - 1) [] near, get_or-take i w (i - 8) [] far) refl
    ]

-- ---- first_words

pub length-first_words : (key : List ℕ) (n : ℕ) → length (first_words key n) ≡ n
unfolding first_words
length-first_words key zero = refl
length-first_words key (suc n) = omega (arith, length-first_words key n, length_push (first_words key n) (next_word key (first_words key n) n))

-- ---- key_expansion

-- 60 words, each of which is the next one after those before it
pub first_words_more : (key : List ℕ) (w : List (List ℕ)) (i : ℕ) (made : List ℕ) → i < length w → take i w ≡ first_words key i → made ≡ next_word key w i
    → take (i + 1) (set w i made) ≡ first_words key (i + 1)
unfolding first_words
first_words_more key w i made within so_far is =
    let e : i + 1 ≡ suc i = omega arith in
    let n = next_word-take key w i in
    rw (take_more_set w i made within, e, is, ← n, so_far) refl

pub key_expansion_from_words : (key : List ℕ) (w : List (List ℕ)) (i : ℕ) → length w ≡ 60 → 60 ≤ i → i ≤ 60 → take i w ≡ first_words key i
    → w ≡ key_expansion key
unfolding key_expansion
key_expansion_from_words key w i long low high all =
    let e : i ≡ 60 = omega arith in
    let f : take 60 w ≡ first_words key 60 = subst (λ n. take n w ≡ first_words key n) e all in
    sym (take_all 60 w (omega arith)) ∙ f
