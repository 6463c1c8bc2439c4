-- Lemmas on words from a place on, as the loops over them see them.
use Rattle.std.proofs.Common.{◌≡◌, ℕ, suc, ◌+◌, ◌-◌, ◌<◌, ◌≤◌, true, false, List, [], ◌∷◌, ◌++◌, length, take, drop, map, get_or}
use Rattle.std.proofs.Common.{Result, Ok, Err, refl, ap, ◌∙◌, subst, arith, sym, append_assoc}
use Rattle.std.proofs.Math.ListN.{get_or-map}
use Rattle.std.proofs.Math.Seq.{drop-cons, take-suc}
use Rattle.std.proofs.lemmas.List.{drop-map, drop_all, length-drop, length-map, length-take-le, take-map, take_all}
use Rattle.std.specs.Str.{bytes_eq}
use Rattle.ferry_words.specs.Words.{OptionForm, Parts, is_new, is_option, is_taken, options_end, parts_of, value_of}
use Rattle.ferry_words.proofs.PartsLemmas.{parts_ended, parts_last, parts_old, parts_plain, parts_taken, parts_untaken}

-- ---- value_of

-- another option in front is passed over
pub value_behind : {A : Type 0} (f : A → List ℕ) (rest : List A) (first : A) (word name : List ℕ) → 2 ≤ length rest
    → first ≡ get_or rest 0 first → word ≡ f first → bytes_eq word name ≡ false
    → value_of (map f (take (length rest - 2) (drop 2 rest))) name ≡ value_of (map f rest) name
unfolding value_of
value_behind f [] first word name many at same other = absurd (omega arith)
value_behind f (x ∷ []) first word name many at same other = absurd (omega arith)
value_behind f (x ∷ y ∷ rest) first word name many at same other =
    let test : bytes_eq (f x) name ≡ false = subst (λ (word : List ℕ). bytes_eq word name ≡ false) (same ∙ ap f at) other in
    let whole : take (length (x ∷ (y ∷ rest)) - 2) rest ≡ rest = take_all _ rest (omega arith) in
    rw (test, whole) refl

-- ---- parts_of

module _ {A : Type 0} (f : A → List ℕ) (xs : List A) (at : ℕ) (x : A) (word : List ℕ) where
  -- the word at a place
  place_word : at < length xs → x ≡ get_or xs at x → word ≡ f x → drop at (map f xs) ≡ word ∷ drop (at + 1) (map f xs)
  place_word within here same =
      let next : suc at ≡ at + 1 = omega arith in
      let word_here : get_or (map f xs) at (f x) ≡ word = get_or-map f xs at x ∙ ap f (sym here) ∙ sym same in
      drop-cons (map f xs) at (f x) (omega (arith, within, length-map xs f))
      ∙ ap (λ (w : List ℕ). w ∷ drop (suc at) (map f xs)) word_here
      ∙ ap (λ (n : ℕ). word ∷ drop n (map f xs)) next

  place_front : at < length xs → x ≡ get_or xs at x → word ≡ f x → take (at + 1) (map f xs) ≡ take at (map f xs) ++ (word ∷ [])
  place_front within here same =
      let next : at + 1 ≡ suc at = omega arith in
      let word_here : get_or (map f xs) at (f x) ≡ word = get_or-map f xs at x ∙ ap f (sym here) ∙ sym same in
      ap (λ (n : ℕ). take n (map f xs)) next
      ∙ take-suc (map f xs) at (f x) (omega (arith, within, length-map xs f))
      ∙ ap (λ (w : List ℕ). take at (map f xs) ++ (w ∷ [])) word_here

before_length : {A : Type 0} (f : A → List ℕ) (xs : List A) (at : ℕ) → at ≤ length xs → length (take at (map f xs)) ≡ at
before_length f xs at within = length-take-le at (map f xs) (omega (arith, within, length-map xs f))

-- the slice from a place on
slice_from : {A : Type 0} (f : A → List ℕ) (xs : List A) (at : ℕ) → map f (take (length xs - at) (drop at xs)) ≡ drop at (map f xs)
slice_from f xs at = ap (λ (rest : List _). map f rest) (take_all (length xs - at) (drop at xs) (omega (arith, length-drop at xs))) ∙ sym (drop-map f at xs)

same_parts : (given other rest operands : List (List ℕ)) (n first : ℕ) → given ≡ other → n ≡ first → rest ≡ operands
    → ◌≡◌ {A = Result Parts ℕ} (Ok record { given = given; first = n; operands = rest }) (Ok record { given = other; first = first; operands = operands })
same_parts given other rest operands n first g h k =
    ap (λ (given : List (List ℕ)). Ok record { given = given; first = n; operands = rest }) g
    ∙ ap (λ (first : ℕ). Ok record { given = other; first = first; operands = rest }) h
    ∙ ap (λ (operands : List (List ℕ)). Ok record { given = other; first = first; operands = operands }) k

-- the parts of words are those from a place on, behind the options before it
abbrev pub AreLeft : {A : Type 0} → List OptionForm → (A → List ℕ) → List A → ℕ → Type 0
AreLeft options f xs at = parts_of options (take at (map f xs)) (drop at (map f xs)) ≡ parts_of options [] (map f xs)

module _ {A : Type 0} (options : List OptionForm) (f : A → List ℕ) (xs : List A) (at : ℕ) (x : A) (word : List ℕ) where
  -- by the word at the place
  left_word : at < length xs → x ≡ get_or xs at x → word ≡ f x → AreLeft options f xs at
      → parts_of options [] (map f xs) ≡ parts_of options (take at (map f xs)) (word ∷ drop (at + 1) (map f xs))
  left_word within here same left =
      sym left ∙ ap (λ (rest : List (List ℕ)). parts_of options (take at (map f xs)) rest) (place_word f xs at x word within here same)

  pub ended_place : at < length xs → x ≡ get_or xs at x → word ≡ f x → AreLeft options f xs at → bytes_eq word options_end ≡ true
      → parts_of options [] (map f xs)
      ≡ Ok record { given = map f (take at xs); first = at + 3; operands = map f (take (length xs - (at + 1)) (drop (at + 1) xs)) }
  ended_place within here same left end =
      left_word within here same left
      ∙ parts_ended options (take at (map f xs)) word (drop (at + 1) (map f xs)) end
      ∙ same_parts _ _ _ _ _ _ (take-map f at xs) (ap (λ (n : ℕ). n + 3) (before_length f xs at (omega (arith, within)))) (sym (slice_from f xs (at + 1)))

  pub plain_place : at < length xs → x ≡ get_or xs at x → word ≡ f x → AreLeft options f xs at
      → bytes_eq word options_end ≡ false → is_option word ≡ false
      → parts_of options [] (map f xs)
      ≡ Ok record { given = map f (take at xs); first = at + 2; operands = map f (take (length xs - at) (drop at xs)) }
  plain_place within here same left other plain =
      left_word within here same left
      ∙ parts_plain options (take at (map f xs)) word (drop (at + 1) (map f xs)) other plain
      ∙ same_parts _ _ _ _ _ _ (take-map f at xs) (ap (λ (n : ℕ). n + 2) (before_length f xs at (omega (arith, within))))
      (sym (place_word f xs at x word within here same) ∙ sym (slice_from f xs at))

  pub old_place : at < length xs → x ≡ get_or xs at x → word ≡ f x → AreLeft options f xs at
      → bytes_eq word options_end ≡ false → is_option word ≡ true → is_new options (map f (take at xs)) word ≡ false
      → parts_of options [] (map f xs) ≡ Err (at + 2)
  old_place within here same left other option old =
      left_word within here same left
      ∙ parts_old options (take at (map f xs)) word (drop (at + 1) (map f xs)) other option
      (subst (λ (given : List (List ℕ)). is_new options given word ≡ false) (sym (take-map f at xs)) old)
      ∙ ap (λ (n : ℕ). Err (n + 2)) (before_length f xs at (omega (arith, within)))

  pub last_place : at < length xs → x ≡ get_or xs at x → word ≡ f x → AreLeft options f xs at
      → bytes_eq word options_end ≡ false → is_option word ≡ true → is_new options (map f (take at xs)) word ≡ true → at + 1 ≡ length xs
      → parts_of options [] (map f xs) ≡ Err (at + 3)
  last_place within here same left other option new last =
      left_word within here same left
      ∙ ap (λ (rest : List (List ℕ)). parts_of options (take at (map f xs)) (word ∷ rest)) (drop_all (at + 1) (map f xs) (omega (arith, last, length-map xs f)))
      ∙ parts_last options (take at (map f xs)) word other option
      (subst (λ (given : List (List ℕ)). is_new options given word ≡ true) (sym (take-map f at xs)) new)
      ∙ ap (λ (n : ℕ). Err (n + 3)) (before_length f xs at (omega (arith, within)))

  module _ (y : A) (value : List ℕ) where
    -- by the word at the place and the one behind it
    left_pair : at + 1 < length xs → x ≡ get_or xs at x → word ≡ f x → y ≡ get_or xs (at + 1) y → value ≡ f y → AreLeft options f xs at
        → parts_of options [] (map f xs) ≡ parts_of options (take at (map f xs)) (word ∷ (value ∷ drop (at + 1 + 1) (map f xs)))
    left_pair within here same there equal left =
        left_word (omega (arith, within)) here same left
        ∙ ap (λ (rest : List (List ℕ)). parts_of options (take at (map f xs)) (word ∷ rest)) (place_word f xs (at + 1) y value within there equal)

    pub untaken_place : at + 1 < length xs → x ≡ get_or xs at x → word ≡ f x → y ≡ get_or xs (at + 1) y → value ≡ f y → AreLeft options f xs at
        → bytes_eq word options_end ≡ false → is_option word ≡ true → is_new options (map f (take at xs)) word ≡ true
        → is_taken options word value ≡ false → parts_of options [] (map f xs) ≡ Err (at + 3)
    untaken_place within here same there equal left other option new untaken =
        left_pair within here same there equal left
        ∙ parts_untaken options (take at (map f xs)) word value (drop (at + 1 + 1) (map f xs)) other option
        (subst (λ (given : List (List ℕ)). is_new options given word ≡ true) (sym (take-map f at xs)) new) untaken
        ∙ ap (λ (n : ℕ). Err (n + 3)) (before_length f xs at (omega (arith, within)))

    pub taken_place : at + 1 < length xs → x ≡ get_or xs at x → word ≡ f x → y ≡ get_or xs (at + 1) y → value ≡ f y → AreLeft options f xs at
        → bytes_eq word options_end ≡ false → is_option word ≡ true → is_new options (map f (take at xs)) word ≡ true
        → is_taken options word value ≡ true → AreLeft options f xs (at + 2)
    taken_place within here same there equal left other option new taken =
        let next : at + 2 ≡ at + 1 + 1 = omega arith in
        let front : take (at + 2) (map f xs) ≡ take at (map f xs) ++ (word ∷ (value ∷ [])) =
        ap (λ (n : ℕ). take n (map f xs)) next
        ∙ place_front f xs (at + 1) y value within there equal
        ∙ ap (λ (front : List (List ℕ)). front ++ (value ∷ [])) (place_front f xs at x word (omega (arith, within)) here same)
        ∙ append_assoc (take at (map f xs)) (word ∷ []) (value ∷ []) in
        ap (λ (given : List (List ℕ)). parts_of options given (drop (at + 2) (map f xs))) front
        ∙ ap (λ (n : ℕ). parts_of options (take at (map f xs) ++ (word ∷ (value ∷ []))) (drop n (map f xs))) next
        ∙ sym (parts_taken options (take at (map f xs)) word value (drop (at + 1 + 1) (map f xs)) other option
        (subst (λ (given : List (List ℕ)). is_new options given word ≡ true) (sym (take-map f at xs)) new) taken)
        ∙ sym (left_pair within here same there equal left)

-- at the end of the words
pub end_place : {A : Type 0} (options : List OptionForm) (f : A → List ℕ) (xs : List A) (at : ℕ) → at ≤ length xs → length xs ≤ at
    → AreLeft options f xs at
    → parts_of options [] (map f xs)
    ≡ Ok record { given = map f (take at xs); first = at + 2; operands = map f (take (length xs - at) (drop at xs)) }
unfolding parts_of
end_place options f xs at within reaches left =
    let none : drop at (map f xs) ≡ [] = drop_all at (map f xs) (omega (arith, reaches, length-map xs f)) in
    sym left
    ∙ ap (λ (rest : List (List ℕ)). parts_of options (take at (map f xs)) rest) none
    ∙ same_parts _ _ _ _ _ _ (take-map f at xs) (ap (λ (n : ℕ). n + 2) (before_length f xs at within)) (sym none ∙ sym (slice_from f xs at))
