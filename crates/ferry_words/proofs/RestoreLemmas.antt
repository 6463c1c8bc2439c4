-- Lemmas on specs/Restore.antt: what the words of `restore` mean, and the first wrong one.
use Rattle.std.proofs.Common.{◌≡◌, ℕ, suc, ◌+◌, ◌-◌, ◌<◌, ◌≤◌, Bool, true, false, List, [], ◌∷◌, ◌++◌, length, take, drop, ◌⊎◌, inl, inr}
use Rattle.std.proofs.Common.{Result, Ok, Err, refl, ap, ◌∙◌, subst, arith, sym, append_assoc, codes}
use Rattle.std.proofs.lemmas.Bool.{cases_lt}
use Rattle.std.proofs.lemmas.List.{length-append, take-append-drop}
use Rattle.std.proofs.lemmas.Slice.Eq.{bytes_eq-Decides}
use Rattle.std.proofs.Math.Seq.{take-add}
use Rattle.std.specs.List.{AllByRecursion}
use Rattle.std.specs.Str.{IsUtf8, bytes_eq}
use Rattle.ferry_words.specs.Laws.{IsAhead, IsPlainAhead}
use Rattle.ferry_words.specs.Restore.{CanGoOn, CannotGoOn, IsFirstWrong, IsMissing, IsRestoring, IsWrong, name_in, only_operand, restore_word, restored_of}
use Rattle.ferry_words.specs.Words.{Parts, is_option, options_end, parts, parts_of}
use Rattle.ferry_words.proofs.LawsLemmas.{take_front, take_next}
use Rattle.ferry_words.proofs.PartsLemmas.{ahead_read, parts_ended, parts_old, parts_plain}

-- ---- by the word behind the command's word

named_behind : (behind : List (List ℕ)) → restored_of (restore_word ∷ behind) ≡ name_in (parts_of [] [] behind)
unfolding restored_of
named_behind behind = refl

nothing_behind : restored_of (restore_word ∷ []) ≡ Err 2
unfolding restored_of parts_of
nothing_behind = refl

ended : (word : List ℕ) (rest : List (List ℕ)) → bytes_eq word options_end ≡ true → restored_of (restore_word ∷ (word ∷ rest)) ≡ only_operand 3 rest
ended word rest end = named_behind (word ∷ rest) ∙ ap name_in (parts_ended [] [] word rest end)

plain : (word : List ℕ) (rest : List (List ℕ)) → bytes_eq word options_end ≡ false → is_option word ≡ false
    → restored_of (restore_word ∷ (word ∷ rest)) ≡ only_operand 2 (word ∷ rest)
plain word rest other o = named_behind (word ∷ rest) ∙ ap name_in (parts_plain [] [] word rest other o)

unknown : (word : List ℕ) (rest : List (List ℕ)) → bytes_eq word options_end ≡ false → is_option word ≡ true
    → restored_of (restore_word ∷ (word ∷ rest)) ≡ Err 2
unknown word rest other o = named_behind (word ∷ rest) ∙ ap name_in (parts_old [] [] word rest other o refl)

another : (word : List ℕ) (behind : List (List ℕ)) → bytes_eq word restore_word ≡ false → restored_of (word ∷ behind) ≡ Err 1
unfolding restored_of
another word behind other = rw other refl

-- ---- the name

never_both : (words : List (List ℕ)) (number : ℕ) (name : List ℕ) → restored_of words ≡ Err number → restored_of words ≡ Ok name → ⊥
never_both words number name told meant = cc

one_only : (first : ℕ) (operands : List (List ℕ)) (name : List ℕ) → only_operand first operands ≡ Ok name → operands ≡ name ∷ []
one_only first [] name e = let no : ⊥ = cc in absurd no
one_only first (a ∷ []) name e = let same : a ≡ name = cc in ap (λ (a : List ℕ). a ∷ []) same
one_only first (a ∷ b ∷ rest) name e = let no : ⊥ = cc in absurd no

meant_by : (word : List ℕ) (rest : List (List ℕ)) (name : List ℕ) (end option : Bool) → bytes_eq word options_end ≡ end → is_option word ≡ option
    → restored_of (restore_word ∷ (word ∷ rest)) ≡ Ok name → IsRestoring (restore_word ∷ (word ∷ rest)) name
meant_by word rest name true option end o e =
    let word_is : word ≡ options_end = (bytes_eq-Decides word options_end).0 end in
    let rest_is : rest ≡ name ∷ [] = one_only 3 rest name (sym (ended word rest end) ∙ e) in
    record {
      ahead = options_end ∷ [];
      free = inl refl;
      spelled = ap (λ (w : List ℕ). restore_word ∷ (w ∷ rest)) word_is ∙ ap (λ (r : List (List ℕ)). restore_word ∷ (options_end ∷ r)) rest_is;
    }
meant_by word rest name false false end o e =
    let all : (word ∷ rest) ≡ name ∷ [] = one_only 2 (word ∷ rest) name (sym (plain word rest end o) ∙ e) in
    let word_is : word ≡ name = cc in
    record {
      ahead = [];
      free = inr (refl, subst (λ (w : List ℕ). is_option w ≡ false) word_is o);
      spelled = ap (λ (ws : List (List ℕ)). restore_word ∷ ws) all;
    }
meant_by word rest name false true end o e = absurd (never_both (restore_word ∷ (word ∷ rest)) 2 name (unknown word rest end o) e)

meant_behind : (behind : List (List ℕ)) (name : List ℕ) → restored_of (restore_word ∷ behind) ≡ Ok name → IsRestoring (restore_word ∷ behind) name
meant_behind [] name e = absurd (never_both (restore_word ∷ []) 2 name nothing_behind e)
meant_behind (word ∷ rest) name e = meant_by word rest name (bytes_eq word options_end) (is_option word) refl refl e

meant_at : (word : List ℕ) (behind : List (List ℕ)) (name : List ℕ) (same : Bool) → bytes_eq word restore_word ≡ same
    → restored_of (word ∷ behind) ≡ Ok name → IsRestoring (word ∷ behind) name
meant_at word behind name true is e =
    let word_is : word ≡ restore_word = (bytes_eq-Decides word restore_word).0 is in
    subst (λ (w : List ℕ). IsRestoring (w ∷ behind) name) (sym word_is)
    (meant_behind behind name (ap (λ (w : List ℕ). restored_of (w ∷ behind)) (sym word_is) ∙ e))
meant_at word behind name false is e = absurd (never_both (word ∷ behind) 1 name (another word behind is) e)

pub name_spelled : (words : List (List ℕ)) (name : List ℕ) → restored_of words ≡ Ok name → IsRestoring words name
unfolding restored_of
name_spelled [] name e = cc
name_spelled (word ∷ behind) name e = meant_at word behind name (bytes_eq word restore_word) refl e

pub spelled_name : (words : List (List ℕ)) (name : List ℕ) → IsRestoring words name → restored_of words ≡ Ok name
spelled_name words name h =
    ap restored_of h.spelled ∙ named_behind (h.ahead ++ (name ∷ [])) ∙ ap name_in (ahead_read [] [] h.ahead (name ∷ []) h.free)

-- ---- what goes on, and what stops

utf8_restore : IsUtf8 restore_word
unfolding lib.Utf8.encode
utf8_restore = (restore_word, (refl, refl))

utf8_empty : IsUtf8 []
utf8_empty = ([], (refl, refl))

-- words that mean no name, whatever stands behind them, stop
stops_by : (front : List (List ℕ)) (number : ℕ) → ((more : List (List ℕ)) → restored_of (front ++ more) ≡ Err number) → CannotGoOn front
stops_by front number wrong more name h =
    let meant : restored_of (front ++ more) ≡ Ok name = spelled_name (front ++ more) name h in
    let told : restored_of (front ++ more) ≡ Err number = wrong more in
    cc

-- and where they themselves mean none, they are none
unfinished_by : (words : List (List ℕ)) (number : ℕ) → restored_of words ≡ Err number → (name : List ℕ) → IsRestoring words name → ⊥
unfinished_by words number told name h =
    let meant : restored_of words ≡ Ok name = spelled_name words name h in
    cc

nothing_goes_on : CanGoOn []
nothing_goes_on =
    (restore_word ∷ [] ∷ [], [], (utf8_restore, (utf8_empty, tt)), record { ahead = []; free = inr (refl, refl); spelled = refl })

word_goes_on : CanGoOn (restore_word ∷ [])
word_goes_on = ([] ∷ [], [], (utf8_empty, tt), record { ahead = []; free = inr (refl, refl); spelled = refl })

end_goes_on : CanGoOn (restore_word ∷ (options_end ∷ []))
end_goes_on = ([] ∷ [], [], (utf8_empty, tt), record { ahead = options_end ∷ []; free = inl refl; spelled = refl })

ended_goes_on : (name : List ℕ) → CanGoOn (restore_word ∷ (options_end ∷ (name ∷ [])))
ended_goes_on name = ([], name, tt, record { ahead = options_end ∷ []; free = inl refl; spelled = refl })

plain_goes_on : (name : List ℕ) → is_option name ≡ false → CanGoOn (restore_word ∷ (name ∷ []))
plain_goes_on name o = ([], name, tt, record { ahead = []; free = inr (refl, o); spelled = refl })

-- ---- the first wrong word

-- a word that stops what could go on is the first wrong one
wrong_at : (front : List (List ℕ)) (word : List ℕ) (rest : List (List ℕ)) (number : ℕ) → number ≡ suc (length front) → CanGoOn front
    → CannotGoOn (front ++ (word ∷ [])) → IsWrong (front ++ (word ∷ rest)) number
wrong_at front word rest number numbered goes stops =
    let back : length front ≡ suc (length front) - 1 = omega arith in
    subst (IsWrong (front ++ (word ∷ rest))) (sym numbered) record {
      numbered = omega arith;
      there = omega (arith, length-append front (word ∷ rest));
      before = subst (λ (n : ℕ). CanGoOn (take n (front ++ (word ∷ rest)))) back (subst CanGoOn (sym (take_front front word rest)) goes);
      stops = subst CannotGoOn (sym (take_next front word rest)) stops;
    }

no_words : IsMissing [] 1
unfolding restored_of
no_words = record { numbered = refl; before = nothing_goes_on; unfinished = unfinished_by [] 1 refl }

ended_wrong : (rest : List (List ℕ)) (number : ℕ) → only_operand 3 rest ≡ Err number → IsFirstWrong (restore_word ∷ (options_end ∷ rest)) number
ended_wrong [] number e =
    let one : 3 ≡ number = cc in
    inr (subst (IsMissing (restore_word ∷ (options_end ∷ []))) one record {
      numbered = refl;
      before = end_goes_on;
      unfinished = unfinished_by (restore_word ∷ (options_end ∷ [])) 3 (ended options_end [] refl);
    })
ended_wrong (a ∷ []) number e = cc
ended_wrong (a ∷ b ∷ rest) number e =
    let one : 4 ≡ number = cc in
    inl (subst (IsWrong (restore_word ∷ (options_end ∷ (a ∷ (b ∷ rest))))) one
    (wrong_at (restore_word ∷ (options_end ∷ (a ∷ []))) b rest 4 refl (ended_goes_on a)
    (stops_by (restore_word ∷ (options_end ∷ (a ∷ (b ∷ [])))) 4 (λ more. ended options_end (a ∷ (b ∷ more)) refl))))

plain_wrong : (word : List ℕ) (rest : List (List ℕ)) (number : ℕ) → bytes_eq word options_end ≡ false → is_option word ≡ false
    → only_operand 2 (word ∷ rest) ≡ Err number → IsFirstWrong (restore_word ∷ (word ∷ rest)) number
plain_wrong word [] number other o e = cc
plain_wrong word (b ∷ rest) number other o e =
    let one : 3 ≡ number = cc in
    inl (subst (IsWrong (restore_word ∷ (word ∷ (b ∷ rest)))) one
    (wrong_at (restore_word ∷ (word ∷ [])) b rest 3 refl (plain_goes_on word o)
    (stops_by (restore_word ∷ (word ∷ (b ∷ []))) 3 (λ more. plain word (b ∷ more) other o))))

wrong_by : (word : List ℕ) (rest : List (List ℕ)) (number : ℕ) (end option : Bool) → bytes_eq word options_end ≡ end → is_option word ≡ option
    → restored_of (restore_word ∷ (word ∷ rest)) ≡ Err number → IsFirstWrong (restore_word ∷ (word ∷ rest)) number
wrong_by word rest number true option end o e =
    let word_is : word ≡ options_end = (bytes_eq-Decides word options_end).0 end in
    subst (λ (w : List ℕ). IsFirstWrong (restore_word ∷ (w ∷ rest)) number) (sym word_is)
    (ended_wrong rest number (sym (ended word rest end) ∙ e))
wrong_by word rest number false false end o e = plain_wrong word rest number end o (sym (plain word rest end o) ∙ e)
wrong_by word rest number false true end o e =
    let two : Err 2 ≡ Err number = sym (unknown word rest end o) ∙ e in
    let one : 2 ≡ number = cc in
    inl (subst (IsWrong (restore_word ∷ (word ∷ rest))) one
    (wrong_at (restore_word ∷ []) word rest 2 refl word_goes_on (stops_by (restore_word ∷ (word ∷ [])) 2 (λ more. unknown word more end o))))

wrong_behind : (behind : List (List ℕ)) (number : ℕ) → restored_of (restore_word ∷ behind) ≡ Err number → IsFirstWrong (restore_word ∷ behind) number
wrong_behind [] number e =
    let two : Err 2 ≡ Err number = sym nothing_behind ∙ e in
    let one : 2 ≡ number = cc in
    inr (subst (IsMissing (restore_word ∷ [])) one
    record { numbered = refl; before = word_goes_on; unfinished = unfinished_by (restore_word ∷ []) 2 nothing_behind })
wrong_behind (word ∷ rest) number e = wrong_by word rest number (bytes_eq word options_end) (is_option word) refl refl e

wrong_word : (word : List ℕ) (behind : List (List ℕ)) (number : ℕ) (same : Bool) → bytes_eq word restore_word ≡ same
    → restored_of (word ∷ behind) ≡ Err number → IsFirstWrong (word ∷ behind) number
wrong_word word behind number true is e =
    let word_is : word ≡ restore_word = (bytes_eq-Decides word restore_word).0 is in
    subst (λ (w : List ℕ). IsFirstWrong (w ∷ behind) number) (sym word_is)
    (wrong_behind behind number (ap (λ (w : List ℕ). restored_of (w ∷ behind)) (sym word_is) ∙ e))
wrong_word word behind number false is e =
    let first : Err 1 ≡ Err number = sym (another word behind is) ∙ e in
    let one : 1 ≡ number = cc in
    inl (subst (IsWrong (word ∷ behind)) one
    (wrong_at [] word behind 1 refl nothing_goes_on (stops_by (word ∷ []) 1 (λ more. another word more is))))

pub told_wrong : (words : List (List ℕ)) (number : ℕ) → restored_of words ≡ Err number → IsFirstWrong words number
unfolding restored_of
told_wrong [] number e =
    let one : 1 ≡ number = cc in
    inr (subst (IsMissing []) one no_words)
told_wrong (word ∷ behind) number e = wrong_word word behind number (bytes_eq word restore_word) refl e

-- ---- one first wrong word

-- words that go on don't stop at any of them
no_stop_before : (words : List (List ℕ)) (m n : ℕ) → m ≤ n → CanGoOn (take n words) → CannotGoOn (take m words) → ⊥
no_stop_before words m n within goes stops =
    let behind = take (n - m) (drop m words) in
    let parted : take n words ≡ take m words ++ behind = ap (λ (n : ℕ). take n words) (omega arith) ∙ take-add m (n - m) words in
    let more = goes.0 in
    stops (behind ++ more) goes.1
    (subst (λ (front : List (List ℕ)). IsRestoring front goes.1) (append_assoc (take m words) behind more)
    (subst (λ (front : List (List ℕ)). IsRestoring (front ++ more) goes.1) parted goes.3))

no_stop_in : (words : List (List ℕ)) (m : ℕ) → CanGoOn words → CannotGoOn (take m words) → ⊥
no_stop_in words m goes stops =
    stops (drop m words ++ goes.0) goes.1
    (subst (λ (front : List (List ℕ)). IsRestoring front goes.1) (append_assoc (take m words) (drop m words) goes.0)
    (subst (λ (front : List (List ℕ)). IsRestoring (front ++ goes.0) goes.1) (sym (take-append-drop m words)) goes.3))

not_earlier : (words : List (List ℕ)) (m n : ℕ) → IsWrong words m → IsWrong words n → m < n → ⊥
not_earlier words m n a b earlier = no_stop_before words m (n - 1) (omega arith) b.before a.stops

one_wrong : (words : List (List ℕ)) (m n : ℕ) → IsFirstWrong words m → IsFirstWrong words n → m ≡ n
one_wrong words m n (inl a) (inl b) =
    elim (cases_lt m n) [
      | inl earlier ↦ absurd (not_earlier words m n a b earlier)
      | inr reaches ↦ elim (cases_lt n m) [
        | inl earlier ↦ absurd (not_earlier words n m b a earlier)
        | inr within ↦ omega arith
      ]
    ]
one_wrong words m n (inl a) (inr b) = absurd (no_stop_in words m b.before a.stops)
one_wrong words m n (inr a) (inl b) = absurd (no_stop_in words n a.before b.stops)
one_wrong words m n (inr a) (inr b) = omega (arith, a.numbered, b.numbered)

no_name : (words : List (List ℕ)) (number : ℕ) (name : List ℕ) → IsFirstWrong words number → IsRestoring words name → ⊥
no_name words number name (inl h) is =
    h.stops (drop number words) name (subst (λ (words : List (List ℕ)). IsRestoring words name) (sym (take-append-drop number words)) is)
no_name words number name (inr h) is = h.unfinished name is

told_by : (words : List (List ℕ)) (number : ℕ) → IsFirstWrong words number → (meaning : Result (List ℕ) ℕ) → restored_of words ≡ meaning
    → meaning ≡ Err number
told_by words number h (Ok name) e = absurd (no_name words number name h (name_spelled words name e))
told_by words number h (Err other) e = ap Err (one_wrong words other number (told_wrong words other e) h)

pub wrong_told : (words : List (List ℕ)) (number : ℕ) → IsFirstWrong words number → restored_of words ≡ Err number
wrong_told words number h = told_by words number h (restored_of words) refl
