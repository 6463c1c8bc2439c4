-- Lemmas on the forms of a line, for the loops that trim a text.
use Rattle.std.proofs.Common.{◌≡◌, ℕ, zero, suc, ◌+◌, ◌<◌, Bool, true, false, ◌&&◌, List, [], ◌∷◌, ◌++◌, length, take, drop, get_or, refl, ap, arith}
use Rattle.std.proofs.Common.{add-one, inl, inr}
use Rattle.std.proofs.lemmas.Bool.{cases_Bool}
use Rattle.std.proofs.lemmas.List.{take_more}
use Rattle.std.specs.List.{list_all}
use Rattle.ferry_config.specs.Line.{is_space, trimmed_end, trimmed_front}

-- ---- trimmed_front

front_suc : (text : List ℕ) (i : ℕ) → i < length text → is_space (get_or text i 0) ≡ true → trimmed_front (drop i text) ≡ trimmed_front (drop (suc i) text)
unfolding trimmed_front
front_suc [] i within space = absurd (omega arith)
front_suc (byte ∷ rest) zero within space = rw space refl
front_suc (byte ∷ rest) (suc i) within space = front_suc rest i (omega arith) space

-- one more space in front
pub trimmed_front-drop : (text : List ℕ) (i : ℕ) → i < length text → is_space (get_or text i 0) ≡ true
    → trimmed_front (drop i text) ≡ trimmed_front (drop (i + 1) text)
trimmed_front-drop text i within space = rw (add-one i) (front_suc text i within space)

-- no space at place i
pub trimmed_front-drop_same : (text : List ℕ) (i : ℕ) → is_space (get_or text i 0) ≡ false → trimmed_front (drop i text) ≡ drop i text
unfolding trimmed_front
trimmed_front-drop_same [] zero other = refl
trimmed_front-drop_same [] (suc i) other = refl
trimmed_front-drop_same (byte ∷ rest) zero other = rw other refl
trimmed_front-drop_same (byte ∷ rest) (suc i) other = trimmed_front-drop_same rest i other

-- nothing but spaces
pub trimmed_front-nil : trimmed_front [] ≡ []
unfolding trimmed_front
trimmed_front-nil = refl

-- ---- trimmed_end

all_push-holds : (p : ℕ → Bool) (xs : List ℕ) (x : ℕ) → p x ≡ true → list_all p (xs ++ x ∷ []) ≡ list_all p xs
all_push-holds p [] x holds = rw holds refl
all_push-holds p (y ∷ xs) x holds = ap (λ b. p y && b) (all_push-holds p xs x holds)

all_push-fails : (p : ℕ → Bool) (xs : List ℕ) (x : ℕ) → p x ≡ false → list_all p (xs ++ x ∷ []) ≡ false
all_push-fails p [] x fails = rw fails refl
all_push-fails p (y ∷ xs) x fails = elim (cases_Bool (p y)) [ inl holds ↦ rw holds (all_push-fails p xs x fails) | inr other ↦ rw other refl ]

-- a space at the end
pub trimmed_end-push : (text : List ℕ) (byte : ℕ) → is_space byte ≡ true → trimmed_end (text ++ byte ∷ []) ≡ trimmed_end text
unfolding trimmed_end
trimmed_end-push [] byte space = rw space refl
trimmed_end-push (first ∷ rest) byte space = rw (all_push-holds is_space rest byte space, trimmed_end-push rest byte space) refl

-- no space at the end
pub trimmed_end-same : (text : List ℕ) (byte : ℕ) → is_space byte ≡ false → trimmed_end (text ++ byte ∷ []) ≡ text ++ byte ∷ []
unfolding trimmed_end
trimmed_end-same [] byte other = rw other refl
trimmed_end-same (first ∷ rest) byte other =
    elim (cases_Bool (is_space first)) [
      | inl space ↦ rw (space, all_push-fails is_space rest byte other, trimmed_end-same rest byte other) refl
      | inr fails ↦ rw (fails, trimmed_end-same rest byte other) refl
    ]

-- a space at place i
pub trimmed_end-take : (text : List ℕ) (i : ℕ) → i < length text → is_space (get_or text i 0) ≡ true
    → trimmed_end (take (i + 1) text) ≡ trimmed_end (take i text)
trimmed_end-take text i within space = rw (take_more text i 0 within) (trimmed_end-push (take i text) (get_or text i 0) space)

-- no space at place i
pub trimmed_end-take_same : (text : List ℕ) (i : ℕ) → i < length text → is_space (get_or text i 0) ≡ false
    → trimmed_end (take (i + 1) text) ≡ take (i + 1) text
trimmed_end-take_same text i within other = rw (take_more text i 0 within) (trimmed_end-same (take i text) (get_or text i 0) other)

-- nothing but spaces
pub trimmed_end-nil : trimmed_end [] ≡ []
unfolding trimmed_end
trimmed_end-nil = refl
