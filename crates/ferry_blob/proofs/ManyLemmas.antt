-- Up to 64 texts and places at once.
use Rattle.std.proofs.Common.{◌≡◌, ◌≢◌, ℕ, zero, suc, ◌+◌, ◌<◌, ◌≤◌, List, [], ◌∷◌, ◌++◌, take, length, map, set, get_or, refl, sym, ap, subst, ◌∙◌, arith}
use Rattle.std.proofs.Common.{below_more, get_or-set_same, get_or-set_other}
use Rattle.std.proofs.lemmas.List.{map-set, length-map}
use Rattle.std.specs.Borrow.{Bor}
use Rattle.ferry_mac.specs.Lanes.{nth_text}

nth_text-here : (texts : List (Bor (List ℕ))) (k : ℕ) (text : Bor (List ℕ)) → k < length texts → nth_text (set texts k text) k ≡ text.now
nth_text-here texts k text low =
    let now = λ (x : Bor (List ℕ)). x.now in
    ap (λ (xs : List (List ℕ)). get_or xs k []) (map-set now texts k text)
    ∙ get_or-set_same (map now texts) k text.now [] (omega (arith, length-map texts now))

nth_text-other : (texts : List (Bor (List ℕ))) (k j : ℕ) (text : Bor (List ℕ)) → j ≢ k → nth_text (set texts k text) j ≡ nth_text texts j
nth_text-other texts k j text other =
    let now = λ (x : Bor (List ℕ)). x.now in
    ap (λ (xs : List (List ℕ)). get_or xs j []) (map-set now texts k text) ∙ get_or-set_other (map now texts) k j text.now [] other

-- what holds of the text in each place before one, and of the text that is put there
pub put_more : (texts : List (Bor (List ℕ))) (place : ℕ) (text : Bor (List ℕ)) (P : ℕ → List ℕ → Type 0) → place < length texts
    → ((k : ℕ) → k < place → P k (nth_text texts k)) → P place text.now
    → (k : ℕ) → k < place + 1 → P k (nth_text (set texts place text) k)
put_more texts place text P low below here =
    below_more (λ k. P k (nth_text (set texts place text) k)) place
    (λ k h. subst (P k) (sym (nth_text-other texts place k text (omega arith))) (below k h))
    (subst (P place) (sym (nth_text-here texts place text low)) here)

-- the first results of what is made of each text
pub first_made : (f : List ℕ → List ℕ) (texts : List (Bor (List ℕ))) (rest : List (List ℕ)) (count k : ℕ) → count ≤ length texts → k < count
    → get_or (map (λ text. f text.now) (take count texts) ++ rest) k [] ≡ f (nth_text texts k)
first_made f texts rest zero k fits low = absurd (omega arith)
first_made f [] rest (suc count) k fits low = absurd (omega arith)
first_made f (text ∷ texts) rest (suc count) zero fits low = refl
first_made f (text ∷ texts) rest (suc count) (suc k) fits low = first_made f texts rest count k (omega arith) (omega arith)
