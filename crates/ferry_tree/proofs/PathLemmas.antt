-- Lemmas on the paths of specs/Planning.antt: the parts of a path, one after another.
use Rattle.std.proofs.Common.{◌≡◌, ◌⊎◌, inl, inr, ◌<◌, ◌≤◌, ◌+◌, ◌-◌, ℕ, zero, suc, Bool, ◌||◌, if◌then◌else◌, true, false, List, [], ◌∷◌, ◌++◌, All}
use Rattle.std.proofs.Common.{length, take, drop, get_or, refl, sym, ◌∙◌, ap, subst, arith, add-one}
use Rattle.std.proofs.lemmas.List.{take_more, take_all, drop_more, drop-drop, take-append-drop, get_or-drop, length-drop}
use Rattle.std.proofs.lemmas.List.Elements.{All-nil, All-cons, All-append}
use Rattle.std.proofs.lemmas.List.Splits.{slice_split_at, slice_split_none}
use Rattle.std.proofs.lemmas.Bool.{cases_Bool, eq-eqb, eqb-true}
use Rattle.std.specs.List.{list_any, slice_split}
use Rattle.ferry_tree.specs.Nodes.{slash}
use Rattle.ferry_tree.specs.Planning.{Known, is_slash, is_bad_part, has_bad_part, ends_at_slash, is_in_the_way, has_bad_front}

pub slash_is : (byte : ℕ) → byte ≡ slash → is_slash byte ≡ true
slash_is byte is = eq-eqb byte slash is

no_slash : (byte : ℕ) → (byte ≡ slash → ⊥) → (is_slash byte ≡ true) ⊎ (is_slash byte ≡ false) → is_slash byte ≡ false
no_slash byte other (inl is) = absurd (other (eqb-true byte slash is))
no_slash byte other (inr is) = is

pub plain_is : (byte : ℕ) → (byte ≡ slash → ⊥) → is_slash byte ≡ false
plain_is byte other = no_slash byte other (cases_Bool (is_slash byte))

-- a byte that is no slash
abbrev pub IsPlain : ℕ → Type 0
IsPlain byte = is_slash byte ≡ false

-- What is bad is among the parts from a place on, and the part there goes on up to a later place.
pub record PartsLeft (path : List ℕ) (from place : ℕ) : Type 0 where
  pub left : has_bad_part path ≡ list_any is_bad_part (slice_split is_slash (drop from path))
  pub plain : All IsPlain (take (place - from) (drop from path))
  pub within : from ≤ place

at_place : (from place : ℕ) → from ≤ place → from + (place - from) ≡ place
at_place from place within = omega arith

part_here : (path : List ℕ) (from place d : ℕ) → PartsLeft path from place → place < length path → is_slash (get_or path place d) ≡ true
    → slice_split is_slash (drop from path) ≡ take (place - from) (drop from path) ∷ slice_split is_slash (drop (place + 1) path)
part_here path from place d parts lt is =
    let rest : drop (place - from) (drop from path) ≡ get_or path place d ∷ drop (place + 1) path =
    drop-drop (place - from) from path ∙ ap (λ n. drop n path) (at_place from place parts.within) ∙ drop_more path place d lt
    in
    let cut : drop from path ≡ take (place - from) (drop from path) ++ (get_or path place d ∷ drop (place + 1) path) =
    sym (ap (λ r. take (place - from) (drop from path) ++ r) (sym rest) ∙ take-append-drop (place - from) (drop from path))
    in
    ap (slice_split is_slash) cut
    ∙ slice_split_at is_slash (take (place - from) (drop from path)) (get_or path place d) (drop (place + 1) path) parts.plain is

-- at a slash the part is bad, or the others are left
pub bad_here : (path : List ℕ) (from place d : ℕ) → PartsLeft path from place → place < length path → is_slash (get_or path place d) ≡ true
    → has_bad_part path ≡ (is_bad_part (take (place - from) (drop from path)) || list_any is_bad_part (slice_split is_slash (drop (place + 1) path)))
bad_here path from place d parts lt is = parts.left ∙ ap (list_any is_bad_part) (part_here path from place d parts lt is)

nothing_taken : (xs : List ℕ) (n : ℕ) → All IsPlain (take (n - n) xs)
nothing_taken xs n =
    let none : n - n ≡ 0 = omega arith in
    subst (λ (k : ℕ). All IsPlain (take k xs)) (sym none) (All-nil IsPlain)

pub parts_begin : (path : List ℕ) → PartsLeft path 0 0
parts_begin path = record { left = refl; plain = All-nil IsPlain; within = omega arith }

pub parts_next : (path : List ℕ) (from place d : ℕ) → PartsLeft path from place → place < length path → is_slash (get_or path place d) ≡ true
    → is_bad_part (take (place - from) (drop from path)) ≡ false → PartsLeft path (place + 1) (place + 1)
parts_next path from place d parts lt is good = record {
  left = bad_here path from place d parts lt is
      ∙ ap (λ (b : Bool). b || list_any is_bad_part (slice_split is_slash (drop (place + 1) path))) good;
  plain = nothing_taken (drop (place + 1) path) (place + 1);
  within = omega arith;
}

pub parts_on : (path : List ℕ) (from place d : ℕ) → PartsLeft path from place → place < length path → is_slash (get_or path place d) ≡ false
    → PartsLeft path from (place + 1)
parts_on path from place d parts lt is =
    let xs = drop from path in
    let within = parts.within in
    let byte = get_or path place d in
    let one : place + 1 - from ≡ place - from + 1 = omega arith in
    let short : place - from < length xs = omega (arith, length-drop from path) in
    let more : take (place + 1 - from) xs ≡ take (place - from) xs ++ (byte ∷ []) =
    ap (λ n. take n xs) one ∙ take_more xs (place - from) d short
    ∙ ap (λ y. take (place - from) xs ++ (y ∷ [])) (get_or-drop from path (place - from) d ∙ ap (λ n. get_or path n d) (at_place from place within))
    in
    record {
      left = parts.left;
      plain = subst (λ (ys : List ℕ). All IsPlain ys) (sym more)
          (All-append IsPlain (take (place - from) xs) (byte ∷ []) parts.plain (All-cons IsPlain byte [] is (All-nil IsPlain)));
      within = omega arith;
    }

or_none : (b : Bool) → b ≡ (b || false)
or_none true = refl
or_none false = refl

-- at the end the last part is bad, or none is
pub bad_last : (path : List ℕ) (from place : ℕ) → PartsLeft path from place → length path ≤ place
    → is_bad_part (take (length path - from) (drop from path)) ≡ has_bad_part path
bad_last path from place parts end =
    let xs = drop from path in
    let whole : take (place - from) xs ≡ xs = take_all (place - from) xs (omega (arith, length-drop from path)) in
    let all : take (length path - from) xs ≡ xs = take_all (length path - from) xs (omega (arith, length-drop from path)) in
    let plain : All IsPlain xs = subst (λ (ys : List ℕ). All IsPlain ys) whole parts.plain in
    ap is_bad_part all ∙ or_none (is_bad_part xs) ∙ sym (parts.left ∙ ap (list_any is_bad_part) (slice_split_none is_slash xs plain))

-- ---- fronts

both_false : (b : Bool) → (if b then false else false) ≡ false
both_false true = refl
both_false false = refl

no_more : (n : ℕ) → n ≡ n + 0
no_more n = omega arith

one_more : (n k : ℕ) → n + suc k ≡ suc (n + k)
one_more n k = omega arith

pub front_none : (at : Known) (path : List ℕ) → has_bad_front at path 0 ≡ false
unfolding has_bad_front
front_none at path = refl

pub front_suc : (at : Known) (path : List ℕ) (n : ℕ) → has_bad_front at path (suc n)
    ≡ (has_bad_front at path n || (if ends_at_slash path n then is_in_the_way (at (take n path)) else false))
unfolding has_bad_front
front_suc at path n = refl

pub front_next : (at : Known) (path : List ℕ) (n : ℕ) → has_bad_front at path (n + 1)
    ≡ (has_bad_front at path n || (if ends_at_slash path n then is_in_the_way (at (take n path)) else false))
front_next at path n = ap (has_bad_front at path) (add-one n) ∙ front_suc at path n

pub front_good : (at : Known) (path : List ℕ) (n : ℕ) → has_bad_front at path n ≡ false → ends_at_slash path n ≡ false
    → has_bad_front at path (n + 1) ≡ false
front_good at path n before plain =
    front_next at path n ∙ ap (λ (b : Bool). b || (if ends_at_slash path n then is_in_the_way (at (take n path)) else false)) before
    ∙ ap (λ (b : Bool). if b then is_in_the_way (at (take n path)) else false) plain

pub front_clear : (at : Known) (path : List ℕ) (n : ℕ) → has_bad_front at path n ≡ false → is_in_the_way (at (take n path)) ≡ false
    → has_bad_front at path (n + 1) ≡ false
front_clear at path n before clear =
    front_next at path n ∙ ap (λ (b : Bool). b || (if ends_at_slash path n then is_in_the_way (at (take n path)) else false)) before
    ∙ ap (λ (b : Bool). if ends_at_slash path n then b else false) clear ∙ both_false (ends_at_slash path n)

front_stays : (at : Known) (path : List ℕ) (n k : ℕ) → has_bad_front at path n ≡ true → has_bad_front at path (n + k) ≡ true
front_stays at path n zero bad = subst (λ (m : ℕ). has_bad_front at path m ≡ true) (no_more n) bad
front_stays at path n (suc k) bad =
    ap (has_bad_front at path) (one_more n k) ∙ front_suc at path (n + k)
    ∙ ap (λ (b : Bool). b || (if ends_at_slash path (n + k) then is_in_the_way (at (take (n + k) path)) else false)) (front_stays at path n k bad)

-- a bad front is one of any longer path
pub front_bad : (at : Known) (path : List ℕ) (n m : ℕ) → n < m → ends_at_slash path n ≡ true → is_in_the_way (at (take n path)) ≡ true
    → has_bad_front at path n ≡ false → has_bad_front at path m ≡ true
front_bad at path n m lt is bad before =
    let here : has_bad_front at path (n + 1) ≡ true =
    front_next at path n ∙ ap (λ (b : Bool). b || (if ends_at_slash path n then is_in_the_way (at (take n path)) else false)) before
    ∙ ap (λ (b : Bool). if b then is_in_the_way (at (take n path)) else false) is ∙ bad
    in
    let e : n + 1 + (m - (n + 1)) ≡ m = omega arith in
    subst (λ (k : ℕ). has_bad_front at path k ≡ true) e (front_stays at path (n + 1) (m - (n + 1)) here)
