-- Lemmas on specs/Cut.antt.
use Rattle.std.proofs.Common.{◌≡◌, ◌≤◌, ◌<◌, ◌+◌, ◌-◌, ◌*◌, ◌/◌, ◌↔◌, ℕ, zero, suc, List, [], ◌∷◌, ◌++◌, All}
use Rattle.std.proofs.Common.{length, map, take, drop, get_or, inl, inr, refl, ap, subst, sym, ◌∙◌, add-one, arith}
use Rattle.std.specs.List.{concat, range_with_len}
use Rattle.std.proofs.Math.Nat.{div-eq_of_lt, add-div_left, zero-mul}
use Rattle.std.proofs.Math.Seq.{drop-append-add}
use Rattle.std.proofs.lemmas.Bool.{cases_lt}
use Rattle.std.proofs.lemmas.Nat.{div-mul-add}
use Rattle.std.proofs.lemmas.List.{append-nil, get_or-take, length-append, length-drop, length-take, length-take-le, take_all, take_at, take-append-drop}
use Rattle.std.proofs.lemmas.List.Elements.{All-nil, All-cons, All-head, All-tail, All-from_get_or}
use Rattle.std.proofs.lemmas.List.FromFn.{length-map-range_with_len}
use Rattle.ferry_rechunk.specs.Cut.{piece_count, piece_at, cut, IsCut}

-- ---- piece_count

count_nothing : (block : ℕ) → 1 ≤ block → piece_count block [] ≡ 0
count_nothing block some = div-eq_of_lt (omega arith)

count_short : (block : ℕ) (piece : List ℕ) → 1 ≤ length piece → length piece ≤ block → piece_count block piece ≡ 1
count_short block piece some fits =
    let e : length piece + (block - 1) ≡ 1 * block + (length piece - 1) = omega arith in
    ap (λ n. n / block) e ∙ div-mul-add 1 block (length piece - 1) (omega arith)

count_whole : (block : ℕ) (piece rest : List ℕ) → 1 ≤ block → length piece ≡ block → piece_count block (piece ++ rest) ≡ suc (piece_count block rest)
count_whole block piece rest some whole =
    let e : length (piece ++ rest) + (block - 1) ≡ block + (length rest + (block - 1)) = omega (arith, length-append piece rest) in
    ap (λ n. n / block) e ∙ add-div_left (length rest + (block - 1)) (omega arith) ∙ add-one (piece_count block rest)

-- ---- piece_at

first_piece : (block : ℕ) (piece rest : List ℕ) → length piece ≡ block → piece_at block (piece ++ rest) 0 ≡ piece
first_piece block piece rest whole = rw zero-mul (take_at piece rest block whole)

next_piece : (block : ℕ) (piece rest : List ℕ) → length piece ≡ block → (number : ℕ) → piece_at block (piece ++ rest) (number + 1) ≡ piece_at block rest number
next_piece block piece rest whole number =
    let e : (number + 1) * block ≡ length piece + number * block = rw whole (omega arith) in
    ap (λ n. take block (drop n (piece ++ rest))) e ∙ ap (take block) (drop-append-add piece rest (number * block))

-- ---- cut

-- numbers from one more on, each taken to what the number before it is taken to
shifted : (f g : ℕ → List ℕ) → ((number : ℕ) → f (number + 1) ≡ g number) → (a n : ℕ) → map f (range_with_len (a + 1) n) ≡ map g (range_with_len a n)
shifted f g each a zero = refl
shifted f g each a (suc n) = ap (λ x. x ∷ map f (range_with_len (a + 1 + 1) n)) (each a) ∙ ap (λ xs. g a ∷ xs) (shifted f g each (a + 1) n)

-- the cut of nothing is no piece
pub cut_nothing : (block : ℕ) → 1 ≤ block → cut block [] ≡ []
unfolding cut
cut_nothing block some = rw (count_nothing block some) refl

-- the cut of a block at most, and of one byte at least, is that piece
pub cut_short : (block : ℕ) (piece : List ℕ) → 1 ≤ length piece → length piece ≤ block → cut block piece ≡ piece ∷ []
unfolding cut
cut_short block piece some fits =
    rw (count_short block piece some fits, zero-mul block, take_all block piece fits) refl

-- the cut of a whole piece and a rest is that piece and the cut of the rest
pub cut_whole : (block : ℕ) (piece rest : List ℕ) → 1 ≤ block → length piece ≡ block → cut block (piece ++ rest) ≡ piece ∷ cut block rest
unfolding cut
cut_whole block piece rest some whole =
    let all = piece_at block (piece ++ rest) in
    let later = piece_at block rest in
    let n = piece_count block rest in
    ap (λ count. map all (range_with_len 0 count)) (count_whole block piece rest some whole)
    ∙ ap (λ x. x ∷ map all (range_with_len 1 n)) (first_piece block piece rest whole)
    ∙ ap (λ xs. piece ∷ xs) (shifted all later (next_piece block piece rest whole) 0 n)

pub cut_count : (block : ℕ) (content : List ℕ) → length (cut block content) ≡ piece_count block content
unfolding cut
cut_count block content = length-map-range_with_len (piece_at block content) 0 (piece_count block content)

-- ---- IsCut

-- a whole piece, and a piece of any size that a cut has
abbrev IsWhole : ℕ → List ℕ → Type 0
IsWhole block piece = length piece ≡ block

abbrev HasSize : ℕ → List ℕ → Type 0
HasSize block piece = (1 ≤ length piece) × (length piece ≤ block)

-- each piece but the last, by its place
whole_at : (block : ℕ) (pieces : List (List ℕ)) → All (IsWhole block) (take (length pieces - 1) pieces)
    → (number : ℕ) → number + 1 < length pieces → IsWhole block (get_or pieces number [])
whole_at block pieces whole number within =
    let inside : number < length pieces - 1 = omega arith in
    let short : length pieces - 1 ≤ length pieces = omega arith in
    let counted : number < length (take (length pieces - 1) pieces) = rw (length-take-le (length pieces - 1) pieces short) inside in
    ap length (sym (get_or-take (length pieces - 1) pieces number [] inside)) ∙ whole number [] counted

all_whole : (block : ℕ) (pieces : List (List ℕ)) → ((number : ℕ) → number + 1 < length pieces → IsWhole block (get_or pieces number []))
    → All (IsWhole block) (take (length pieces - 1) pieces)
all_whole block pieces each =
    All-from_get_or (IsWhole block) (take (length pieces - 1) pieces) [] (λ number within.
    let inside : number < length pieces - 1 = omega (arith, length-take (length pieces - 1) pieces) in
    ap length (get_or-take (length pieces - 1) pieces number [] inside) ∙ each number (omega arith))

-- the pieces behind the first are a cut of the bytes behind it
rest_is_cut : (block : ℕ) (piece : List ℕ) (pieces : List (List ℕ)) (content : List ℕ) → IsCut block content (piece ∷ pieces)
    → IsCut block (concat pieces) pieces
rest_is_cut block piece pieces content is = record {
  joined = refl;
  sizes = All-tail (HasSize block) piece pieces is.sizes;
  whole = all_whole block pieces (λ number within. whole_at block (piece ∷ pieces) is.whole (suc number) (omega arith));
}

-- a whole piece before a cut is a cut
more_is_cut : (block : ℕ) (piece rest : List ℕ) (pieces : List (List ℕ)) → 1 ≤ block → length piece ≡ block → IsCut block rest pieces
    → IsCut block (piece ++ rest) (piece ∷ pieces)
more_is_cut block piece rest pieces some whole is = record {
  joined = ap (λ bytes. piece ++ bytes) is.joined;
  sizes = All-cons (HasSize block) piece pieces (omega arith, omega arith) is.sizes;
  whole = all_whole block (piece ∷ pieces) (more_whole block piece pieces whole is.whole);
}
  where
    more_whole : (block : ℕ) (piece : List ℕ) (pieces : List (List ℕ)) → length piece ≡ block → All (IsWhole block) (take (length pieces - 1) pieces)
        → (number : ℕ) → number + 1 < length (piece ∷ pieces) → IsWhole block (get_or (piece ∷ pieces) number [])
    more_whole block piece pieces whole rest zero within = whole
    more_whole block piece pieces whole rest (suc number) within = whole_at block pieces rest number (omega arith)

-- the pieces of a cut are those of the function
pub cut_of : (block : ℕ) (content : List ℕ) (pieces : List (List ℕ)) → 1 ≤ block → IsCut block content pieces → pieces ≡ cut block content
cut_of block content [] some is = sym (cut_nothing block some) ∙ ap (cut block) is.joined
cut_of block content (piece ∷ []) some is =
    let size = All-head (HasSize block) piece [] is.sizes in
    sym (cut_short block piece size.0 size.1) ∙ ap (cut block) (sym (append-nil piece) ∙ is.joined)
cut_of block content (piece ∷ (next ∷ more)) some is =
    let whole = whole_at block (piece ∷ (next ∷ more)) is.whole 0 (omega arith) in
    ap (λ pieces. piece ∷ pieces) (cut_of block (concat (next ∷ more)) (next ∷ more) some (rest_is_cut block piece (next ∷ more) content is))
    ∙ sym (cut_whole block piece (concat (next ∷ more)) some whole) ∙ ap (cut block) is.joined

one_is_cut : (block : ℕ) (piece : List ℕ) → 1 ≤ length piece → length piece ≤ block → IsCut block piece (cut block piece)
one_is_cut block piece some fits =
    rw (cut_short block piece some fits) (record {
      joined = append-nil piece;
      sizes = All-cons (HasSize block) piece [] (some, fits) (All-nil (HasSize block));
      whole = All-nil (IsWhole block);
    })

longer_is_cut : (block : ℕ) (content : List ℕ) → 1 ≤ block → block < length content → IsCut block (drop block content) (cut block (drop block content))
    → IsCut block content (cut block content)
longer_is_cut block content some longer is =
    let front = take block content in
    let rest = drop block content in
    let whole : length front ≡ block = length-take-le block content (omega arith) in
    let more : IsCut block (front ++ rest) (front ∷ cut block rest) = more_is_cut block front rest (cut block rest) some whole is in
    let P : List ℕ → Type 0 = λ bytes. IsCut block bytes (cut block bytes) in
    subst P (take-append-drop block content) (rw (cut_whole block front rest some whole) more)

-- the cut of fewer bytes than told is one
cut_below : (n block : ℕ) (content : List ℕ) → 1 ≤ block → length content ≤ n → IsCut block content (cut block content)
cut_below n block [] some below = rw (cut_nothing block some) (record {
  joined = refl;
  sizes = All-nil (HasSize block);
  whole = All-nil (IsWhole block);
})
cut_below zero block (byte ∷ bytes) some below = absurd (omega arith)
cut_below (suc n) block (byte ∷ bytes) some below = elim (cases_lt block (length (byte ∷ bytes))) [
  | inl longer ↦
      let fewer : length (drop block (byte ∷ bytes)) ≤ n = omega (arith, length-drop block (byte ∷ bytes)) in
      longer_is_cut block (byte ∷ bytes) some longer (cut_below n block (drop block (byte ∷ bytes)) some fewer)
  | inr short ↦ one_is_cut block (byte ∷ bytes) (omega arith) short
]

pub cut_is : (block : ℕ) (content : List ℕ) → 1 ≤ block → IsCut block content (cut block content)
cut_is block content some = cut_below (length content) block content some (omega arith)

-- a content has one cut, which is the function's
pub is_both : (block : ℕ) (content : List ℕ) (pieces : List (List ℕ)) → 1 ≤ block → IsCut block content pieces ↔ (pieces ≡ cut block content)
is_both block content pieces some = (
  cut_of block content pieces some,
  λ same. let P : List (List ℕ) → Type 0 = λ others. IsCut block content others in subst P (sym same) (cut_is block content some),
)

pub one_cut : (block : ℕ) (content : List ℕ) (pieces others : List (List ℕ)) → 1 ≤ block → IsCut block content pieces → IsCut block content others
    → pieces ≡ others
one_cut block content pieces others some a b = cut_of block content pieces some a ∙ sym (cut_of block content others some b)

pub cut_joined : (block : ℕ) (content : List ℕ) → 1 ≤ block → concat (cut block content) ≡ content
cut_joined block content some = (cut_is block content some).joined

pub cut_sizes : (block : ℕ) (content : List ℕ) → 1 ≤ block → All (λ piece. (1 ≤ length piece) × (length piece ≤ block)) (cut block content)
cut_sizes block content some = (cut_is block content some).sizes
