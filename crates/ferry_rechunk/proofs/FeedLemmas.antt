-- Lemmas on a loop that feeds a part of a content to a cutter and takes each whole piece.
use Rattle.std.proofs.Common.{◌≡◌, ◌≤◌, ◌<◌, ◌+◌, ℕ, List, [], ◌∷◌, ◌++◌}
use Rattle.std.proofs.Common.{length, take, drop, get_or, ap, sym, subst, ◌∙◌, refl, arith}
use Rattle.std.proofs.lemmas.List.{append-nil, append_assoc, take-append-drop, take_more}
use Rattle.std.specs.List.{concat}
use Rattle.std.proofs.lemmas.List.Folds.{concat-append}
use Rattle.ferry_rechunk.specs.Cutting.{IsFed}
use Rattle.ferry_rechunk.specs.Cut.{cut}
use Rattle.ferry_rechunk.proofs.CutLemmas.{cut_nothing, cut_short}
use Rattle.ferry_rechunk.proofs.CuttingLemmas.{fed_cut, fed_more, fed_taken}

-- A front of the part was fed, and the rest is left.
pub record FedSoFar (block : ℕ) (part rest : List ℕ) (before : List (List ℕ)) (piece : List ℕ) (after : List (List ℕ)) (left : List ℕ) : Type 0 where
  pub front : List ℕ
  pub split : front ++ rest ≡ part
  pub fed : (fed : List ℕ) → IsFed block fed before piece → IsFed block (fed ++ front) after left

pub none_yet : (block : ℕ) (part : List ℕ) (pieces : List (List ℕ)) (piece : List ℕ) → FedSoFar block part part pieces piece pieces piece
none_yet block part pieces piece = record {
  front = [];
  split = refl;
  fed = λ fed is. let P : List ℕ → Type 0 = λ bytes. IsFed block bytes pieces piece in subst P (sym (append-nil fed)) is;
}

-- the front of the rest that fits is fed
pub one_more : (block : ℕ) (part rest : List ℕ) (before : List (List ℕ)) (piece : List ℕ) (after : List (List ℕ)) (left : List ℕ) (taken : ℕ)
    → length (left ++ take taken rest) ≤ block → FedSoFar block part rest before piece after left
    → FedSoFar block part (drop taken rest) before piece after (left ++ take taken rest)
one_more block part rest before piece after left taken fits is = record {
  front = is.front ++ take taken rest;
  split = append_assoc is.front (take taken rest) (drop taken rest) ∙ ap (λ bytes. is.front ++ bytes) (take-append-drop taken rest) ∙ is.split;
  fed = λ fed was.
      let P : List ℕ → Type 0 = λ bytes. IsFed block bytes after (left ++ take taken rest) in
      subst P (append_assoc fed is.front (take taken rest)) (fed_more block (fed ++ is.front) left (take taken rest) after (is.fed fed was) fits);
}

-- a whole piece is taken
pub one_taken : (block : ℕ) (part rest : List ℕ) (before : List (List ℕ)) (piece : List ℕ) (after : List (List ℕ)) (left : List ℕ)
    → length left ≡ block → FedSoFar block part rest before piece after left → FedSoFar block part rest before piece (after ++ left ∷ []) []
one_taken block part rest before piece after left whole is = record {
  front = is.front;
  split = is.split;
  fed = λ fed was. fed_taken block (fed ++ is.front) left after (is.fed fed was) whole;
}

-- a round of the loop in which the piece is made whole and taken
pub next_round : (block : ℕ) (part rest : List ℕ) (before : List (List ℕ)) (piece : List ℕ) (after : List (List ℕ)) (left : List ℕ) (taken : ℕ)
    (grown behind : List ℕ) (pieces : List (List ℕ)) (hand : List ℕ) → FedSoFar block part rest before piece after left
    → grown ≡ left ++ take taken rest → length grown ≡ block → behind ≡ drop taken rest → pieces ≡ after ++ grown ∷ [] → hand ≡ []
    → FedSoFar block part behind before piece pieces hand
next_round block part rest before piece after left taken grown behind pieces hand is grows whole goes_on put cleared =
    let fits : length (left ++ take taken rest) ≤ block = rw (← grows) (omega arith) in
    let full : length (left ++ take taken rest) ≡ block = rw (← grows) whole in
    let fed = one_taken block part (drop taken rest) before piece after (left ++ take taken rest) full
    (one_more block part rest before piece after left taken fits is) in
    rw (goes_on, put, grows, cleared) fed

-- one part more of a list of parts
pub one_part_more : (parts : List (List ℕ)) (i : ℕ) (d : List ℕ) → i < length parts → concat (take (i + 1) parts) ≡ concat (take i parts) ++ get_or parts i d
one_part_more parts i d within =
    ap concat (take_more parts i d within) ∙ concat-append (take i parts) (get_or parts i d ∷ [])
    ∙ ap (λ bytes. concat (take i parts) ++ bytes) (append-nil (get_or parts i d))

-- the end, where a piece is left, and where none is
pub ends_with : (block : ℕ) (fed piece : List ℕ) (taken pieces : List (List ℕ)) → 1 ≤ block → IsFed block fed taken piece → 1 ≤ length piece
    → pieces ≡ taken ++ piece ∷ [] → pieces ≡ cut block fed
ends_with block fed piece taken pieces some is left put =
    put ∙ ap (λ more. taken ++ more) (sym (cut_short block piece left is.fits)) ∙ sym (fed_cut block fed piece taken some is)

pub ends_without : (block : ℕ) (fed piece : List ℕ) (taken : List (List ℕ)) → 1 ≤ block → IsFed block fed taken piece → (1 ≤ length piece → ⊥)
    → taken ≡ cut block fed
ends_without block fed [] taken some is none =
    sym (append-nil taken) ∙ ap (λ more. taken ++ more) (sym (cut_nothing block some)) ∙ sym (fed_cut block fed [] taken some is)
ends_without block fed (byte ∷ bytes) taken some is none = absurd (none (omega arith))
