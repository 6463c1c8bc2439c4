-- Lemmas on specs/Cutting.antt.
use Rattle.std.proofs.Common.{◌≡◌, ◌≤◌, ℕ, List, [], ◌∷◌, ◌++◌}
use Rattle.std.proofs.Common.{length, take, drop, refl, ap, sym, ◌∙◌, arith}
use Rattle.std.specs.List.{concat}
use Rattle.std.proofs.lemmas.List.{append-nil, append_assoc, drop_all, take_all}
use Rattle.std.proofs.lemmas.List.Elements.{All-nil, All-head, All-tail, All-push}
use Rattle.std.proofs.lemmas.List.Folds.{concat-append}
use Rattle.ferry_rechunk.specs.Cut.{cut}
use Rattle.ferry_rechunk.specs.Cutting.{Cutting, IsFed, written_over, after_loan}
use Rattle.ferry_rechunk.proofs.CutLemmas.{cut_whole}

-- ---- IsFed

pub fed_nothing : (block : ℕ) → IsFed block [] [] []
fed_nothing block = record { joined = refl; whole = All-nil (λ one. length one ≡ block); fits = omega arith }

-- bytes that fit go behind the piece in hand
pub fed_more : (block : ℕ) (fed piece more : List ℕ) (taken : List (List ℕ)) → IsFed block fed taken piece → length (piece ++ more) ≤ block
    → IsFed block (fed ++ more) taken (piece ++ more)
fed_more block fed piece more taken is fits = record {
  joined = sym (append_assoc (concat taken) piece more) ∙ ap (λ bytes. bytes ++ more) is.joined;
  whole = is.whole;
  fits = fits;
}

-- a whole piece is taken, and nothing is left in hand
pub fed_taken : (block : ℕ) (fed piece : List ℕ) (taken : List (List ℕ)) → IsFed block fed taken piece → length piece ≡ block
    → IsFed block fed (taken ++ piece ∷ []) []
fed_taken block fed piece taken is whole = record {
  joined = append-nil (concat (taken ++ piece ∷ [])) ∙ concat-append taken (piece ∷ []) ∙ ap (λ bytes. concat taken ++ bytes) (append-nil piece) ∙ is.joined;
  whole = All-push (λ one. length one ≡ block) taken piece is.whole whole;
  fits = omega arith;
}

-- the pieces are those that were taken and that of what is in hand
pub fed_cut : (block : ℕ) (fed piece : List ℕ) (taken : List (List ℕ)) → 1 ≤ block → IsFed block fed taken piece → cut block fed ≡ taken ++ cut block piece
fed_cut block fed piece [] some is = ap (cut block) (sym is.joined)
fed_cut block fed piece (one ∷ more) some is =
    let whole = All-head (λ x. length x ≡ block) one more is.whole in
    let rest : IsFed block (concat more ++ piece) more piece =
    record { joined = refl; whole = All-tail (λ x. length x ≡ block) one more is.whole; fits = is.fits } in
    ap (cut block) (sym is.joined ∙ append_assoc one (concat more) piece)
    ∙ cut_whole block one (concat more ++ piece) some whole
    ∙ ap (λ pieces. one ∷ pieces) (fed_cut block (concat more ++ piece) piece more some rest)

-- ---- after_loan

-- as many bytes as were lent are all there
pub written_whole : (lent written : List ℕ) → length written ≡ length lent → written_over lent written ≡ written
written_whole lent written same =
    let none : drop (length written) lent ≡ [] = drop_all (length written) lent (omega arith) in
    ap (λ bytes. take (length lent) (written ++ bytes)) none ∙ ap (take (length lent)) (append-nil written) ∙ take_all (length lent) written (omega arith)

pub loan_kept : (cutting : Cutting) (lent written : List ℕ) → length written ≡ length lent
    → after_loan cutting lent written ≡ record cutting { piece = drop 43 written }
loan_kept cutting lent written same = ap (λ bytes. record cutting { piece = drop 43 bytes }) (written_whole lent written same)
