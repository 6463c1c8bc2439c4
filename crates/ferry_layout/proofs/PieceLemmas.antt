-- Lemmas on bytes that are read or written piece by piece.
use Rattle.std.proofs.Common.{◌≡◌, ℕ, ◌+◌, ◌-◌, ◌≤◌, List, ◌++◌, length, take, drop, sym, ap, ◌∙◌, subst, length-take-le}
use Rattle.std.proofs.Math.Seq.{take-append-add, take-add}
use Rattle.std.proofs.lemmas.List.{take-append-le, take_rest}

-- The front of a buffer after `piece` was put behind its first `at` bytes: those, and a front of the piece.
pub take-filled : (at n : ℕ) (buffer piece rest : List ℕ) → at ≤ length buffer → n ≤ length piece
    → take (at + n) (take at buffer ++ (piece ++ rest)) ≡ take at buffer ++ take n piece
take-filled at n buffer piece rest within fits =
    subst (λ k. take (k + n) (take at buffer ++ (piece ++ rest)) ≡ take at buffer ++ take n piece) (length-take-le at buffer within)
    (take-append-add (take at buffer) (piece ++ rest) n ∙ ap (λ l. take at buffer ++ l) (take-append-le n piece rest fits))

-- The first `at` bytes, and a front of those behind them.
pub take-passed : (at n : ℕ) (all : List ℕ) → take at all ++ take n (take (length all - at) (drop at all)) ≡ take (at + n) all
take-passed at n all = ap (λ l. take at all ++ take n l) (take_rest all at) ∙ sym (take-add at n all)
