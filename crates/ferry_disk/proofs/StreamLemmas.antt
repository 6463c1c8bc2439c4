-- Lemmas on specs/Stream.antt.
use Rattle.std.proofs.Common.{◌≡◌, ℕ, zero, suc, ◌+◌, ◌%◌, [], ◌∷◌, ◌++◌, sym, ◌∙◌, ap, arith}
use Rattle.std.proofs.lemmas.List.{append_assoc, append-nil}
use Rattle.ferry_disk.specs.Stream.{stream}

-- the bytes of two runs of places, one behind the other
pub stream-add : (at p n : ℕ) → stream at (p + n) ≡ stream at p ++ stream (at + p) n
stream-add at p zero =
    let e : p + zero ≡ p = omega arith in
    ap (stream at) e ∙ sym (append-nil (stream at p))
stream-add at p (suc n) =
    let e : p + suc n ≡ suc (p + n) = omega arith in
    let place : at + (p + n) ≡ at + p + n = omega arith in
    ap (stream at) e
    ∙ (ap (λ s. s ++ ((at + (p + n)) % 256) ∷ []) (stream-add at p n)
    ∙ (append_assoc (stream at p) (stream (at + p) n) (((at + (p + n)) % 256) ∷ [])
    ∙ ap (λ k. stream at p ++ (stream (at + p) n ++ (k % 256) ∷ [])) place))
