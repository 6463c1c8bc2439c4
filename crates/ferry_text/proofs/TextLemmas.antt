-- Lemmas on specs/Text.antt.
use Rattle.std.proofs.Common.{◌≡◌, ℕ, true, false, cond, List, [], ◌∷◌, ◌++◌, refl, ap, ◌∙◌, arith}
use Rattle.std.specs.List.{AllPass}
use Rattle.std.proofs.lemmas.List.Elements.{All-tail}
use Rattle.ferry_text.specs.Text.{is_plain, escape, escaped_byte, escaped}

-- ---- escaped

pub escaped-nil : escaped [] ≡ []
unfolding escaped
escaped-nil = refl

pub escaped-cons : (byte : ℕ) (rest : List ℕ) → escaped (byte ∷ rest) ≡ escaped_byte byte ++ escaped rest
unfolding escaped
escaped-cons byte rest = refl

pub escaped-plain_cons : (byte : ℕ) (rest : List ℕ) → is_plain byte ≡ true → escaped (byte ∷ rest) ≡ byte ∷ escaped rest
escaped-plain_cons byte rest plain = escaped-cons byte rest ∙ ap (λ b. cond b (byte ∷ []) (escape byte) ++ escaped rest) plain

pub escaped-escape_cons : (byte : ℕ) (rest : List ℕ) → is_plain byte ≡ false → escaped (byte ∷ rest) ≡ escape byte ++ escaped rest
escaped-escape_cons byte rest other = escaped-cons byte rest ∙ ap (λ b. cond b (byte ∷ []) (escape byte) ++ escaped rest) other

-- plain bytes in front are printed as they are
pub escaped-plain_front : (front rest : List ℕ) → AllPass is_plain front → escaped (front ++ rest) ≡ front ++ escaped rest
escaped-plain_front [] rest plain = refl
escaped-plain_front (byte ∷ front) rest plain =
    escaped-plain_cons byte (front ++ rest) (plain 0 0 (omega arith))
    ∙ ap (λ k. byte ∷ k) (escaped-plain_front front rest (All-tail (λ x. is_plain x ≡ true) byte front plain))
