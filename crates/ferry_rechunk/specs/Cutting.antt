-- The piece that a cutter has in hand, and how far it is with what it was fed.
use Rattle.std.specs.Prelude.{◌≡◌, ◌≤◌, ◌++◌, ℕ, List, All, length, take, drop}
use Rattle.std.specs.List.{concat}

-- the block size, and the piece in hand
pub record Cutting : Type 0 where
  pub block : ℕ
  pub piece : List ℕ

-- These bytes were fed, the whole pieces among them were taken, and the piece in hand is what is left.
pub record IsFed (block : ℕ) (fed : List ℕ) (taken : List (List ℕ)) (piece : List ℕ) : Type 0 where
  pub joined : concat taken ++ piece ≡ fed
  pub whole : All (λ one. length one ≡ block) taken
  pub fits : length piece ≤ block

-- what stands where these bytes were lent and those were written: the length stays
abbrev pub written_over : List ℕ → List ℕ → List ℕ
written_over lent written = take (length lent) (written ++ drop (length written) lent)

-- a cutter whose head and piece were lent, when the loan ends
abbrev pub after_loan : Cutting → List ℕ → List ℕ → Cutting
after_loan cutting lent written = record cutting { piece = drop 43 (written_over lent written) }
