-- Cutting a content into pieces of one size: the fixed block size chunker of BorgBackup 1.2, Internals, "Data structures and
-- file formats", Chunks.
use Rattle.std.specs.Prelude.{◌≡◌, ◌≤◌, ◌+◌, ◌-◌, ◌*◌, ◌/◌, ℕ, List, All, length, map, take, drop}
use Rattle.std.specs.List.{concat, range_with_len}

-- how many pieces a content has
abbrev pub piece_count : ℕ → List ℕ → ℕ
piece_count block content = (length content + (block - 1)) / block

-- the piece of this number: a block of bytes from that multiple of the block size on, or what is left there
abbrev pub piece_at : ℕ → List ℕ → ℕ → List ℕ
piece_at block content number = take block (drop (number * block) content)

-- the pieces of a content, in order
unfoldable pub cut : ℕ → List ℕ → List (List ℕ)
cut block content = map (λ number. piece_at block content number) (range_with_len 0 (piece_count block content))

-- These pieces are the content: each but the last has as many bytes as a block, and the last has one at least and a block at most.
pub record IsCut (block : ℕ) (content : List ℕ) (pieces : List (List ℕ)) : Type 0 where
  pub joined : concat pieces ≡ content
  pub sizes : All (λ piece. (1 ≤ length piece) × (length piece ≤ block)) pieces
  pub whole : All (λ piece. length piece ≡ block) (take (length pieces - 1) pieces)
