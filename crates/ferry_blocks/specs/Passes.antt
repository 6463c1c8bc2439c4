-- The steps of going over segments, for the contracts of the parts.
use Rattle.std.specs.Prelude.{◌≡◌, ◌⊎◌, ℕ, ◌<◌, List, slice_index}
use Rattle.ferry_blob.specs.Blob.{IsBlockOf}
use Rattle.ferry_disk.specs.Files.{Files}
use Rattle.ferry_blocks.specs.Blocks.{IsReached, IsStatedFrom, IsCountedFrom, IsCountedIn, IsBehind}

-- Stated sizes lead from one place to another, and a number is the end of the blocks between: each counter block of a blob that is stated from
-- the first place on is below it, or the blob is stated from the second one on.
pub record Passes (bytes : List ℕ) (from to end : ℕ) : Type 0 where
  pub reached : IsReached bytes from to
  pub above : (blob : List ℕ) (number : ℕ) → IsCountedFrom bytes from blob → IsBlockOf blob number → (number < end) ⊎ IsStatedFrom bytes to blob
  pub last : (end ≡ 0) ⊎ IsBehind (IsCountedFrom bytes from) end

-- A blob that takes counter blocks is stated in one of the first so many of these segments.
abbrev pub IsCountedBelow : Files → List ℕ → ℕ → List ℕ → Type 0
IsCountedBelow files numbers count blob = (i : ℕ) × (i < count) × IsCountedIn files (slice_index numbers i) blob
