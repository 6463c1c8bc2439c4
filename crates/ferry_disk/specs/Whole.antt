-- What a buffer has of a file.
use Rattle.std.specs.Prelude.{◌≡◌, ℕ, ◌-◌, min, List, length, take, drop}

-- The front of the buffer is the file's bytes from `at` on, as many as there are or fit.
pub record Fills (contents : List ℕ) (at : ℕ) (buffer : List ℕ) (filled : ℕ) : Type 0 where
  pub count : filled ≡ min (length buffer) (length contents - at)
  pub front : take filled buffer ≡ take filled (drop at contents)
