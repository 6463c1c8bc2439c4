-- The names of numbered files and folders.
use Rattle.std.specs.Prelude.{◌≡◌, ℕ, ◌^◌, ◌<◌, List, length, slice_index}
use Rattle.std.specs.Str.Parse.{IsNumeral, digits_value}

-- digits alone, no leading zero but `0` itself, and below 2^64
pub record IsDecimal (name : List ℕ) : Type 0 where
  pub digits : IsNumeral 10 name
  pub shortest : slice_index name 0 ≡ 48 → length name ≡ 1
  pub fits : digits_value 10 name < 2 ^ 64
