-- The words of the program, as bytes of UTF-8.
use Rattle.std.specs.Prelude.{ℕ, Bool, false, not, ◌||◌, List, [], ◌∷◌, codes}
use Rattle.std.specs.Str.{bytes_eq}

-- whether there are three words or more, of which the first two differ or are `-`
abbrev pub places_fit : List (List ℕ) → Bool
places_fit [] = false
places_fit (source ∷ []) = false
places_fit (source ∷ target ∷ []) = false
places_fit (source ∷ target ∷ command ∷ rest) = not (bytes_eq source target) || bytes_eq source (codes "-")
