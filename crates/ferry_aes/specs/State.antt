-- The state of AES, FIPS 197, sections 3.4 and 3.5: 4 by 4 bytes s[r,c], here a list of the four
-- columns. A column is a word, a list of its four bytes.
use Rattle.std.specs.Prelude.{ℕ, ◌+◌, ◌*◌, List, [], ◌∷◌, map, slice_index, slice_index_or}
use Rattle.std.specs.List.{flat_map}

-- 0, 1, 2, 3: the numbers of the rows, and of the columns
abbrev pub four : List ℕ
four = 0 ∷ 1 ∷ 2 ∷ 3 ∷ []

-- word c of a list of words
abbrev pub word : List (List ℕ) → ℕ → List ℕ
word words c = slice_index_or words c []

-- s[r,c], the byte in row r of column c
abbrev pub at : List (List ℕ) → ℕ → ℕ → ℕ
at s r c = slice_index (word s c) r

-- the state whose s[r,c] is f r c
abbrev pub state_by : (ℕ → ℕ → ℕ) → List (List ℕ)
state_by f = map (λ c. map (λ r. f r c) four) four

-- the state that a block is copied into: s[r,c] = in[r + 4c] (3.4)
unfoldable pub state_of : List ℕ → List (List ℕ)
state_of block = state_by (λ r c. slice_index block (r + 4 * c))

-- the block that a state is copied into: out[r + 4c] = s[r,c] (3.4)
unfoldable pub block_of : List (List ℕ) → List ℕ
block_of s = flat_map (λ c. map (λ r. at s r c) four) four
