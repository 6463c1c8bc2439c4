-- The forms of a line of `config`. The grammar is this repository's own, a part of what Python's
-- `configparser` reads, which BorgBackup 1.2 writes the file with.
use Rattle.std.specs.Prelude.{ℕ, ◌+◌, ◌-◌, ◌==◌, ◌&&◌, ◌||◌, nat_le, not, Bool, if◌then◌else◌, List, [], ◌∷◌, length, take, drop, slice_index, slice_range}
use Rattle.std.specs.Prelude.{position, Option, Some, None}
use Rattle.std.specs.List.{list_all, list_any}

-- a space or a tab
abbrev pub is_space : ℕ → Bool
is_space byte = (byte == 32) || (byte == 9)

-- the text from its first byte on that is no space and no tab
unfoldable pub trimmed_front : List ℕ → List ℕ
trimmed_front [] = []
trimmed_front (byte ∷ rest) = if is_space byte then trimmed_front rest else byte ∷ rest

-- the text up to its last byte that is no space and no tab
unfoldable pub trimmed_end : List ℕ → List ℕ
trimmed_end [] = []
trimmed_end (byte ∷ rest) = if list_all is_space (byte ∷ rest) then [] else byte ∷ trimmed_end rest

-- the text without the spaces and tabs around it
abbrev pub trimmed : List ℕ → List ℕ
trimmed text = trimmed_end (trimmed_front text)

-- what a line is: passed over, the beginning of a section, the continuation of a value by a piece,
-- a name with the beginning of its value, or none of these
pub data Line : Type 0 where
  passed : Line
  header : List ℕ → Line
  continued : List ℕ → Line
  assigned : List ℕ → List ℕ → Line
  formless : Line

-- blank, or a comment, which begins with `#` or `;`
abbrev pub is_passed : List ℕ → Bool
is_passed text =
    list_all is_space text || ((slice_index text 0 == 35) || (slice_index text 0 == 59))

-- the name in a line that is `[`, a name without `]`, and `]`
abbrev pub header_name : List ℕ → Option (List ℕ)
header_name text =
    if (slice_index text 0 == 91) && (nat_le 2 (length text)
    && ((slice_index text (length text - 1) == 93)
    && not (list_any (λ byte. byte == 93) (slice_range text 1 (length text - 1)))))
    then Some (slice_range text 1 (length text - 1)) else None

-- a name and a value, where `=` stands at this place
abbrev pub divided : List ℕ → Option ℕ → Line
divided text None = formless
divided text (Some at) = assigned (trimmed (take at text)) (trimmed (drop (at + 1) text))

-- a line that is neither passed over nor the beginning of a section: a space or tab in front
-- continues a value, and otherwise the first `=` divides a name from its value
abbrev pub inner_line : List ℕ → Line
inner_line text =
    if is_space (slice_index text 0) then continued (trimmed text)
    else divided text (position (λ byte. byte == 61) text)

-- the form of a line that isn't passed over, by the name of the section that it may begin
abbrev pub named_or_inner : List ℕ → Option (List ℕ) → Line
named_or_inner text (Some name) = header name
named_or_inner text None = inner_line text

-- the form of a line
unfoldable pub line_of : List ℕ → Line
line_of text = if is_passed text then passed else named_or_inner text (header_name text)
