-- The section `repository` of a `config`, and the values of its names.
use Rattle.std.specs.Prelude.{ℕ, nat_lt, ◌&&◌, not, Bool, true, false, List, [], ◌∷◌, ◌++◌, length, codes, map, filter, Option, Some, None}
use Rattle.std.specs.List.{list_any, flat_map, before_first}
use Rattle.std.specs.Str.{bytes_eq}
use Rattle.ferry_config.specs.Line.{Line, passed, header, continued, assigned, formless}

-- whether a line begins a section
abbrev pub is_header : Line → Bool
is_header (header name) = true
is_header passed = false
is_header (continued piece) = false
is_header (assigned name value) = false
is_header formless = false

-- whether a line continues a value
abbrev pub is_continued : Line → Bool
is_continued (continued piece) = true
is_continued passed = false
is_continued (header name) = false
is_continued (assigned name value) = false
is_continued formless = false

-- whether a line begins a value
abbrev pub is_assigned : Line → Bool
is_assigned (assigned name value) = true
is_assigned passed = false
is_assigned (header name) = false
is_assigned (continued piece) = false
is_assigned formless = false

-- whether a line has none of the forms
abbrev pub is_formless : Line → Bool
is_formless formless = true
is_formless passed = false
is_formless (header name) = false
is_formless (continued piece) = false
is_formless (assigned name value) = false

-- the piece of a line that continues a value
abbrev pub piece_of : Line → List ℕ
piece_of (continued piece) = piece
piece_of passed = []
piece_of (header name) = []
piece_of (assigned name value) = []
piece_of formless = []

-- a section: its name and its lines
pub record Section : Type 0 where
  pub name : List ℕ
  pub lines : List Line

-- the sections in order, each with the lines up to the next one's first. Lines before the first
-- section belong to none
unfoldable pub sections : List Line → List Section
sections [] = []
sections (header name ∷ rest) =
    record { name = name; lines = before_first is_header rest } ∷ sections rest
sections (passed ∷ rest) = sections rest
sections (continued piece ∷ rest) = sections rest
sections (assigned name value ∷ rest) = sections rest
sections (formless ∷ rest) = sections rest

-- whether a section is `repository`
abbrev pub is_repository : Section → Bool
is_repository section = bytes_eq section.name (codes "repository")

-- the lines of each section `repository`, in order
unfoldable pub repository_sections : List Line → List (List Line)
repository_sections all =
    map (λ (section : Section). section.lines) (filter is_repository (sections all))

-- the one element of a list that has one
abbrev pub only_one : List (List Line) → Option (List Line)
only_one [] = None
only_one (lines ∷ []) = Some lines
only_one (lines ∷ other ∷ more) = None

-- the lines of the section `repository`, where there is one and no other
abbrev pub repository_lines : List Line → Option (List Line)
repository_lines all = only_one (repository_sections all)

-- each line has one of the forms, and none continues a value where none stands before it
unfoldable pub has_forms : List Line → Bool
has_forms all =
    not (list_any is_formless all) && not (list_any is_continued (before_first is_assigned all))

-- a name and its whole value
pub record Assignment : Type 0 where
  pub name : List ℕ
  pub value : List ℕ

-- the pieces that continue a value: those before the next value, in a row
unfoldable pub continuation : List Line → List ℕ
continuation rest = flat_map piece_of (before_first is_assigned rest)

-- the names of a section in order, each with its value and the pieces that continue it
unfoldable pub assignments : List Line → List Assignment
assignments [] = []
assignments (assigned name value ∷ rest) =
    record { name = name; value = value ++ continuation rest } ∷ assignments rest
assignments (passed ∷ rest) = assignments rest
assignments (header name ∷ rest) = assignments rest
assignments (continued piece ∷ rest) = assignments rest
assignments (formless ∷ rest) = assignments rest

-- whether an assignment is to this name
abbrev pub is_to : List ℕ → Assignment → Bool
is_to name assignment = bytes_eq assignment.name name

-- the values that are assigned to this name, in order
unfoldable pub values_to : List ℕ → List Assignment → List (List ℕ)
values_to name all = map (λ (assignment : Assignment). assignment.value) (filter (is_to name) all)

-- the first of these values
abbrev pub first_of : List (List ℕ) → Option (List ℕ)
first_of [] = None
first_of (value ∷ more) = Some value

-- the value of a name, where it is there
abbrev pub value_of : List ℕ → List Assignment → Option (List ℕ)
value_of name all = first_of (values_to name all)

-- whether this name stands twice or more
abbrev pub stands_twice : List ℕ → List Assignment → Bool
stands_twice name all = nat_lt 1 (length (values_to name all))
