-- The words of `restore`, which a call of its own reads: the command's word and, behind it, the name of an archive. A word is its bytes in UTF-8.
--
-- They are read as those of a command without options that has to have one operand: `--` ends the options, and a word that begins with `--` in an option's
-- place is wrong.
use Rattle.std.specs.Prelude.{◌≡◌, ◌⊎◌, ℕ, ◌+◌, ◌-◌, ◌≤◌, if◌then◌else◌, List, [], ◌∷◌, ◌++◌, codes, length, take, Result, Ok, Err, IsUtf8}
use Rattle.std.specs.List.{AllByRecursion}
use Rattle.std.specs.Str.{bytes_eq}
use Rattle.ferry_words.specs.Laws.{IsAhead}
use Rattle.ferry_words.specs.Words.{Parts, parts_of}

-- the command's word
abbrev pub restore_word : List ℕ
restore_word = codes "restore"

-- the only one of these operands, of which the first has this number; or the number of the word that is missing or too many
abbrev pub only_operand : ℕ → List (List ℕ) → Result (List ℕ) ℕ
only_operand first [] = Err first
only_operand first (name ∷ []) = Ok name
only_operand first (name ∷ next ∷ rest) = Err (first + 1)

-- the name among the parts of the words behind the command's word, or the number of the first wrong word
abbrev pub name_in : Result Parts ℕ → Result (List ℕ) ℕ
name_in (Ok parts) = only_operand parts.first parts.operands
name_in (Err number) = Err number

-- what words mean: the name of the archive to be restored, or the number, from 1, of the first word at which they can't go on to one, one more than there are
-- where words are missing
unfoldable pub restored_of : List (List ℕ) → Result (List ℕ) ℕ
restored_of [] = Err 1
restored_of (word ∷ behind) = if bytes_eq word restore_word then name_in (parts_of [] [] behind) else Err 1

-- ---- apart from the order in which the words are read

-- The words are the command's word, what may stand ahead of operands, and the name.
pub record IsRestoring (words : List (List ℕ)) (name : List ℕ) : Type 0 where
  pub ahead : List (List ℕ)
  pub free : IsAhead ahead (name ∷ [])
  pub spelled : words ≡ restore_word ∷ (ahead ++ (name ∷ []))

-- With some texts behind them the words are those of a restoring.
abbrev pub CanGoOn : List (List ℕ) → Type 0
CanGoOn front = (more : List (List ℕ)) × (name : List ℕ) × AllByRecursion IsUtf8 more × IsRestoring (front ++ more) name

-- Whatever stands behind them, they are none.
abbrev pub CannotGoOn : List (List ℕ) → Type 0
CannotGoOn front = (more : List (List ℕ)) (name : List ℕ) → IsRestoring (front ++ more) name → ⊥

-- The word of this number, from 1, is the first with which the words can't go on.
pub record IsWrong (words : List (List ℕ)) (number : ℕ) : Type 0 where
  pub numbered : 1 ≤ number
  pub there : number ≤ length words
  pub before : CanGoOn (take (number - 1) words)
  pub stops : CannotGoOn (take number words)

-- The word of this number, behind the last, is missing: the words can go on, and are none.
pub record IsMissing (words : List (List ℕ)) (number : ℕ) : Type 0 where
  pub numbered : number ≡ length words + 1
  pub before : CanGoOn words
  pub unfinished : (name : List ℕ) → IsRestoring words name → ⊥

-- the number that is told of words that are none
abbrev pub IsFirstWrong : List (List ℕ) → ℕ → Type 0
IsFirstWrong words number = IsWrong words number ⊎ IsMissing words number
