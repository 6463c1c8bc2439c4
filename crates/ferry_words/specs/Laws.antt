-- What words mean apart from the order in which they are read: the spelling of a command, and the first wrong word.
use Rattle.std.specs.Prelude.{◌≡◌, ℕ, ◌+◌, ◌-◌, ◌≤◌, Bool, true, false, List, [], ◌∷◌, ◌++◌, length, take, Contains, ◌⊎◌, ⊤, IsUtf8}
use Rattle.std.specs.List.{AllByRecursion}
use Rattle.ferry_words.specs.Words.{OptionForm, Row, rows, options_end, is_new, is_option, is_taken}
use Rattle.ferry_words.specs.declared.command.Command.{Command}

-- the words are options behind those before: each a name that isn't given before it, and a value that an option of this name takes
unfoldable pub AreOptions : List OptionForm → List (List ℕ) → List (List ℕ) → Type 0
AreOptions options before [] = ⊤
AreOptions options before (name ∷ []) = ⊥
AreOptions options before (name ∷ value ∷ rest) =
    (is_new options before name ≡ true) × (is_taken options name value ≡ true) × AreOptions options (before ++ (name ∷ value ∷ [])) rest

-- each word may be the operand at its place, the first being at this one
abbrev pub AreOperands : (ℕ → List ℕ → Bool) → ℕ → List (List ℕ) → Type 0
AreOperands operand place [] = ⊤
AreOperands operand place (word ∷ rest) = (operand place word ≡ true) × AreOperands operand (place + 1) rest

-- the first operand, where there is one, has no form of an option
abbrev pub IsPlainAhead : List (List ℕ) → Type 0
IsPlainAhead [] = ⊤
IsPlainAhead (operand ∷ rest) = is_option operand ≡ false

-- what stands between the options and the operands: `--`, or nothing where the first operand has no form of an option
abbrev pub IsAhead : List (List ℕ) → List (List ℕ) → Type 0
IsAhead ahead operands = (ahead ≡ options_end ∷ []) ⊎ ((ahead ≡ []) × IsPlainAhead operands)

-- the words are this command: a row's word, some of its options, what may stand ahead of operands, and operands that the row takes and
-- that aren't too few; the options and the operands make it
pub record IsCommand (words : List (List ℕ)) (command : Command) : Type 0 where
  pub row : Row
  pub given : List (List ℕ)
  pub ahead : List (List ℕ)
  pub operands : List (List ℕ)
  pub listed : Contains rows row
  pub spelled : words ≡ row.word ∷ (given ++ (ahead ++ operands))
  pub known : AreOptions row.form.options [] given
  pub free : IsAhead ahead operands
  pub enough : row.form.least ≤ length operands
  pub fitting : AreOperands row.form.operand 0 operands
  pub made : command ≡ row.form.make given operands

-- the words can go on to a command: with some texts behind them they are one
abbrev pub CanGoOn : List (List ℕ) → Type 0
CanGoOn front = (more : List (List ℕ)) × (command : Command) × AllByRecursion IsUtf8 more × IsCommand (front ++ more) command

-- the words can't go on to a command: whatever stands behind them, they are none
abbrev pub CannotGoOn : List (List ℕ) → Type 0
CannotGoOn front = (more : List (List ℕ)) (command : Command) → IsCommand (front ++ more) command → ⊥

-- the word of this number, from 1, is the first with which the words can't go on to a command
pub record IsWrong (words : List (List ℕ)) (number : ℕ) : Type 0 where
  pub numbered : 1 ≤ number
  pub there : number ≤ length words
  pub before : CanGoOn (take (number - 1) words)
  pub stops : CannotGoOn (take number words)

-- the word of this number, behind the last, is missing: the words can go on to a command, and are none
pub record IsMissing (words : List (List ℕ)) (number : ℕ) : Type 0 where
  pub numbered : number ≡ length words + 1
  pub before : CanGoOn words
  pub unfinished : (command : Command) → IsCommand words command → ⊥

-- the number that is told of words that are no command
abbrev pub IsFirstWrong : List (List ℕ) → ℕ → Type 0
IsFirstWrong words number = IsWrong words number ⊎ IsMissing words number
