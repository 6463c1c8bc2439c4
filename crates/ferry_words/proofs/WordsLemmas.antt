-- Lemmas on what words mean.
use Rattle.std.proofs.Common.{◌≡◌, ℕ, ◌+◌, List, [], ◌∷◌, ◌++◌, length, Option, Some, None, Result, Ok, Err, IfOk, refl, ap, ◌∙◌, subst, sym}
use Rattle.ferry_words.specs.Words.{IsInRange, Parts, Row, command_of, made, made_of, meaning_by, parts, parts_of, row_of}
use Rattle.ferry_words.specs.Laws.{AreOptions, IsAhead, IsCommand}
use Rattle.ferry_words.specs.declared.command.Command.{Command}
use Rattle.ferry_words.proofs.TableLemmas.{IsFound, listed_found, row_named}
use Rattle.ferry_words.proofs.PartsLemmas.{ahead_read, given_read, parts_read}
use Rattle.ferry_words.proofs.OperandLemmas.{made_make, make_made}

-- ---- command_of, by the row

-- the words behind a row's word mean what their parts make
pub row_meant : (row : Row) (behind : List (List ℕ)) (read : Result Parts ℕ) → row_of row.word ≡ Some row
    → parts_of row.form.options [] behind ≡ read → command_of (row.word ∷ behind) ≡ made_of row.form read
unfolding command_of
row_meant row behind read found e =
    ap (λ (found : Option Row). meaning_by found behind) found ∙ ap (λ (read : Result Parts ℕ). made_of row.form read) e

-- given options are passed over
pub given_meant : (row : Row) (given rest : List (List ℕ)) (read : Result Parts ℕ) → IsFound row → AreOptions row.form.options [] given
    → parts_of row.form.options given rest ≡ read → command_of (row.word ∷ (given ++ rest)) ≡ made_of row.form read
given_meant row given rest read found known e =
    row_meant row (given ++ rest) read found.found (given_read row.form.options [] given rest found.usable known ∙ e)

-- and so is what stands ahead of the operands
pub ahead_meant : (row : Row) (given ahead operands : List (List ℕ)) → IsFound row → AreOptions row.form.options [] given → IsAhead ahead operands
    → command_of (row.word ∷ (given ++ (ahead ++ operands))) ≡ made row.form (parts given (length ahead + 2) operands)
ahead_meant row given ahead operands found known free =
    given_meant row given (ahead ++ operands) (Ok (parts given (length ahead + 2) operands)) found known
    (ahead_read row.form.options given ahead operands free)

-- ---- the command that is meant

made_command : (word : List ℕ) (behind : List (List ℕ)) (command : Command) (row : Row) → row_of word ≡ Some row
    → (read : Result Parts ℕ) → parts_of row.form.options [] behind ≡ read → made_of row.form read ≡ Ok command → IsCommand (word ∷ behind) command
made_command word behind command row found (Err number) r e = cc
made_command word behind command row found (Ok parts) r e =
    let named = row_named word row found in
    let read = parts_read row.form.options behind parts r in
    let makes = made_make row.form parts command e in
    record {
      row = row;
      given = parts.given;
      ahead = read.ahead;
      operands = parts.operands;
      listed = named.listed;
      spelled =
          ap (λ (first : List ℕ). first ∷ behind) (sym named.same)
          ∙ ap (λ (rest : List (List ℕ)). row.word ∷ rest)
          (read.spelled ∙ ap (λ (given : List (List ℕ)). given ++ (read.ahead ++ parts.operands)) (sym read.kept));
      known = subst (AreOptions row.form.options []) (sym read.kept) read.known;
      free = read.free;
      enough = makes.enough;
      fitting = makes.fitting;
      made = makes.made;
    }

meant_command : (word : List ℕ) (behind : List (List ℕ)) (command : Command) (found : Option Row) → row_of word ≡ found
    → meaning_by found behind ≡ Ok command → IsCommand (word ∷ behind) command
meant_command word behind command None f e = cc
meant_command word behind command (Some row) f e = made_command word behind command row f (parts_of row.form.options [] behind) refl e

-- words that mean a command are spelled so
pub meant_spelled : (words : List (List ℕ)) (command : Command) → command_of words ≡ Ok command → IsCommand words command
unfolding command_of
meant_spelled [] command e = cc
meant_spelled (word ∷ behind) command e = meant_command word behind command (row_of word) refl e

-- words that are spelled as a command mean it
pub spelled_meant : (words : List (List ℕ)) (command : Command) → IsCommand words command → command_of words ≡ Ok command
spelled_meant words command h =
    ap command_of h.spelled
    ∙ ahead_meant h.row h.given h.ahead h.operands (listed_found h.row h.listed) h.known h.free
    ∙ make_made h.row.form (parts h.given (length h.ahead + 2) h.operands) command record
    { enough = h.enough; fitting = h.fitting; made = h.made }

-- the numbers of a command that is meant are in range
meant_in_range : (words : List (List ℕ)) (command : Command) → command_of words ≡ Ok command → IsInRange command
meant_in_range words command e =
    let h = meant_spelled words command e in
    subst IsInRange (sym h.made) ((listed_found h.row h.listed).in_range h.given h.operands)

pub read_in_range : {E : Type 0} (words : List (List ℕ)) (result : Result Command E) → IfOk result (λ command. command_of words ≡ Ok command)
    → IfOk result IsInRange
read_in_range words (Ok command) h = meant_in_range words command h
read_in_range words (Err error) h = tt
