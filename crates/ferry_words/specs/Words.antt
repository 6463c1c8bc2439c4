-- The words of a command: the table of the commands, and what words mean by it. A word is its bytes in UTF-8.
--
-- Behind the command's word stand its options, and then its operands. An option is its name and, as the next word, its value; options
-- stand in any order, and none twice. `--` ends the options, and behind it each word is an operand, as is each word behind the first
-- operand. A word that begins with `--` in the place of an option's name and is none of the command's is wrong. The commands and
-- their words are this project's own.
use Rattle.std.specs.Prelude.{ℕ, ◌+◌, ◌≤◌, ⊤, nat_eq, nat_lt, nat_le, not, ◌&&◌, ◌||◌, Bool, if◌then◌else◌, List, [], ◌∷◌, ◌++◌, codes, length, get_or}
use Rattle.std.specs.Prelude.{slice_index, find, is_some, true, Option, Some, None, Result, Ok, Err}
use Rattle.std.specs.Str.{all_ascii_digits, bytes_eq}
use Rattle.std.specs.Str.Parse.{digits_value}
use Rattle.std.specs.List.{list_any, starts_with}
use Rattle.std.specs.Option.{option_and_then}
use Rattle.ferry_words.specs.declared.command.Command.{Command}
use Rattle.ferry_words.specs.declared.command.Command.TheVariants.{Keys, Key, List as ListArchives, ListItems, Extract, Check}
use Rattle.ferry_words.specs.declared.command.Command.TheVariants.{Init, MakeKey, Transfer, Plan, Delete, Compact, TagArchives, Drill}

-- ---- values

-- whether a word is a number in decimal digits, without a zero in front but for `0` itself
abbrev pub is_decimal : List ℕ → Bool
is_decimal word = all_ascii_digits word && (nat_eq (length word) 1 || nat_lt 48 (slice_index word 0))

-- the number that a word writes, where it is from least to most
unfoldable pub number_of : ℕ → ℕ → List ℕ → Option ℕ
number_of least most word =
    if is_decimal word && (nat_le least (digits_value 10 word) && nat_le (digits_value 10 word) most) then Some (digits_value 10 word) else None

-- whether a word is a number from least to most
abbrev pub is_number : ℕ → ℕ → List ℕ → Bool
is_number least most word = is_some (number_of least most word)

-- whether a word is some text, and not empty
abbrev pub is_some_text : List ℕ → Bool
is_some_text word = nat_lt 0 (length word)

-- ---- options

-- the form of an option: its name, and whether a word may be its value
pub record OptionForm : Type 0 where
  pub name : List ℕ
  pub takes : List ℕ → Bool

-- an option of this name
abbrev pub option : List ℕ → (List ℕ → Bool) → OptionForm
option name takes = record { name = name; takes = takes }

-- `--iterations N`: how often a passphrase is hashed
abbrev pub iterations : OptionForm
iterations = option (codes "--iterations") (is_number 1 10000000)

-- `--timestamp T`: the time that a manifest gets
abbrev pub timestamp : OptionForm
timestamp = option (codes "--timestamp") is_some_text

-- `--block B`: the size of the pieces that contents are cut into
abbrev pub block : OptionForm
block = option (codes "--block") (is_number 64 8388608)

-- `--checkpoint N`: how many chunks are put before what is done is committed
abbrev pub checkpoint : OptionForm
checkpoint = option (codes "--checkpoint") (is_number 1 1000000)

-- `--threshold P`: how many hundredths of a segment are unused where it is compacted
abbrev pub threshold : OptionForm
threshold = option (codes "--threshold") (is_number 0 100)

-- whether one of the options has this name
abbrev pub is_known : List OptionForm → List ℕ → Bool
is_known options name = list_any (λ (option : OptionForm). bytes_eq name option.name) options

-- whether one of the options has this name and takes this value
abbrev pub is_taken : List OptionForm → List ℕ → List ℕ → Bool
is_taken options name value = list_any (λ (option : OptionForm). bytes_eq name option.name && option.takes value) options

-- the value of the option of this name among options that are given, each a name and its value behind it
unfoldable pub value_of : List (List ℕ) → List ℕ → Option (List ℕ)
value_of [] name = None
value_of (first ∷ []) name = None
value_of (first ∷ value ∷ rest) name = if bytes_eq first name then Some value else value_of rest name

-- the number that is given by an option, or the default
abbrev pub number_or : ℕ → Option ℕ → ℕ
number_or default None = default
number_or default (Some number) = number

-- the number from least to most that the option of a name has among options that are given, or the default
abbrev pub number_given : List (List ℕ) → List ℕ → ℕ → ℕ → ℕ → ℕ
number_given given name least most default = number_or default (option_and_then (number_of least most) (value_of given name))

-- the iterations that are given, or 100000
abbrev pub iterations_of : List (List ℕ) → ℕ
iterations_of given = number_given given iterations.name 1 10000000 100000

-- the block size that is given, or 2097152
abbrev pub block_of : List (List ℕ) → ℕ
block_of given = number_given given block.name 64 8388608 2097152

-- the chunks between two checkpoints that are given, or 1024
abbrev pub checkpoint_of : List (List ℕ) → ℕ
checkpoint_of given = number_given given checkpoint.name 1 1000000 1024

-- the hundredths that are given, or 10
abbrev pub threshold_of : List (List ℕ) → ℕ
threshold_of given = number_given given threshold.name 0 100 10

-- the timestamp that is given
abbrev pub timestamp_of : List (List ℕ) → Option (List ℕ)
timestamp_of given = value_of given timestamp.name

-- ---- commands

-- the form of a command behind its word: its options, how many operands it has at least, whether a word may be the operand at a
-- place, from 0, and the command that options and operands make
pub record Form : Type 0 where
  pub options : List OptionForm
  pub least : ℕ
  pub operand : ℕ → List ℕ → Bool
  pub make : List (List ℕ) → List (List ℕ) → Command

-- a row of the table: a command's word and its form
pub record Row : Type 0 where
  pub word : List ℕ
  pub form : Form

-- up to so many operands, each of them any text
abbrev pub up_to : ℕ → ℕ → List ℕ → Bool
up_to count place word = nat_lt place count

-- any number of operands, each of them any text
abbrev pub any : ℕ → List ℕ → Bool
any place word = true

-- what `list` makes: without an operand it lists the archives, and with one the items of the archive of that name
abbrev pub listed : List (List ℕ) → List (List ℕ) → Command
listed given [] = ListArchives
listed given (name ∷ rest) = ListItems name

-- what `extract` makes: the first operand is the archive's name, the second the item's path
abbrev pub extracted : List (List ℕ) → List (List ℕ) → Command
extracted given operands = Extract (get_or operands 0 []) (get_or operands 1 [])

-- the form of a command
abbrev pub form : List OptionForm → ℕ → (ℕ → List ℕ → Bool) → (List (List ℕ) → List (List ℕ) → Command) → Form
form options least operand make = record { options = options; least = least; operand = operand; make = make }

-- the form of a command of one word
abbrev pub alone : Command → Form
alone command = form [] 0 (up_to 0) (λ given operands. command)

-- the form of `list` and `list NAME`
abbrev pub list_form : Form
list_form = form [] 0 (up_to 1) listed

-- the form of `extract NAME PATH`
abbrev pub extract_form : Form
extract_form = form [] 2 (up_to 2) extracted

-- the form of `init [--iterations N] [--timestamp T]`
abbrev pub init_form : Form
init_form = form (iterations ∷ timestamp ∷ []) 0 (up_to 0) (λ given operands. Init (iterations_of given) (timestamp_of given))

-- the form of `make-key [--iterations N]`
abbrev pub make_key_form : Form
make_key_form = form (iterations ∷ []) 0 (up_to 0) (λ given operands. MakeKey (iterations_of given))

-- what `transfer` makes: the operands are the names of archives, in the order given
abbrev pub transferred : List (List ℕ) → List (List ℕ) → Command
transferred given names = Transfer (block_of given) (checkpoint_of given) (timestamp_of given) names

-- the form of `transfer [--block B] [--checkpoint N] [--timestamp T] [NAME ..]`
abbrev pub transfer_form : Form
transfer_form = form (block ∷ checkpoint ∷ timestamp ∷ []) 0 any transferred

-- what `plan` makes: the operands are the names of archives, in the order given
abbrev pub planned : List (List ℕ) → List (List ℕ) → Command
planned given names = Plan (block_of given) names

-- the form of `plan [--block B] [NAME ..]`
abbrev pub plan_form : Form
plan_form = form (block ∷ []) 0 any planned

-- what `delete` makes: the operand is the archive's name
abbrev pub deleted : List (List ℕ) → List (List ℕ) → Command
deleted given operands = Delete (timestamp_of given) (get_or operands 0 [])

-- the form of `delete [--timestamp T] NAME`
abbrev pub delete_form : Form
delete_form = form (timestamp ∷ []) 1 (up_to 1) deleted

-- the form of `compact [--threshold P]`
abbrev pub compact_form : Form
compact_form = form (threshold ∷ []) 0 (up_to 0) (λ given operands. Compact (threshold_of given))

-- the form of `tag-archives [--timestamp T]`
abbrev pub tag_archives_form : Form
tag_archives_form = form (timestamp ∷ []) 0 (up_to 0) (λ given operands. TagArchives (timestamp_of given))

-- how many archives `drill` makes: the number that its operand writes
abbrev pub count_of : List (List ℕ) → ℕ
count_of operands = number_or 1 (number_of 1 64 (get_or operands 0 []))

-- one operand, a number from 1 to 64
abbrev pub counts : ℕ → List ℕ → Bool
counts place word = nat_lt place 1 && is_number 1 64 word

-- the form of `drill N`
abbrev pub drill_form : Form
drill_form = form [] 1 counts (λ given operands. Drill (count_of operands))

-- the numbers of a command are in the ranges of its options
abbrev pub IsInRange : Command → Type 0
IsInRange (Init number text) = (1 ≤ number) × (number ≤ 10000000)
IsInRange (MakeKey number) = (1 ≤ number) × (number ≤ 10000000)
IsInRange (Transfer size count text names) = (64 ≤ size) × (size ≤ 8388608) × (1 ≤ count) × (count ≤ 1000000)
IsInRange (Plan size names) = (64 ≤ size) × (size ≤ 8388608)
IsInRange (Compact hundredths) = hundredths ≤ 100
IsInRange (Drill count) = (1 ≤ count) × (count ≤ 64)
IsInRange command = ⊤

-- the row of a command
abbrev pub row : List ℕ → Form → Row
row word form = record { word = word; form = form }

-- the table of the commands
abbrev pub rows : List Row
rows =
    row (codes "keys") (alone Keys)
    ∷ row (codes "key") (alone Key)
    ∷ row (codes "list") list_form
    ∷ row (codes "extract") extract_form
    ∷ row (codes "check") (alone Check)
    ∷ row (codes "init") init_form
    ∷ row (codes "make-key") make_key_form
    ∷ row (codes "transfer") transfer_form
    ∷ row (codes "plan") plan_form
    ∷ row (codes "delete") delete_form
    ∷ row (codes "compact") compact_form
    ∷ row (codes "tag-archives") tag_archives_form
    ∷ row (codes "drill") drill_form
    ∷ []

-- the row of this word
unfoldable pub row_of : List ℕ → Option Row
row_of word = find (λ (row : Row). bytes_eq word row.word) rows

-- ---- what words mean

-- the word that ends the options
abbrev pub options_end : List ℕ
options_end = codes "--"

-- whether a word has the form of an option's name
abbrev pub is_option : List ℕ → Bool
is_option word = starts_with nat_eq word (codes "--")

-- whether a word is the name of an option that isn't given yet
abbrev pub is_new : List OptionForm → List (List ℕ) → List ℕ → Bool
is_new options given name = is_known options name && not (is_some (value_of given name))

-- options and operands, and the number, from 1, of the word at which the operands begin, or would begin
pub record Parts : Type 0 where
  pub given : List (List ℕ)
  pub first : ℕ
  pub operands : List (List ℕ)

-- these options, operands that begin so many words behind them, and the operands
abbrev pub parts : List (List ℕ) → ℕ → List (List ℕ) → Parts
parts given behind operands = record { given = given; first = length given + behind; operands = operands }

-- what a word makes in the place of an option's name behind given options, and the words behind it; `named` is what they make where it
-- is the name of an option that isn't given yet
abbrev pub parts_at : List OptionForm → List (List ℕ) → List ℕ → List (List ℕ) → Result Parts ℕ → Result Parts ℕ
parts_at options given word behind named =
    if bytes_eq word options_end then Ok (parts given 3 behind)
    else if not (is_option word) then Ok (parts given 2 (word ∷ behind))
    else if is_new options given word then named else Err (length given + 2)

-- the parts of the words behind a command's word, of which these options are given already; or the number of the word that is wrong in
-- an option's place
unfoldable pub parts_of : List OptionForm → List (List ℕ) → List (List ℕ) → Result Parts ℕ
parts_of options given [] = Ok (parts given 2 [])
parts_of options given (word ∷ []) = parts_at options given word [] (Err (length given + 3))
parts_of options given (word ∷ value ∷ rest) =
    parts_at options given word (value ∷ rest)
    (if is_taken options word value then parts_of options (given ++ (word ∷ value ∷ [])) rest else Err (length given + 3))

-- the place, from this one on, of the first word that may be no operand there
unfoldable pub first_unfit : (ℕ → List ℕ → Bool) → ℕ → List (List ℕ) → Option ℕ
first_unfit operand place [] = None
first_unfit operand place (word ∷ rest) = if operand place word then first_unfit operand (place + 1) rest else Some place

-- what options and operands make, by the place of the first operand that may be none: it is wrong, and where there are too few the one
-- behind the last is missing
abbrev pub made_by : Form → Parts → Option ℕ → Result Command ℕ
made_by form parts (Some place) = Err (parts.first + place)
made_by form parts None =
    if nat_lt (length parts.operands) form.least then Err (parts.first + length parts.operands) else Ok (form.make parts.given parts.operands)

-- what options and operands make of a form
unfoldable pub made : Form → Parts → Result Command ℕ
made form parts = made_by form parts (first_unfit form.operand 0 parts.operands)

-- what the parts make of a form, or the number of the word that is wrong in an option's place
abbrev pub made_of : Form → Result Parts ℕ → Result Command ℕ
made_of form (Ok parts) = made form parts
made_of form (Err number) = Err number

-- what the words behind a command's word make of its form
abbrev pub meaning_of : Form → List (List ℕ) → Result Command ℕ
meaning_of form behind = made_of form (parts_of form.options [] behind)

-- what the words behind the command's word make by its row, where it has one
abbrev pub meaning_by : Option Row → List (List ℕ) → Result Command ℕ
meaning_by None behind = Err 1
meaning_by (Some row) behind = meaning_of row.form behind

-- what words mean: a command, or the number, from 1, of the first word at which they can't go on to one, one more than there are
-- where words are missing
unfoldable pub command_of : List (List ℕ) → Result Command ℕ
command_of [] = Err 1
command_of (word ∷ behind) = meaning_by (row_of word) behind
