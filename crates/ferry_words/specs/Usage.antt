-- The numbers of the ways in which words are read as no command.
use Rattle.std.specs.Prelude.{ℕ, Result, Ok, Err, ◌≡◌, ⊤}
use Rattle.ferry_words.specs.declared.command.Command.{Command}
use Rattle.ferry_words.specs.declared.usage.Usage.{Usage}
use Rattle.ferry_words.specs.declared.usage.Usage.TheVariants.{Word, Memory}

-- the number of the variant in printed lines
abbrev pub number_of_usage : Usage → ℕ
number_of_usage (Word n) = 1
number_of_usage Memory = 2

-- the answer is this command, this wrong word, or that memory ran out
abbrev pub IsAnswer : Result Command Usage → Result Command ℕ → Type 0
IsAnswer (Ok command) meaning = meaning ≡ Ok command
IsAnswer (Err (Word n)) meaning = meaning ≡ Err n
IsAnswer (Err Memory) meaning = ⊤
