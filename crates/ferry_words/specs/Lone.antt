-- The commands of one word that the code names.
use Rattle.ferry_words.specs.declared.command.Command.{Command}
use Rattle.ferry_words.specs.declared.command.Command.TheVariants as TheCommand
use Rattle.ferry_words.specs.declared.reading.Lone.{Lone}
use Rattle.ferry_words.specs.declared.reading.Lone.TheVariants.{Keys, Key, Check}

-- the command of one word
abbrev pub lone_command : Lone → Command
lone_command Keys = TheCommand.Keys
lone_command Key = TheCommand.Key
lone_command Check = TheCommand.Check
