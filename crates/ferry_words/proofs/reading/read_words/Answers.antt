use Rattle.std.proofs.Common.{map, string_bytes}
use Rattle.ferry_words.proofs.WordsLemmas.{read_in_range}
use Rattle.ferry_words.proofs.reading.read_words.Goals as goal

pub returns-clause-in_range : goal.returns-clause-in_range
returns-clause-in_range c = read_in_range (map string_bytes c.args.words.now) c.read_row.result c.read_row.ensures.command
