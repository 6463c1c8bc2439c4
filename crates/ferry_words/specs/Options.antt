-- The groups of options that the code names.
use Rattle.std.specs.Prelude.{List, [], ◌∷◌}
use Rattle.ferry_words.specs.Words.{OptionForm, block, checkpoint, iterations, threshold, timestamp}
use Rattle.ferry_words.specs.declared.options.Options.{Options}
use Rattle.ferry_words.specs.declared.options.Options.TheVariants.{None, Init, MakeKey, Transfer, Plan, Delete, Compact, TagArchives}

-- the options of a group
abbrev pub options_of : Options → List OptionForm
options_of None = []
options_of Init = iterations ∷ timestamp ∷ []
options_of MakeKey = iterations ∷ []
options_of Transfer = block ∷ checkpoint ∷ timestamp ∷ []
options_of Plan = block ∷ []
options_of Delete = timestamp ∷ []
options_of Compact = threshold ∷ []
options_of TagArchives = timestamp ∷ []
