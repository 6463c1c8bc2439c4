use Rattle.ferry_words.proofs.WordsLemmas.{meant_spelled, spelled_meant}
use Rattle.ferry_words.proofs.LawsLemmas.{told_wrong, wrong_told}
use Rattle.ferry_words.proofs.laws.words_laws.Goals as goal

pub returns-clause-command : goal.returns-clause-command
returns-clause-command c words command = (meant_spelled words command, spelled_meant words command)

pub returns-clause-wrong : goal.returns-clause-wrong
returns-clause-wrong c words number = (told_wrong words number, wrong_told words number)
