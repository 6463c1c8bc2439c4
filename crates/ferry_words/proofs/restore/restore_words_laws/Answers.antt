use Rattle.ferry_words.proofs.RestoreLemmas.{name_spelled, spelled_name, told_wrong, wrong_told}
use Rattle.ferry_words.proofs.restore.restore_words_laws.Goals as goal

pub returns-clause-name : goal.returns-clause-name
returns-clause-name c words name = (name_spelled words name, spelled_name words name)

pub returns-clause-wrong : goal.returns-clause-wrong
returns-clause-wrong c words number = (told_wrong words number, wrong_told words number)
