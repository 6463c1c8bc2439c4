use Rattle.ferry_text.proofs.LawLemmas.{escaped_same, escaped_printed, escaped-plain, id_same, number_same}
use Rattle.ferry_text.proofs.laws.text_laws.Goals as goal

pub returns-clause-apart : goal.returns-clause-apart
returns-clause-apart c = escaped_same

pub returns-clause-line : goal.returns-clause-line
returns-clause-line c = escaped_printed

pub returns-clause-plain : goal.returns-clause-plain
returns-clause-plain c = escaped-plain

pub returns-clause-ids : goal.returns-clause-ids
returns-clause-ids c = id_same

pub returns-clause-numbers : goal.returns-clause-numbers
returns-clause-numbers c = number_same
