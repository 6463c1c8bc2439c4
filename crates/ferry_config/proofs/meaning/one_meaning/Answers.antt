use Rattle.ferry_config.proofs.MeaningLemmas.{err_is_first, first_is_err, never_memory, read_says, says_read}
use Rattle.ferry_config.proofs.ValueLemmas.{decimal-number_of, number_of-decimal}
use Rattle.ferry_config.proofs.meaning.one_meaning.Goals as goal

pub returns-clause-config : goal.returns-clause-config
returns-clause-config c text config = (read_says text config, says_read text config)

pub returns-clause-fault : goal.returns-clause-fault
returns-clause-fault c text fault = (err_is_first text fault, first_is_err text fault)

pub returns-clause-memory : goal.returns-clause-memory
returns-clause-memory c = never_memory

pub returns-clause-number : goal.returns-clause-number
returns-clause-number c text number = (decimal-number_of text number, λ h. rw h.0 (number_of-decimal number h.1 h.2))
