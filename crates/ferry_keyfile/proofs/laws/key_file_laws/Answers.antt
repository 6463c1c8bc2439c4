use Rattle.ferry_keyfile.proofs.KeyFileLemmas.{body_law, file_law, header_law}
use Rattle.ferry_keyfile.proofs.laws.key_file_laws.Goals as goal

pub returns-clause-file : goal.returns-clause-file
returns-clause-file c = file_law

pub returns-clause-body : goal.returns-clause-body
returns-clause-body c = body_law

pub returns-clause-header : goal.returns-clause-header
returns-clause-header c = header_law
