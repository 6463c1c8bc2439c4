use Rattle.ferry_refs.proofs.DeletedLemmas.{deleted_keeps, either_keeps, one_going}
use Rattle.ferry_refs.proofs.laws.delete_laws.Goals as goal

pub returns : goal.returns
returns c = record { kept = either_keeps; gone = deleted_keeps; ids = one_going }
