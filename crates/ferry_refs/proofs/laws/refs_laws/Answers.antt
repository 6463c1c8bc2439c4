use Rattle.ferry_refs.proofs.LawLemmas.{some_refs, one_number, refs_apart, one_refs_fault}
use Rattle.ferry_refs.proofs.laws.refs_laws.Goals as goal

pub returns : goal.returns
returns c = record { some = some_refs; one = one_number; apart = refs_apart; fault = one_refs_fault }
