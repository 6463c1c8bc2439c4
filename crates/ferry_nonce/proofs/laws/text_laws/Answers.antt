use Rattle.ferry_nonce.proofs.TextLemmas.{text_spells, one_number}
use Rattle.ferry_nonce.proofs.laws.text_laws.Goals as goal

pub returns : goal.returns
returns c = record { spelled = text_spells; one = one_number }
