use Rattle.ferry_view.proofs.LawLemmas.{some_file, file_apart, one_file_text, file_whole_text}
use Rattle.ferry_view.proofs.laws.file_laws.Goals as goal

pub returns : goal.returns
returns c = record { some = some_file; apart = file_apart; one = one_file_text; whole = file_whole_text }
