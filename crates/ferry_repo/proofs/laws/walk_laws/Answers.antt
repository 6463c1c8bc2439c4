use Rattle.ferry_repo.proofs.ComesLemmas.{whole_comes, fits_stream}
use Rattle.ferry_repo.proofs.WalkLawLemmas.{some_comes, one_comes, some_to_come}
use Rattle.ferry_repo.proofs.laws.walk_laws.Goals as goal

pub returns : goal.returns
returns c = record { some = some_comes; one = one_comes; whole = whole_comes; fits = fits_stream; to_come = some_to_come }
