use Rattle.ferry_repo.proofs.LawLemmas.{some_repo, one_repo, repo_apart, one_repo_fault, opens_fits}
use Rattle.ferry_repo.proofs.laws.repo_laws.Goals as goal

pub returns : goal.returns
returns c = record { some = some_repo; one = one_repo; apart = repo_apart; one_fault = one_repo_fault; fits = opens_fits }
