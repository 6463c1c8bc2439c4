use Rattle.ferry_repo.proofs.LawLemmas.{some_chunk, one_chunk, chunk_apart, one_chunk_fault, live_there, has_live}
use Rattle.ferry_repo.proofs.laws.chunk_laws.Goals as goal

pub returns : goal.returns
returns c = record { some = some_chunk; one = one_chunk; apart = chunk_apart; one_fault = one_chunk_fault; live = live_there; there = has_live }
