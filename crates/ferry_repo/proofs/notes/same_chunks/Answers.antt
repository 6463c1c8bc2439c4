use Rattle.std.proofs.lemmas.Slice.Eq.{slice_eq-Decides}
use Rattle.ferry_repo.proofs.NotedLemmas.{same_chunk}
use Rattle.ferry_repo.proofs.notes.same_chunks.Goals as goal

pub returns : goal.returns
returns c = λ same. (slice_eq-Decides same_chunk c.args.chunks.now c.args.others.now c.eq.result c.eq.ensures).0 same
