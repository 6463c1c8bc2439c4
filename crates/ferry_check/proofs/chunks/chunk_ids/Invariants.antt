use Rattle.ferry_check.proofs.ChunkLemmas.{Lists}
use Rattle.ferry_check.proofs.chunks.chunk_ids.Given as goal

-- the live chunks that aren't above the last one
abbrev pub invariant-loop : goal.invariant-loop
invariant-loop l = record { lists : Lists l.log l.last l.ids.items }
