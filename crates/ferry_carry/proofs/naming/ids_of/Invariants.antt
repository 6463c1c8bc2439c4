use Rattle.std.proofs.Common.{◌≡◌, map, take}
use Rattle.ferry_carry.proofs.naming.ids_of.Given as goal
use Rattle.ferry_item.specs.declared.item.ChunkRef.{ChunkRef}

abbrev pub invariant-loop-place : goal.invariant-loop-place
invariant-loop-place l = l.ids.items ≡ map (λ (chunk : ChunkRef). chunk.id) (take l.place l.chunks)
