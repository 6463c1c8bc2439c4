use Rattle.std.proofs.Common.{◌≡◌, ◌+◌, ◌*◌, ◌++◌}
use Rattle.std.specs.Prelude.{take}
use Rattle.std.specs.List.{flat_map, range_with_len}
use Rattle.ferry_aes.specs.Planes.{block_at}
use Rattle.ferry_aes.proofs.joining.put_blocks.Given as goal

abbrev pub invariant-loop-i : goal.invariant-loop-i
invariant-loop-i l =
    take (l.at + 16 * l.i) l.into ≡ take l.at l.initial.into ++ flat_map (λ i. block_at l.rows i) (range_with_len 0 l.i)
