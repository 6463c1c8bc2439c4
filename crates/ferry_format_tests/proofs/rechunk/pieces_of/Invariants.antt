use Rattle.std.proofs.Common.{◌≡◌, ◌<◌, length, take}
use Rattle.std.specs.List.{concat}
use Rattle.ferry_rechunk.specs.Cutting.{IsFed}
use Rattle.ferry_format_tests.proofs.rechunk.pieces_of.Given as goal

abbrev pub invariant-loop-part : goal.invariant-loop-part
invariant-loop-part l = (length l.cutter.piece < l.cutter.block) × (l.cutter.block ≡ l.fn.block)
    × IsFed l.fn.block (concat (take l.part-index l.parts)) l.pieces.items l.cutter.piece
