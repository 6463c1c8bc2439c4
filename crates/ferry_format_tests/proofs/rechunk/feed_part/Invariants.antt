use Rattle.std.proofs.Common.{◌≡◌, ◌<◌, length}
use Rattle.ferry_rechunk.proofs.FeedLemmas.{FedSoFar}
use Rattle.ferry_format_tests.proofs.rechunk.feed_part.Given as goal

abbrev pub invariant-loop-piece : goal.invariant-loop-piece
invariant-loop-piece l = (length l.cutter.piece < l.cutter.block) × (l.cutter.block ≡ l.fn.cutter.block)
    × FedSoFar l.fn.cutter.block l.part l.rest l.fn.pieces.items l.fn.cutter.piece l.pieces.items l.cutter.piece

abbrev pub decreases-loop-piece : goal.decreases-loop-piece
decreases-loop-piece l = length l.rest
