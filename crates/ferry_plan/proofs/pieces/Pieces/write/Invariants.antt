use Rattle.std.proofs.Common.{◌≡◌, ◌<◌, List, length}
use Rattle.ferry_piece.proofs.PieceLemmas.{WritesSoFar}
use Rattle.ferry_piece.specs.Puts.{Addition, Kind, contents_in}
use Rattle.ferry_plan.proofs.pieces.Pieces.write.Given as goal
use Rattle.ferry_plan.specs.Tally.{Takes}
use Rattle.ferry_repo.specs.Opening.{repo_view}

-- the pieces that became whole of a front of the bytes were taken
abbrev pub invariant-loop-rest : goal.invariant-loop-rest
invariant-loop-rest l = record {
  room : length l.self.cutter.piece < l.self.cutter.block;
  block : l.self.cutter.block ≡ l.fn.self.cutter.block;
  written : (kind : Kind) → (more : List Addition)
      × (Takes kind (repo_view l.fn.target).keys (repo_view l.fn.target).log l.fn.known l.fn.self more l.known l.self
      × WritesSoFar (repo_view l.fn.target).keys l.fn.self.cutter l.fn.self.chunks.items l.bytes l.rest (contents_in more) l.self.cutter l.self.chunks.items);
}

abbrev pub decreases-loop-rest : goal.decreases-loop-rest
decreases-loop-rest l = length l.rest
