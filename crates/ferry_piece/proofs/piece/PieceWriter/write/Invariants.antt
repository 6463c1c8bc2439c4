use Rattle.std.proofs.Common.{◌≡◌, ◌≤◌, ◌<◌, false, true, List, Ok, IfSome, length}
use Rattle.ferry_piece.proofs.PieceLemmas.{WritesSoFar}
use Rattle.ferry_piece.proofs.piece.PieceWriter.write.Given as goal
use Rattle.ferry_piece.specs.Adding.{AddsOn}
use Rattle.ferry_piece.specs.Gather.{KeepsRest}
use Rattle.ferry_piece.specs.Piece.{CountsOn}
use Rattle.ferry_piece.specs.Puts.{Addition, AreOf, Kind, contents_in, is_piece}
use Rattle.ferry_repo.specs.Opening.{repo_view}
use Rattle.ferry_store.specs.Store.{IsUnspent, StoreFits}

abbrev pub invariant-loop-rest : goal.invariant-loop-rest
invariant-loop-rest g l = (length l.self.cutter.piece < l.self.cutter.block) × (l.self.cutter.block ≡ l.fn.self.cutter.block) × IsUnspent l.store
    × IfSome (g.D.Shelf.told l.depot) (λ t. StoreFits false l.store t.history) × KeepsRest l.fn.store l.store
    × (l.self.checkpoint ≡ l.fn.self.checkpoint) × (l.store.pending ≤ l.fn.self.checkpoint)
    × ((kind : Kind) → is_piece kind ≡ true → (more : List Addition) × (AddsOn {T = Unit {0}} l.fn.self.checkpoint l.fn.store more l.store
    (g.D.Shelf.told l.fn.depot) (g.D.Shelf.told l.depot) (g.D.Shelf.faults l.fn.depot) (g.D.Shelf.faults l.depot) (Ok tt)
    × (AreOf kind more × (WritesSoFar (repo_view l.fn.store.repo).keys l.fn.self.cutter l.fn.self.chunks.items l.bytes l.rest (contents_in more)
    l.self.cutter l.self.chunks.items × CountsOn kind l.fn.self more l.self))))

abbrev pub decreases-loop-rest : goal.decreases-loop-rest
decreases-loop-rest g l = length l.rest
