use Rattle.std.proofs.Common.{◌≡◌, ◌≤◌, ◌<◌, false, List, Ok, IfSome, length, take}
use Rattle.ferry_carry.proofs.copy.Copy.write_contents.Given as goal
use Rattle.ferry_piece.specs.Adding.{AddsOn}
use Rattle.ferry_carry.specs.Copying.{WritesContents, writer_state}
use Rattle.ferry_piece.specs.Gather.{KeepsRest}
use Rattle.ferry_piece.specs.Piece.{CountsOn}
use Rattle.ferry_piece.specs.Puts.{Addition, AreOf, Content, contents_in}
use Rattle.ferry_disk.specs.Device.{heard, told_files}
use Rattle.ferry_repo.specs.Opening.{FitsRepo, cached_in, repo_view}
use Rattle.ferry_store.specs.Store.{IsUnspent, StoreFits}

-- the contents of the chunks so far were written
abbrev pub invariant-loop-place : goal.invariant-loop-place
invariant-loop-place g l = record {
  room : length l.self.contents.cutter.piece < l.self.contents.cutter.block;
  block : l.self.contents.cutter.block ≡ l.fn.self.contents.cutter.block;
  checkpoint : l.self.contents.checkpoint ≡ l.fn.self.contents.checkpoint;
  others : l.self ≡ record l.fn.self { contents = l.self.contents };
  pending : l.store.pending ≤ l.fn.self.contents.checkpoint;
  unspent : IsUnspent l.store;
  fits : IfSome (g.D.Shelf.told l.depot) (λ t. StoreFits false l.store t.history);
  rest : KeepsRest l.fn.store l.store;
  source_fits : IfSome (g.S.Shelf.told l.shelf) (λ t. FitsRepo (told_files t) (repo_view l.source) (cached_in l.source));
  repo : repo_view l.source ≡ repo_view l.fn.source;
  alike : heard (g.S.Shelf.told l.shelf) ≡ heard (g.S.Shelf.told l.fn.shelf);
  faults : g.S.Shelf.faults l.shelf ≡ g.S.Shelf.faults l.fn.shelf;
  written : (more : List Addition) × (AddsOn {T = Unit {0}} l.fn.self.contents.checkpoint l.fn.store more l.store
      (g.D.Shelf.told l.fn.depot) (g.D.Shelf.told l.depot) (g.D.Shelf.faults l.fn.depot) (g.D.Shelf.faults l.depot) (Ok tt)
      × (AreOf Content more × (WritesContents (g.S.Shelf.told l.fn.shelf) (repo_view l.fn.source) (repo_view l.fn.store.repo).keys (take l.place l.chunks)
      (writer_state l.fn.self.contents.cutter l.fn.self.contents.chunks.items) (contents_in more)
      (writer_state l.self.contents.cutter l.self.contents.chunks.items)
      × CountsOn Content l.fn.self.contents more l.self.contents)));
}
