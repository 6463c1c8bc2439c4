use Rattle.std.proofs.Common.{◌≡◌, ◌≤◌, ◌<◌, false, Ok, IfSome, length, take}
use Rattle.ferry_carry.proofs.copy.Copy.write_parts.Given as goal
use Rattle.ferry_carry.specs.Parts.{WritesChunks}
use Rattle.ferry_carry.specs.States.{target_state}
use Rattle.ferry_disk.specs.Device.{heard, told_files}
use Rattle.ferry_piece.specs.Gather.{KeepsRest}
use Rattle.ferry_repo.specs.Opening.{FitsRepo, cached_in, repo_view}
use Rattle.ferry_store.specs.Store.{IsUnspent, StoreFits}

-- the contents of the chunks so far were written
abbrev pub invariant-loop-number : goal.invariant-loop-number
invariant-loop-number g l = record {
  within : l.done ≤ length l.chunks;
  room : length l.self.contents.cutter.piece < l.self.contents.cutter.block;
  block : l.self.contents.cutter.block ≡ l.fn.self.contents.cutter.block;
  checkpoint : l.self.contents.checkpoint ≡ l.fn.self.contents.checkpoint;
  others : l.self ≡ record l.fn.self { contents = l.self.contents };
  pending : l.store.pending ≤ l.fn.self.contents.checkpoint;
  unspent : IsUnspent l.store;
  fits : IfSome (g.D.Shelf.told l.depot) (λ t. StoreFits false l.store t.history);
  rest : KeepsRest l.fn.store l.store;
  source_fits : IfSome (g.S.Shelf.told l.shelf) (λ t. FitsRepo (told_files t) (repo_view l.source) (cached_in l.source));
  repo : repo_view l.source ≡ repo_view l.fn.source;
  alike : heard (g.S.Shelf.told l.shelf) ≡ heard (g.S.Shelf.told l.fn.shelf);
  faults : g.S.Shelf.faults l.shelf ≡ g.S.Shelf.faults l.fn.shelf;
  written : WritesChunks {T = Unit {0}} l.fn.self.contents.checkpoint (g.S.Shelf.told l.fn.shelf) (repo_view l.fn.source)
      (target_state (g.D.Shelf.told l.fn.depot) (g.D.Shelf.faults l.fn.depot) l.fn.store)
      (target_state (g.D.Shelf.told l.depot) (g.D.Shelf.faults l.depot) l.store) (take l.done l.chunks) l.fn.self.contents l.self.contents (Ok tt);
}
