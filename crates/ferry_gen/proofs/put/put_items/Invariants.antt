use Rattle.std.proofs.Common.{◌≡◌, ◌≤◌, false, IfSome}
use Rattle.std.specs.List.{AllByRecursion}
use Rattle.ferry_carry.specs.Copied.{IsRead, contents_of, copied_item, copied_stream}
use Rattle.ferry_gen.proofs.put.put_items.Given as goal
use Rattle.ferry_gen.specs.Archives.{items_front}
use Rattle.ferry_gen.specs.Source.{source_block}
use Rattle.ferry_gen.specs.Steps.{Puts, most_pending}
use Rattle.ferry_piece.specs.Gather.{KeepsRest}
use Rattle.ferry_repo.specs.Opening.{repo_view}
use Rattle.ferry_store.specs.Store.{IsUnspent, StoreFits}

-- the files so far were added, and their items written
abbrev pub invariant-loop-file : goal.invariant-loop-file
invariant-loop-file g l = record {
  puts : Puts (contents_of source_block (items_front l.archive l.file)) l.fn.store l.store (g.D.Shelf.told l.fn.depot) (g.D.Shelf.told l.depot);
  spelled : l.stream.items ≡ copied_stream (repo_view l.fn.store.repo).keys source_block (items_front l.archive l.file);
  read : AllByRecursion (λ whole. IsRead (copied_item (repo_view l.fn.store.repo).keys source_block whole)) (items_front l.archive l.file);
  pending : l.store.pending ≤ most_pending;
  rest : KeepsRest l.fn.store l.store;
  fits : IfSome (g.D.Shelf.told l.depot) (λ t. StoreFits false l.store t.history);
  unspent : IsUnspent l.store;
  faults : g.D.Shelf.faults l.depot ≡ g.D.Shelf.faults l.fn.depot;
}
