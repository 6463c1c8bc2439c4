use Rattle.std.proofs.Common.{◌≡◌, false, IfSome, IsSome}
use Rattle.ferry_gen.proofs.source.make_archives.Given as goal
use Rattle.ferry_gen.specs.Steps.{HasMade}
use Rattle.ferry_manifest.specs.Manifest.Writing.{IsPackable}
use Rattle.ferry_store.specs.Commit.{IsSettled, accepted_in}
use Rattle.ferry_store.specs.Store.{IsUnspent, StoreFits}

-- the archives so far are there
abbrev pub invariant-loop-archive : goal.invariant-loop-archive
invariant-loop-archive g l = record {
  told : IsSome (g.D.Shelf.told l.depot);
  made : IfSome (g.D.Shelf.told l.depot) (λ t. HasMade l.archive l.store t.history);
  fits : IfSome (g.D.Shelf.told l.depot) (λ t. StoreFits false l.store t.history);
  settled : IsSettled l.store;
  pending : l.store.pending ≡ 0;
  packable : IsPackable (accepted_in l.store);
  unspent : IsUnspent l.store;
  faults : g.D.Shelf.faults l.depot ≡ g.D.Shelf.faults l.fn.depot;
}
