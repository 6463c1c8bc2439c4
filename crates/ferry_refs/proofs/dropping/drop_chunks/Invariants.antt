use Rattle.std.proofs.Common.{◌≡◌, Ok, take}
use Rattle.ferry_disk.specs.Moments.{Between}
use Rattle.ferry_stops.specs.Tells.{TellsNothing}
use Rattle.ferry_store.specs.Store.{IsUnspent}
use Rattle.ferry_refs.proofs.DropLemmas.{DidDrop}
use Rattle.ferry_refs.proofs.dropping.drop_chunks.Given as goal

-- the chunks so far are dropped
abbrev pub invariant-loop-place : goal.invariant-loop-place
invariant-loop-place g l = record {
  did : DidDrop {T = Unit {0}} l.fn.store (take l.place l.ids) l.store (g.D.Shelf.told l.fn.depot) (g.D.Shelf.told l.depot)
      (g.D.Shelf.faults l.fn.depot) (g.D.Shelf.faults l.depot) (Ok tt);
  untold : Between (g.D.Shelf.told l.fn.depot) (g.D.Shelf.told l.depot) TellsNothing;
  rest : l.store ≡ record l.fn.store { session = l.store.session; spent = l.store.spent };
  unspent : IsUnspent l.store;
}
