use Rattle.std.proofs.Common.{◌≡◌, IfSome, false, take}
use Rattle.ferry_disk.specs.Moments.{Between}
use Rattle.ferry_repo.specs.Opening.{repo_view}
use Rattle.ferry_stops.specs.Tells.{TellsNothing}
use Rattle.ferry_store.specs.Store.{IsUnspent, StoreFits}
use Rattle.ferry_refs.proofs.AddLemmas.{AddedTexts}
use Rattle.ferry_refs.proofs.renewing.add_records.Given as goal
use Rattle.ferry_refs.specs.TagSteps.{KeepsRepo, olds_view}

-- the records so far are added
abbrev pub invariant-loop-place : goal.invariant-loop-place
invariant-loop-place g l = record {
  added : AddedTexts (repo_view l.fn.store.repo).keys (olds_view (take l.place l.untagged)) l.ids.items l.fn.store l.store (g.D.Shelf.told l.fn.depot)
      (g.D.Shelf.told l.depot) (g.D.Shelf.faults l.fn.depot) (g.D.Shelf.faults l.depot) (g.E.Entropy.drawn l.fn.entropy) (g.E.Entropy.drawn l.entropy);
  untold : Between (g.D.Shelf.told l.fn.depot) (g.D.Shelf.told l.depot) TellsNothing;
  repo : KeepsRepo (repo_view l.fn.store.repo) (repo_view l.store.repo);
  accepted : l.store.accepted ≡ l.fn.store.accepted;
  unspent : IsUnspent l.store;
  fits : IfSome (g.D.Shelf.told l.depot) (λ t. StoreFits false l.store t.history);
  entropy : g.E.Entropy.faults l.entropy ≡ g.E.Entropy.faults l.fn.entropy;
}
