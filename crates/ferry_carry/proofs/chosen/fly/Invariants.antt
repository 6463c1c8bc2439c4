use Rattle.std.proofs.Common.{◌≡◌, ◌≤◌, false, IfSome}
use Rattle.ferry_carry.proofs.FlownLemmas.{TakesOn}
use Rattle.ferry_carry.proofs.chosen.fly.Given as goal
use Rattle.ferry_carry.specs.Flight.{FlightFits, flown_from}
use Rattle.ferry_carry.specs.Grow.{KeepsMost}
use Rattle.ferry_compare.specs.Compare.{seen}
use Rattle.ferry_disk.specs.Device.{heard, told_files}
use Rattle.ferry_manifest.specs.Manifest.Writing.{IsPackable}
use Rattle.ferry_repo.specs.Opening.{FitsRepo, cached_in, repo_view}
use Rattle.ferry_store.specs.Commit.{accepted_in, IsSettled}
use Rattle.ferry_store.specs.Store.{IsUnspent, StoreFits}

-- the flight goes on, and the store fits
abbrev pub invariant-loop : goal.invariant-loop
invariant-loop g l = record {
  flight : FlightFits (g.S.Shelf.told l.shelf) (repo_view l.source) (g.D.Shelf.told l.depot) l.store
      (seen (g.D.Shelf.told l.depot) (repo_view l.store.repo)) l.flight;
  named : l.flight.named ≡ l.fn.flight.named;
  options : l.flight.options ≡ l.fn.flight.options;
  source_fits : IfSome (g.S.Shelf.told l.shelf) (λ t. FitsRepo (told_files t) (repo_view l.source) (cached_in l.source));
  unspent : IsUnspent l.store;
  fits : IfSome (g.D.Shelf.told l.depot) (λ t. StoreFits false l.store t.history);
  packable : IsPackable (accepted_in l.store);
  settled : IsSettled l.store;
  accepted : accepted_in l.store ≡ accepted_in l.fn.store;
  repo : repo_view l.source ≡ repo_view l.fn.source;
  alike : heard (g.S.Shelf.told l.shelf) ≡ heard (g.S.Shelf.told l.fn.shelf);
  faults : g.S.Shelf.faults l.shelf ≡ g.S.Shelf.faults l.fn.shelf;
  drawn : g.E.Entropy.faults l.entropy ≡ g.E.Entropy.faults l.fn.entropy;
  undrawn : g.E.Entropy.drawn l.entropy ≡ g.E.Entropy.drawn l.fn.entropy;
  most : KeepsMost l.fn.store l.store;
  pending : l.store.pending ≤ l.fn.flight.options.checkpoint;
  works : (fits : FlightFits (g.S.Shelf.told l.fn.shelf) (repo_view l.fn.source) (g.D.Shelf.told l.fn.depot) l.fn.store
      (seen (g.D.Shelf.told l.fn.depot) (repo_view l.fn.store.repo)) l.fn.flight)
      → TakesOn (g.S.Shelf.told l.shelf) (repo_view l.source) (flown_from (g.S.Shelf.told l.fn.shelf) (repo_view l.fn.source) l.fn.flight)
      l.fn.flight.named.name fits.added l.fn.store l.store l.flight (g.D.Shelf.told l.fn.depot) (g.D.Shelf.told l.depot) (g.D.Shelf.faults l.fn.depot)
      (g.D.Shelf.faults l.depot);
}
