use Rattle.std.proofs.Common.{◌≡◌, ◌≤◌, false, Ok, IfSome, take}
use Rattle.ferry_carry.proofs.GrowsLemmas.{Follows}
use Rattle.ferry_carry.proofs.chosen.Order.carry_all.Given as goal
use Rattle.ferry_carry.specs.Flight.{origin_of}
use Rattle.ferry_carry.specs.Grow.{KeepsMost}
use Rattle.ferry_carry.specs.Telling.{Reports}
use Rattle.ferry_compare.specs.Matched.{AreMatched}
use Rattle.ferry_disk.specs.Device.{heard, told_files}
use Rattle.ferry_manifest.specs.Manifest.Writing.{IsPackable}
use Rattle.ferry_repo.specs.Opening.{FitsRepo, cached_in, repo_view}
use Rattle.ferry_store.specs.Commit.{accepted_in, IsSettled}
use Rattle.ferry_store.specs.Store.{IsUnspent, StoreFits}
use Rattle.ferry_carry.specs.States.{target_state, drawn_from}

-- the archives so far were copied or compared, and told
abbrev pub invariant-loop-place : goal.invariant-loop-place
invariant-loop-place g l = record {
  source_fits : IfSome (g.S.Shelf.told l.shelf) (λ t. FitsRepo (told_files t) (repo_view l.source) (cached_in l.source));
  unspent : IsUnspent l.store;
  fits : IfSome (g.D.Shelf.told l.depot) (λ t. StoreFits false l.store t.history);
  packable : IsPackable (accepted_in l.store);
  settled : IsSettled l.store;
  repo : repo_view l.source ≡ repo_view l.fn.source;
  alike : heard (g.S.Shelf.told l.shelf) ≡ heard (g.S.Shelf.told l.fn.shelf);
  faults : g.S.Shelf.faults l.shelf ≡ g.S.Shelf.faults l.fn.shelf;
  drawn : g.E.Entropy.faults l.entropy ≡ g.E.Entropy.faults l.fn.entropy;
  pending : l.store.pending ≤ l.fn.self.options.now.checkpoint;
  ended : l.fn.store.pending ≡ 0 → l.store.pending ≡ 0;
  most : KeepsMost l.fn.store l.store;
  matched : AreMatched (g.S.Shelf.told l.shelf) (repo_view l.source) (g.D.Shelf.told l.depot) (repo_view l.store.repo) l.matches;
  works : (before : Reports (origin_of (g.S.Shelf.told l.fn.shelf) (repo_view l.fn.source) l.fn.self.options.now) (take l.place l.self.names.now) (target_state
      (g.D.Shelf.told l.fn.depot) (g.D.Shelf.faults l.fn.depot) l.fn.store) (target_state (g.D.Shelf.told l.depot) (g.D.Shelf.faults l.depot) l.store)
      l.fn.carried l.carried (drawn_from (g.E.Entropy.drawn l.fn.entropy) (g.E.Entropy.drawn l.entropy)) (Ok tt)) × Follows before.added l.store;
}
