use Rattle.std.proofs.Common.{ℕ, ◌≡◌, ◌≤◌, ◌<◌, false, IfSome, length, nat_lt}
use Rattle.ferry_blob.specs.Batch.{bytes_at, id_at}
use Rattle.ferry_repo.specs.Opening.{repo_view}
use Rattle.ferry_store.specs.Piece.{IsPrepared}
use Rattle.ferry_store.specs.Store.{IsUnspent, StoreFits}
use Rattle.ferry_store_tests.proofs.piece.add_each.Given as goal

-- the buffers from the place on are prepared
abbrev pub invariant-loop-place : goal.invariant-loop-place
invariant-loop-place g l = record {
  put : length l.put ≡ 5;
  unspent : IsUnspent l.store;
  fits : IfSome (g.D.Shelf.told l.depot) (λ t. StoreFits false l.store t.history);
  prepared : (k : ℕ) → l.place ≤ k → k < length l.fn.buffers
      → IsPrepared (repo_view l.store.repo) (id_at l.ids k) (nat_lt k l.blobs) (bytes_at l.buffers k);
}
