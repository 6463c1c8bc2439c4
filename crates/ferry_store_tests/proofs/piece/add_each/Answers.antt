use Rattle.std.proofs.Common.{ℕ, List, nat_lt, sym, subst, arith, length-set}
use Rattle.ferry_blob.proofs.BatchLemmas.{bytes_at-other}
use Rattle.ferry_blob.specs.Batch.{bytes_at, id_at}
use Rattle.ferry_repo.specs.Opening.{repo_view}
use Rattle.ferry_store.proofs.PieceLemmas.{prepared_behind}
use Rattle.ferry_store.proofs.UseLemmas.{fits_added}
use Rattle.ferry_store.specs.Piece.{IsPrepared}
use Rattle.ferry_store_tests.proofs.piece.add_each.Goals as goal

pub loop-place-preserved : goal.loop-place-preserved
loop-place-preserved g c =
    let invariant = c.loop-place.invariant in
    let place = c.loop-place.place in
    let store = c.loop-place.store in
    let now = c.add_piece.new.self in
    let added = c.in_ok-added.added in
    let kept = c.in_ok-added.ensures in
    record {
      put = omega (arith, length-set c.loop-place.put place added.new, invariant.put);
      unspent = kept.unspent;
      fits =
          fits_added store now _ added (g.D.Shelf.told c.loop-place.depot) (g.D.Shelf.told c.add_piece.new.depot) (g.D.Shelf.faults c.loop-place.depot)
          (g.D.Shelf.faults c.add_piece.new.depot) invariant.fits kept.did;
      prepared = λ k behind low.
          subst (λ (buffer : List ℕ). IsPrepared (repo_view now.repo) (id_at c.args.ids.now k) (nat_lt k c.args.blobs) buffer)
          (sym (bytes_at-other c.loop-place.buffers place k _ (omega arith)))
          (prepared_behind (repo_view store.repo) (repo_view now.repo) added.id added.new (id_at c.args.ids.now k) (nat_lt k c.args.blobs)
          (bytes_at c.loop-place.buffers k) kept.repo (invariant.prepared k (omega arith) low));
    }
