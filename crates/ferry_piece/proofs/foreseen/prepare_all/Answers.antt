use Rattle.std.proofs.Common.{◌≡◌, ℕ, List, length, nat_lt, replicate, take, sym, subst, arith}
use Rattle.std.proofs.lemmas.List.{get_or_append_left, length-take}
use Rattle.ferry_base.specs.Limits.{zero_id}
use Rattle.ferry_blob.specs.Batch.{bytes_at}
use Rattle.ferry_piece.proofs.foreseen.prepare_all.Goals as goal
use Rattle.ferry_repo.specs.Opening.{repo_view}
use Rattle.ferry_store.specs.Piece.{Prepares}

pub returns : goal.returns
returns c =
    let count = length c.args.buffers.now in
    let same : length c.prepare-blobs.new.ids ≡ length (take count (replicate 64 zero_id)) = c.prepare-blobs.auto.ids in
    let size : length c.prepare-blobs.new.ids ≡ count = omega (arith, same, length-take count (replicate 64 zero_id), c.requires.few) in
    record {
      prepared = λ k low.
          subst (λ (id : List ℕ). Prepares (repo_view c.args.store.now.repo) (bytes_at c.args.buffers.now k) id (nat_lt k c.prepare-blobs.result)
          (bytes_at c.prepare-blobs.new.buffers k)) (sym (get_or_append_left c.prepare-blobs.new.ids _ zero_id k (omega (arith, size, low))))
          (c.prepare-blobs.ensures.prepared k low);
    }
