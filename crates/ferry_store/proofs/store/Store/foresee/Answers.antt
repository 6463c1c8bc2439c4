use Rattle.std.proofs.Common.{sym, subst, arith, length-set}
use Rattle.ferry_blob.specs.Batch.{IsSealable, bytes_at}
use Rattle.ferry_store.proofs.PieceLemmas.{noted_more, sealable_from}
use Rattle.ferry_store.proofs.store.Store.foresee.Goals as goal
use Rattle.ferry_store.specs.Piece.{HasSize}

pub behind_blocks-requires : goal.behind_blocks-requires
behind_blocks-requires c = record { size = subst HasSize (sym c.bytes_at.ensures.bytes) (c.requires.sizes c.loop-place.place (omega arith)) }

pub loop-place-preserved : goal.loop-place-preserved
loop-place-preserved c =
    let size = subst HasSize (sym c.bytes_at.ensures.bytes) (c.requires.sizes c.loop-place.place (omega arith)) in
    record {
      size = omega (arith, length-set c.loop-place.nonces c.loop-place.place c.loop-place.free, c.loop-place.invariant.size);
      sealable =
          noted_more c.loop-place.nonces c.loop-place.place c.loop-place.free (λ k n. IsSealable n (bytes_at c.args.buffers.now k)) (omega (
            arith,
            c.loop-place.invariant.size,
          ))
          c.loop-place.invariant.sealable
          (subst (IsSealable c.loop-place.free) c.bytes_at.ensures.bytes
          (sealable_from c.loop-place.free c.in-Some.behind c.bytes_at.result.now size c.in-Some.ensures.blocks (omega arith)));
    }
