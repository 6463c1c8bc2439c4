use Rattle.std.proofs.Common.{slice_index, arith}
use Rattle.ferry_blob.specs.Batch.{bytes_at}
use Rattle.ferry_blob.proofs.SealLemmas.{room_behind, sealed_whole}
use Rattle.ferry_blob.proofs.many_sealing.seal_many.Goals as goal

pub put_heads-requires-clause-room : goal.put_heads-requires-clause-room
put_heads-requires-clause-room c k low = room_behind _ _ _ _ (c.encrypt_each.ensures.parts k (omega arith))

pub returns : goal.returns
returns c = record {
  sealed = λ k low.
      sealed_whole c.args.keys.now c.args.mode (slice_index c.args.nonces.now k) (bytes_at c.args.buffers.now k) (bytes_at c.encrypt_each.new.buffers k)
      (bytes_at c.put_heads.new.buffers k) (omega (arith, (c.requires.sealable k low).blocks)) (c.encrypt_each.ensures.parts k low)
      (rw (c.macs_of_parts-macs.ensures.macs k (omega arith)) at (c.put_heads.ensures.blobs k (omega arith)));
}
