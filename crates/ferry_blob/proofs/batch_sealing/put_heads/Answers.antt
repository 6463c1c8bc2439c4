use Rattle.std.proofs.Common.{◌≡◌, ◌<◌, ◌∙◌, [], ◌∷◌, ◌++◌, length, drop, slice_index_or, ap, arith}
use Rattle.ferry_blob.specs.Batch.{bytes_at}
use Rattle.ferry_blob.specs.Blob.{type_of}
use Rattle.ferry_blob.proofs.BatchLemmas.{bytes_at-other, bytes_at-read, written_more}
use Rattle.ferry_blob.proofs.batch_sealing.put_heads.Goals as goal

pub loop-place-preserved : goal.loop-place-preserved
loop-place-preserved c =
    let place = c.loop-place.place in
    let low : place < length c.loop-place.buffers = omega arith in
    let was = c.as_mut_slice-buffer.ensures.value ∙ bytes_at-read c.loop-place.buffers place c.index-buffers-place.result low in
    let same = was ∙ c.loop-place.invariant.left place (omega arith) in
    record {
      heads =
          written_more c.loop-place.buffers place c.index-buffers-place.result c.put_head.new.buffer
          (λ k bytes. bytes ≡ type_of c.args.mode ∷ (slice_index_or c.args.macs.now k [] ++ drop 33 (bytes_at c.args.buffers.now k))) low
          (omega (arith, ap length was)) c.loop-place.invariant.heads
          (rw same at c.put_head.ensures.blob);
      left = λ k behind. bytes_at-other c.loop-place.buffers place k _ (omega arith) ∙ c.loop-place.invariant.left k (omega arith);
    }
