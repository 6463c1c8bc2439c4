use Rattle.std.proofs.Common.{◌≡◌, ◌<◌, ◌∙◌, length, drop, slice_index, ap, arith}
use Rattle.ferry_blob.specs.Batch.{bytes_at}
use Rattle.ferry_blob.specs.Blob.{authenticated}
use Rattle.ferry_blob.proofs.BatchLemmas.{bytes_at-other, bytes_at-read, written_more}
use Rattle.ferry_blob.proofs.batch_sealing.encrypt_each.Goals as goal

pub loop-place-preserved : goal.loop-place-preserved
loop-place-preserved c =
    let place = c.loop-place.place in
    let low : place < length c.loop-place.buffers = omega arith in
    let was = c.as_mut_slice-buffer.ensures.value ∙ bytes_at-read c.loop-place.buffers place c.index-buffers-place.result low in
    let same = was ∙ c.loop-place.invariant.left place (omega arith) in
    record {
      parts =
          written_more c.loop-place.buffers place c.index-buffers-place.result c.encrypt.new.buffer
          (λ k bytes. drop 33 bytes ≡ authenticated c.args.key.now (slice_index c.args.nonces.now k) (drop 43 (bytes_at c.args.buffers.now k))) low
          (omega (arith, ap length was)) c.loop-place.invariant.parts
          (rw same at c.encrypt.ensures.part);
      left = λ k behind. bytes_at-other c.loop-place.buffers place k _ (omega arith) ∙ c.loop-place.invariant.left k (omega arith);
    }
