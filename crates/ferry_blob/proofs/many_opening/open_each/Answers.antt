use Rattle.std.proofs.Common.{◌<◌, ◌∙◌, length, ap, arith, length-set}
use Rattle.ferry_blob.proofs.BatchLemmas.{bytes_at-other, bytes_at-read, opened_more}
use Rattle.ferry_blob.proofs.many_opening.open_each.Goals as goal

pub loop-place-preserved : goal.loop-place-preserved
loop-place-preserved c =
    let place = c.loop-place.place in
    let low : place < length c.loop-place.blobs = omega arith in
    let few : place < length c.loop-place.answers = omega (arith, c.loop-place.invariant.size) in
    let was = c.as_mut_slice-blob.ensures.value ∙ bytes_at-read c.loop-place.blobs place c.index-blobs-place.result low in
    let same = was ∙ c.loop-place.invariant.left place (omega arith) in
    record {
      size = omega (arith, length-set c.loop-place.answers place c.open_by_mac.result, c.loop-place.invariant.size);
      opened =
          opened_more c.args.keys.now c.args.blobs.now c.loop-place.blobs c.loop-place.answers place c.index-blobs-place.result c.open_by_mac.new.blob
          c.open_by_mac.result low few (omega (arith, ap length was)) c.loop-place.invariant.opened
          (rw same at c.open_by_mac.ensures.opened);
      left = λ k behind. bytes_at-other c.loop-place.blobs place k _ (omega arith) ∙ c.loop-place.invariant.left k (omega arith);
    }
