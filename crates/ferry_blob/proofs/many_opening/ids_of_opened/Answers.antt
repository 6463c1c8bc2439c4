use Rattle.std.proofs.Common.{◌≡◌, ℕ, ◌∙◌, List, IsOk, drop, ap, arith, length-set}
use Rattle.ferry_mac.specs.Hmac.{hmac256}
use Rattle.ferry_blob.specs.Batch.{answer_at, bytes_at}
use Rattle.ferry_blob.specs.Blob.{content_id}
use Rattle.ferry_blob.proofs.ManyLemmas.{put_more}
use Rattle.ferry_blob.proofs.many_opening.ids_of_opened.Goals as goal

pub loop-place-preserved : goal.loop-place-preserved
loop-place-preserved c = record {
  size = omega (arith, length-set c.loop-place.texts c.loop-place.place c.content_at.result, c.loop-place.invariant.size);
  texts =
      put_more c.loop-place.texts c.loop-place.place c.content_at.result
      (λ (k : ℕ) (text : List ℕ). IsOk (answer_at c.args.answers.now k) → text ≡ drop 43 (bytes_at c.args.blobs.now k))
      (omega (arith, c.loop-place.invariant.size)) c.loop-place.invariant.texts c.content_at.ensures.content;
}

pub returns : goal.returns
unfolding content_id
returns c = record {
  ids = λ k low ok.
      c.macs_of_first.ensures.macs k low ∙ ap (hmac256 c.args.keys.now.id_key) (c.loop-place.invariant.texts k (omega arith) ok);
}
