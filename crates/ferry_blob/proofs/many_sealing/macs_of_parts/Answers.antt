use Rattle.std.proofs.Common.{◌≡◌, ℕ, ◌∙◌, List, drop, ap, arith, length-set}
use Rattle.ferry_mac.specs.Hmac.{hmac256}
use Rattle.ferry_blob.specs.Batch.{bytes_at}
use Rattle.ferry_blob.proofs.ManyLemmas.{put_more}
use Rattle.ferry_blob.proofs.many_sealing.macs_of_parts.Goals as goal

pub loop-place-preserved : goal.loop-place-preserved
loop-place-preserved c = record {
  size = omega (arith, length-set c.loop-place.parts c.loop-place.place c.part_at.result, c.loop-place.invariant.size);
  parts =
      put_more c.loop-place.parts c.loop-place.place c.part_at.result (λ (k : ℕ) (text : List ℕ). text ≡ drop 33 (bytes_at c.args.buffers.now k))
      (omega (arith, c.loop-place.invariant.size)) c.loop-place.invariant.parts c.part_at.ensures.part;
}

pub returns : goal.returns
returns c = record {
  macs = λ k low. c.macs_of_first.ensures.macs k low ∙ ap (hmac256 c.args.key.now) (c.loop-place.invariant.parts k (omega arith));
}
