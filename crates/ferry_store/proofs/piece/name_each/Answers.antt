use Rattle.std.proofs.Common.{◌≡◌, ℕ, ◌∙◌, List, drop, length, ap, arith, length-set}
use Rattle.ferry_blob.specs.Batch.{bytes_at, id_at}
use Rattle.ferry_blob.specs.Blob.{content_id}
use Rattle.ferry_store.proofs.PieceLemmas.{ids_made, put_more}
use Rattle.ferry_store.proofs.piece.name_each.Goals as goal

pub loop-place-preserved : goal.loop-place-preserved
loop-place-preserved c = record {
  size = omega (arith, length-set c.loop-place.contents c.loop-place.place c.content_at.result, c.loop-place.invariant.size);
  texts =
      put_more c.loop-place.contents c.loop-place.place c.content_at.result (λ (k : ℕ) (text : List ℕ). text ≡ drop 43 (bytes_at c.args.buffers.now k))
      (omega (arith, c.loop-place.invariant.size)) c.loop-place.invariant.texts c.content_at.ensures.content;
}

pub returns : goal.returns
returns c = record {
  ids = λ k low.
      ap (λ (ids : List (List ℕ)). id_at ids k) c.ids_many.ensures.ids
      ∙ (ids_made c.args.keys.now c.loop-place.contents (length c.args.buffers.now) k (omega (arith, c.loop-place.invariant.size, c.requires.places)) low
      ∙ ap (content_id c.args.keys.now) (c.loop-place.invariant.texts k (omega arith)));
}
