use Rattle.std.proofs.Common.{◌∙◌, ℕ, Vec, Global, ap, below_more, subst, arith}
use Rattle.ferry_blob.proofs.BatchLemmas.{bytes_at-read}
use Rattle.ferry_blob.specs.Batch.{bytes_at}
use Rattle.ferry_store.specs.Piece.{HasSize}
use Rattle.ferry_store_tests.proofs.piece.is_batch.Goals as goal

pub loop-place-preserved : goal.loop-place-preserved
loop-place-preserved c =
    let buffers = c.args.buffers.now in
    let place = c.loop-place.place in
    let buffer = c.index-buffers-place.result in
    let here : HasSize buffer.items = record { head = omega arith; limit = omega arith } in
    below_more (λ (k : ℕ). HasSize (bytes_at buffers k)) place c.loop-place.invariant
    (subst HasSize (ap (λ (v : Vec ℕ Global). v.items) c.index-buffers-place.is ∙ bytes_at-read buffers place buffer (omega arith)) here)
