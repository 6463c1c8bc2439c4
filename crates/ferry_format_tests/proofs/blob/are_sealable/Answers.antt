use Rattle.std.proofs.Common.{below_more, slice_index, subst}
use Rattle.ferry_blob.specs.Batch.{IsSealable}
use Rattle.ferry_format_tests.proofs.blob.are_sealable.Goals as goal

pub loop-place-preserved : goal.loop-place-preserved
loop-place-preserved c =
    below_more _ _ c.loop-place.invariant
    (subst (IsSealable (slice_index c.args.nonces.now c.loop-place.place)) c.bytes_at.ensures (c.is_sealable.ensures c.if-not-is_sealable.false))
