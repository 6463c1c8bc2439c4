use Rattle.std.proofs.Common.{arith}
use Rattle.ferry_item.proofs.WriteLemmas.{trees_none, trees_more, range_more}
use Rattle.ferry_item.proofs.writing.chunk_values.Goals as goal

pub loop-place-init : goal.loop-place-init
loop-place-init c = record { values = rw c.new-values.ensures.items trees_none; range = tt }

pub loop-place-preserved : goal.loop-place-preserved
loop-place-preserved c =
    let chunks = c.args.chunks.now in
    let place = c.loop-place.place in
    let told = c.in_ok-value.ensures in
    record {
      values =
          rw c.in_ok-push.ensures.items (trees_more c.loop-place.values.items c.in_ok-value.value chunks place _ (omega arith) c.loop-place.invariant.values
          told.value);
      range = range_more chunks place _ (omega arith) c.loop-place.invariant.range told.id told.csize;
    }
