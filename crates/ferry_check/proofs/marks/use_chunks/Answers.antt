use Rattle.std.proofs.Common.{◌<◌, length, arith}
use Rattle.std.specs.BTreeMap.{get}
use Rattle.ferry_log.specs.Live.{key_cmp}
use Rattle.ferry_check.specs.Steps.{IsRight}
use Rattle.ferry_check.proofs.MarkLemmas.{all_more, refs_more, refs_refused, right_before}
use Rattle.ferry_check.specs.Report.{ids_in}
use Rattle.std.proofs.Common.{take}
use Rattle.ferry_check.proofs.marks.use_chunks.Goals as goal

pub returns-in-Err-clause-refused : goal.returns-in-Err-clause-refused
returns-in-Err-clause-refused c =
    let lt : c.loop-place.place < length c.args.refs.now = omega arith in
    refs_refused (get key_cmp c.args.chunks.now) (get key_cmp c.loop-place.chunks) c.args.refs.now c.loop-place.place _ c.in-Err.fault lt
    c.loop-place.invariant.marks c.loop-place.invariant.right c.in-Err.ensures.refused

pub loop-place-preserved : goal.loop-place-preserved
loop-place-preserved c =
    let old = get key_cmp c.args.chunks.now in
    let now = get key_cmp c.loop-place.chunks in
    let refs = c.args.refs.now in
    let place = c.loop-place.place in
    let lt : place < length refs = omega arith in
    record {
      right = all_more (IsRight old) refs place _ lt c.loop-place.invariant.right
          (right_before old now (ids_in (take place refs)) _ c.loop-place.invariant.marks c.in-Ok.ensures.right);
      marks = refs_more old now (get key_cmp c.use_chunk.new.chunks) refs place _ lt c.loop-place.invariant.marks c.in-Ok.ensures.marks;
    }
