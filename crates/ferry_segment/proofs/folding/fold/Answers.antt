use Rattle.std.proofs.Common.{◌∙◌, ap, length, arith}
use Rattle.std.proofs.lemmas.List.{take_rest}
use Rattle.ferry_segment.proofs.FoldingLemmas.{rest_changed, rest_put}
use Rattle.ferry_segment.specs.Crc.{register_after}
use Rattle.ferry_segment.proofs.folding.fold.Goals as goal

pub loop-bytes-preserved : goal.loop-bytes-preserved
loop-bytes-preserved c =
    let at = c.loop-bytes.at in
    let old = c.loop-bytes.bytes in
    let rest = c.fold_front.new.bytes in
    let put = rest_put at old rest c.loop-bytes.invariant.within c.fold_front.ensures.length in
    let sized = ap length put.0 ∙ put.1 in
    record {
      within = omega (arith, sized);
      same_length = sized ∙ c.loop-bytes.invariant.same_length;
      left =
          ap (register_after 0) (rest_changed at 576 old rest _ c.loop-bytes.invariant.within put.0)
          ∙ (c.fold_front.ensures.left ∙ (ap (register_after 0) (take_rest old at) ∙ c.loop-bytes.invariant.left));
    }
