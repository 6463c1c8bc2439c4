use Rattle.std.proofs.Common.{◌≡◌, ◌∙◌, ◌+◌, ◌-◌, ap, take, drop, arith}
use Rattle.std.proofs.lemmas.List.{take_rest}
use Rattle.ferry_segment.specs.Crc.{register_after}
use Rattle.ferry_segment.proofs.CrcLemmas.{register_after_some}
use Rattle.ferry_segment.proofs.crc.by_tables.Goals as goal

pub loop-at-preserved : goal.loop-at-preserved
loop-at-preserved c =
    let sixteen : c.loop-at.at + 16 - c.loop-at.at ≡ 16 = omega arith in
    record {
      within = omega arith;
      left =
          register_after_some 16 c.loop-at.after _ c.args.bytes.now c.loop-at.at (c.after_sixteen-after.ensures
          ∙ ap (λ n. register_after c.loop-at.after (take n (drop c.loop-at.at c.args.bytes.now))) sixteen)
          ∙ c.loop-at.invariant.left;
    }

pub returns : goal.returns
returns c = rw take_rest at c.after_each.ensures ∙ c.loop-at.invariant.left
