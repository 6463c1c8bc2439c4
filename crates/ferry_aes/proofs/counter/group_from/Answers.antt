use Rattle.std.proofs.Common.{◌∙◌}
use Rattle.ferry_aes.proofs.CounterModeLemmas.{output_blocks_by_rows}
use Rattle.ferry_aes.proofs.counter.group_from.Goals as goal

pub returns : goal.returns
returns c w keys =
    c.joined.ensures ∙ output_blocks_by_rows w c.args.first c.counters-blocks.result c.eight_blocks-rows.result c.counters-blocks.ensures
    (λ i l. c.eight_blocks-rows.ensures w i keys l)
