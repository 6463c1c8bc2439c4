use Rattle.std.proofs.Common.{◌≡◌, ◌+◌, ◌++◌, take, arith, ap, ◌∙◌}
use Rattle.ferry_aes.specs.CounterMode.{counter_block, output_blocks}
use Rattle.ferry_aes.specs.Planes.{half, joined_blocks}
use Rattle.ferry_aes.proofs.CounterModeLemmas.{output_blocks_of, two_groups_put}
use Rattle.ferry_aes.proofs.counter.put_two_groups.Goals as goal

pub returns : goal.returns
returns c w n m keys low high =
    let rows = c.finished-rows.result in
    let first : joined_blocks (half 0 rows) ≡ output_blocks w n 8 =
    output_blocks_of w n (half 0 rows) (λ i l. c.finished-rows.ensures w (counter_block (n + i)) 0 i keys (omega arith) l (low i l)) in
    let second : joined_blocks (half 1 rows) ≡ output_blocks w m 8 =
    output_blocks_of w m (half 1 rows) (λ i l. c.finished-rows.ensures w (counter_block (m + i)) 1 i keys (omega arith) l (high i l)) in
    two_groups_put c.args.at (take c.args.at c.args.into.now) (output_blocks w n 8) (output_blocks w m 8) _ _
    (c.put_blocks.ensures ∙ ap (λ r. take c.args.at c.args.into.now ++ joined_blocks r) c.low_half.ensures
    ∙ ap (λ x. take c.args.at c.args.into.now ++ x) first)
    (c.put_blocks-2.ensures ∙ ap (λ r. take (c.args.at + 128) c.put_blocks.new.into ++ joined_blocks r) c.high_half.ensures
    ∙ ap (λ x. take (c.args.at + 128) c.put_blocks.new.into ++ x) second)
