use Rattle.std.proofs.Common.{◌≡◌, ◌+◌, ◌-◌, ◌*◌, arith}
use Rattle.ferry_mac.proofs.EndingLemmas.{block_first, block_second, block_within}
use Rattle.ferry_mac.proofs.four.block_at.Goals as goal

pub returns-then-n-whole-clause-block : goal.returns-then-n-whole-clause-block
returns-then-n-whole-clause-block c before =
    let n = c.args.n in
    let width : 64 * n + 64 - 64 * n ≡ 64 = omega arith in
    let place : 64 * n ≡ n * 64 = omega arith in
    rw (width, place) (block_within c.args.text.now n (omega arith))

pub returns-then-n-whole-2-clause-block : goal.returns-then-n-whole-2-clause-block
returns-then-n-whole-2-clause-block c before = block_first c.args.text.now c.args.end.now c.args.n c.requires (omega arith)

pub returns-else-n-whole-2-clause-block : goal.returns-else-n-whole-2-clause-block
returns-else-n-whole-2-clause-block c before =
    block_second c.args.text.now c.args.end.now c.args.n c.requires (omega (arith, c.told-end)) (omega arith) before
