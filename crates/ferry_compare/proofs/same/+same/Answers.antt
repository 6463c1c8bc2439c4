use Rattle.std.proofs.Common.{sym, arith}
use Rattle.ferry_compare.proofs.SameLemmas.{items_long, pairs_long}
use Rattle.ferry_compare.proofs.same.+same.Goals as goal

pub tests_items-returns-then-len : goal.tests_items-returns-then-len
tests_items-returns-then-len t c =
    sym (items_long c.args.first.now.items c.args.second.now.items (λ e. c.if-len.true (omega (arith, e, c.len.ensures, c.len-2.ensures))))

pub tests_pairs-returns-then-len : goal.tests_pairs-returns-then-len
tests_pairs-returns-then-len t c =
    sym (pairs_long c.args.first.now.items c.args.second.now.items (λ e. c.if-len.true (omega (arith, e, c.len.ensures, c.len-2.ensures))))
