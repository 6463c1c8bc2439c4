use Rattle.std.proofs.Common.{sym, arith}
use Rattle.ferry_msgpack.proofs.WritableTestLemmas.{array_long, array_start, table_long, table_start}
use Rattle.ferry_msgpack.proofs.writable.+fits.Goals as goal

pub array_fits-returns-then-len-ge-LENGTHS_END : goal.array_fits-returns-then-len-ge-LENGTHS_END
array_fits-returns-then-len-ge-LENGTHS_END t c = sym (array_long c.args.depth c.args.items.now.items (omega (arith, c.args.items.now.ok.0)))

pub array_fits-loop-item-init : goal.array_fits-loop-item-init
array_fits-loop-item-init t c = array_start c.args.depth c.args.items.now.items c.if-depth-eq0.false (omega (arith, c.args.items.now.ok.0))

pub table_fits-returns-then-len-ge-LENGTHS_END : goal.table_fits-returns-then-len-ge-LENGTHS_END
table_fits-returns-then-len-ge-LENGTHS_END t c = sym (table_long c.args.depth c.args.pairs.now.items (omega (arith, c.args.pairs.now.ok.0)))

pub table_fits-loop-key-init : goal.table_fits-loop-key-init
table_fits-loop-key-init t c = table_start c.args.depth c.args.pairs.now.items c.if-depth-eq0.false (omega (arith, c.args.pairs.now.ok.0)) (grind arith)
