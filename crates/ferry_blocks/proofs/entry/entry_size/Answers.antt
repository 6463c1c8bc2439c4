use Rattle.std.proofs.Common.{arith}
use Rattle.ferry_blocks.proofs.EntryLemmas.{word_is, in_range, out_of_range}
use Rattle.ferry_blocks.proofs.entry.entry_size.Goals as goal

pub returns-then-not-is_in_range-clause-stated : goal.returns-then-not-is_in_range-clause-stated
returns-then-not-is_in_range-clause-stated c bytes sized is long =
    let word = word_is c.args.front.now bytes c.args.left c.size_word-size.result is (omega arith) long c.size_word-size.ensures in
    out_of_range bytes c.args.left c.size_word-size.result c.is_in_range.result sized word c.is_in_range.ensures c.if-not-is_in_range.true

pub returns-clause-stated : goal.returns-clause-stated
returns-clause-stated c bytes sized is =
    let long = c.has_front.ensures.0 c.if-not-has_front.false in
    let word = word_is c.args.front.now bytes c.args.left c.size_word-size.result is (omega arith) long c.size_word-size.ensures in
    in_range bytes c.args.left c.size_word-size.result sized word (c.is_in_range.ensures.0 c.if-not-is_in_range.false)
