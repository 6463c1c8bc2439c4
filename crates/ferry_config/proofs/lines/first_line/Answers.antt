use Rattle.std.proofs.Common.{◌+◌, length, sym, arith}
use Rattle.std.proofs.lemmas.List.{take_rest, drop_all}
use Rattle.ferry_config.proofs.LinesLemmas.{lines-first, lines-last}
use Rattle.ferry_config.proofs.lines.first_line.Goals as goal

pub returns-in-Some-clause-lines : goal.returns-in-Some-clause-lines
returns-in-Some-clause-lines c =
    let text = c.args.text.now in
    rw (take_rest text (c.in-Some.at + 1), c.without_return.ensures.stripped) (lines-first text c.in-Some.at (sym c.in-Some.ensures.place))

pub returns-in-None-clause-lines : goal.returns-in-None-clause-lines
returns-in-None-clause-lines c =
    let text = c.args.text.now in
    rw (take_rest text (length text), drop_all (length text) text (omega arith)) (lines-last text c.requires (sym c.in-None.ensures.place))
