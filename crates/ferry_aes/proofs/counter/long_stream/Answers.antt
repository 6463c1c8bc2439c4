use Rattle.std.proofs.Common.{◌≡◌, length, sym, ap, ◌∙◌}
use Rattle.ferry_aes.specs.CounterMode.{key_stream}
use Rattle.ferry_aes.proofs.CounterModeLemmas.{pairs_as_front}
use Rattle.ferry_aes.proofs.counter.long_stream.Goals as goal

pub returns : goal.returns
returns c w keys =
    let same : length c.args.into.now ≡ length c.pairs_of_groups.new.into = sym c.pairs_of_groups.auto.into in
    c.groups_from.ensures w keys (pairs_as_front w c.args.counter (length c.args.into.now) (length c.pairs_of_groups.new.into) _ same
    (c.pairs_of_groups.ensures w keys))
    ∙ ap (key_stream w c.args.counter) (sym same)
