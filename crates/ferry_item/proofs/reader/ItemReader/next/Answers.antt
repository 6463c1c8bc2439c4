use Rattle.std.proofs.Common.{◌≡◌, drop, sym, ap, ◌∙◌}
use Rattle.ferry_msgpack.specs.Reading.{value_at}
use Rattle.ferry_item.proofs.FrontLemmas.{short_front}
use Rattle.ferry_item.proofs.reader.ItemReader.next.Goals as goal

pub returns-in-Some-later-clause-none : goal.returns-in-Some-later-clause-none
returns-in-Some-later-clause-none c =
    let same : c.behind.result.now ≡ c.args.self.now = c.behind.ensures ∙ ap (drop c.self.inside.at) c.as_slice.ensures.value ∙ c.self.view_is in
    λ _. short_front c.args.self.now (ap (value_at 64) (sym same) ∙ c.in-Some-later.ensures.short)
