use Rattle.std.proofs.Common.{◌<◌, length, refl, arith}
use Rattle.ferry_item.proofs.StreamLemmas.{some_left}
use Rattle.ferry_item.proofs.reader.ItemReader.finish.Goals as goal

pub returns-then-self-len-clause-ok : goal.returns-then-self-len-clause-ok
returns-then-self-len-clause-ok c =
    let below : c.self.inside.at < length c.self.inside.bytes.items = omega (arith, c.len.ensures, c.if-self-len.true) in
    (λ e. absurd cc, λ none. absurd (some_left c.self.inside.at c.self.inside.bytes.items c.args.self c.self.view_is below none))

pub returns-then-self-len-clause-rest : goal.returns-then-self-len-clause-rest
returns-then-self-len-clause-rest c =
    let below : c.self.inside.at < length c.self.inside.bytes.items = omega (arith, c.len.ensures, c.if-self-len.true) in
    (λ _. some_left c.self.inside.at c.self.inside.bytes.items c.args.self c.self.view_is below, λ _. refl)
