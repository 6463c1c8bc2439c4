use Rattle.std.proofs.Common.{◌≡◌, ◌+◌, ◌++◌, sym, ◌∙◌, ap, length, zero-add, rules}
use Rattle.ferry_disk.specs.Stream.{stream}
use Rattle.ferry_disk.proofs.StreamLemmas.{stream-add}
use Rattle.ferry_disk.proofs.entropy.MemoryEntropyEntropy.fill.Goals as goal

pub returns-clause-drawn : goal.returns-clause-drawn
returns-clause-drawn c =
    let place = c.args.self.now.place in
    let count = length c.args.into.now in
    let end : c.in-Some.end ≡ place + count = search rules in
    ap (stream 0) end
    ∙ (stream-add 0 place count
    ∙ ap (λ bytes. stream 0 place ++ bytes) (ap (λ at. stream at count) (zero-add place) ∙ sym c.fill_from.ensures))
