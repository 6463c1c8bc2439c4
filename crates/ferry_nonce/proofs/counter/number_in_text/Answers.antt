use Rattle.ferry_nonce.proofs.FileLemmas.{wrong_size}
use Rattle.ferry_nonce.proofs.counter.number_in_text.Goals as goal

pub returns-then-size-ne17-clause-number : goal.returns-then-size-ne17-clause-number
returns-then-size-ne17-clause-number g c =
    wrong_size (g.D.Shelf.told c.args.depot.now) c.args.size c.if-size-ne16.true c.if-size-ne17.true
