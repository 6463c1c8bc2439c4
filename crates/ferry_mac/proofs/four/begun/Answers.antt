use Rattle.std.proofs.Common.{ℕ, length}
use Rattle.std.proofs.lemmas.List.{drop-replicate}
use Rattle.ferry_mac.proofs.four.begun.Goals as goal

pub returns : goal.returns
returns c = rw (c.copy_from_slice.ensures.after, drop-replicate {X = ℕ} (length c.args.rest.now) 128 0)
