use Rattle.std.proofs.Common.{ℕ, length}
use Rattle.std.proofs.lemmas.List.{drop-replicate}
use Rattle.ferry_mac.proofs.mac256.filled.Goals as goal

pub returns : goal.returns
returns c = record {
  filled = rw (c.copy_from_slice.ensures.after, drop-replicate {X = ℕ} (length c.args.key.now) 64 0);
}
