use Rattle.std.proofs.Common.{ℕ}
use Rattle.std.proofs.lemmas.List.{take_rest}
use Rattle.ferry_blob.proofs.opening.authenticated_part.Goals as goal

pub returns : goal.returns
returns c = record { part = λ room kind. take_rest {X = ℕ} c.args.blob.now 33 }
