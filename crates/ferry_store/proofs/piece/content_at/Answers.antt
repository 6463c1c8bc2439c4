use Rattle.std.proofs.Common.{ℕ, drop, ap, ◌∙◌}
use Rattle.std.proofs.lemmas.List.{take_rest}
use Rattle.ferry_store.proofs.piece.content_at.Goals as goal

pub returns : goal.returns
returns c = record { content = take_rest {X = ℕ} c.bytes_at.result.now 43 ∙ ap (drop 43) c.bytes_at.ensures.bytes }
