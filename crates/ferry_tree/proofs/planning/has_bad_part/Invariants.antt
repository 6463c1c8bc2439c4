use Rattle.ferry_tree.proofs.PathLemmas.{PartsLeft}
use Rattle.ferry_tree.proofs.planning.has_bad_part.Given as goal

abbrev pub invariant-loop-place : goal.invariant-loop-place
invariant-loop-place l = record { parts : PartsLeft l.path l.from l.place }
