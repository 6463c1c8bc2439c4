use Rattle.std.proofs.Common.{rules, subst}
use Rattle.std.specs.Io.KnownBytes.{Appends}
use Rattle.std.proofs.KnownBytes.{Appends-trans, Appends-kept}
use Rattle.ferry_layout.proofs.PieceLemmas.{take-passed}
use Rattle.ferry_layout.proofs.write.write_all.Goals as goal
use Rattle.ferry_layout.proofs.write.write_all.Goals.{in-Ok, in-Err}

pub loop-preserved : goal.loop-preserved
loop-preserved g c =
    elim c.match-write.branch [
      | in-Ok w ↦ record {
        within = search rules;
        bytes = rw w.done-is (subst (Appends _ _)
            (take-passed c.loop.done w.in-Ok.more c.args.bytes.now)
            (Appends-trans _ _ _ _ _ c.loop.invariant.bytes w.in-Ok.ensures.bytes));
      }
      | in-Err w ↦ record {
        within = search rules;
        bytes = rw w.done-is (Appends-kept _ _ _ _ c.loop.invariant.bytes w.in-Err.ensures.bytes);
      }
    ]
