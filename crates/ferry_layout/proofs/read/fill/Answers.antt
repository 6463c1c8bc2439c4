use Rattle.std.proofs.Common.{rules, sym, subst, le_refl}
use Rattle.std.proofs.lemmas.Slice.{take-put_mid_below}
use Rattle.std.specs.Io.KnownBytes.{Consumes}
use Rattle.std.proofs.KnownBytes.{Consumes-trans, Consumes-kept}
use Rattle.ferry_layout.proofs.PieceLemmas.{take-filled}
use Rattle.ferry_layout.proofs.read.fill.Goals as goal
use Rattle.ferry_layout.proofs.read.fill.Goals.{in-Ok, in-Err}

pub loop-preserved : goal.loop-preserved
loop-preserved g c =
    elim c.match-read.branch [
      | in-Ok w ↦ record {
        within = search rules;
        bytes = rw w.count-is (subst (Consumes _ _)
            (sym (take-filled _ _ c.loop.into _ _ c.loop.invariant.within w.in-Ok.ensures.bound.0))
            (Consumes-trans _ _ _ _ _ c.loop.invariant.bytes w.in-Ok.ensures.bytes.0));
      }
      | in-Err w ↦ record {
        within = search rules;
        bytes = rw w.count-is (subst (Consumes _ _)
            (sym (take-put_mid_below _ _ _ _ _ (le_refl _) c.loop.invariant.within))
            (Consumes-kept _ _ _ _ c.loop.invariant.bytes w.in-Err.ensures.bytes));
      }
    ]
