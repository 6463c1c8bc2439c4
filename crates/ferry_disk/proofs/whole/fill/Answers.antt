use Rattle.std.proofs.Common.{◌∙◌, drop, arith}
use Rattle.std.proofs.lemmas.List.{length-take-le, length-drop}
use Rattle.ferry_disk.proofs.WholeLemmas.{told_more}
use Rattle.ferry_disk.proofs.whole.fill.Goals as goal

pub loop-filled-preserved : goal.loop-filled-preserved
loop-filled-preserved g c =
    let old = c.loop-filled.invariant in
    let read = c.in_ok-count.ensures in
    record {
      within = omega (arith, read.within);
      front = told_more (g.S.Shelf.told c.args.shelf.now) (g.S.Shelf.told c.loop-filled.shelf) c.args.name c.args.at c.loop-filled.filled
          c.in_ok-count.count c.loop-filled.into _ c.read_at.new.into old.same old.within
          (length-take-le _ (drop c.loop-filled.filled c.loop-filled.into) (omega (arith, length-drop c.loop-filled.filled c.loop-filled.into)))
          old.front read.bytes;
      same = read.same ∙ old.same;
      faults = read.cause ∙ old.faults;
    }
