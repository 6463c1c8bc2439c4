use Rattle.std.proofs.Common.{ℕ, ◌∙◌, ap, length, refl, arith}
use Rattle.std.proofs.lemmas.List.{length-take, length-drop}
use Rattle.ferry_disk.specs.Files.{segment_bytes}
use Rattle.ferry_log.proofs.WindowLemmas.{tells_on, window_on, window_back, part_is, sum_none, sum_more}
use Rattle.ferry_log.proofs.window.checksum.Goals as goal

pub loop-at-init : goal.loop-at-init
loop-at-init g c = record {
  forward = omega arith;
  inside = c.requires.forward;
  segment = (refl, refl);
  sum = λ files tells is. (sum_none (segment_bytes files c.args.window.now.segment) c.args.from, is);
  same = refl;
  faults = refl;
}

pub loop-at-preserved : goal.loop-at-preserved
loop-at-preserved g c =
    let old = c.loop-at.invariant in
    let reached = c.in_ok-reach.ensures in
    let sized = ap length c.part_of-part.ensures in
    record {
      forward = omega (arith, old.forward);
      inside = omega (arith, sized, length-take {A = ℕ}, length-drop {A = ℕ}, old.inside);
      segment = (reached.segment.0 ∙ old.segment.0, reached.segment.1 ∙ old.segment.1);
      sum = λ files tells is.
          let before = old.sum files tells is in
          let tells_now = tells_on (g.S.Shelf.told c.args.shelf.now) (g.S.Shelf.told c.loop-at.shelf) files old.same tells in
          let now = reached.window files tells_now (window_on files c.args.window.now c.loop-at.window c.loop-at.window old.segment before.1) in
          let window = window_back files c.args.window.now c.loop-at.window c.reach.new.window old.segment now.1 in
          let holds = reached.holds now.0 in
          let part =
          part_is (segment_bytes files c.args.window.now.segment) c.reach.new.window c.loop-at.at c.args.to c.part_of-part.result.now window holds.0
          (omega (arith, holds.1)) c.part_of-part.ensures in (
            c.crc32_more-sum.ensures.joined _ before.0
                ∙ sum_more (segment_bytes files c.args.window.now.segment) c.part_of-part.result.now c.args.from c.loop-at.at old.forward part,
            window,
          );
      same = reached.same ∙ old.same;
      faults = reached.cause ∙ old.faults;
    }
