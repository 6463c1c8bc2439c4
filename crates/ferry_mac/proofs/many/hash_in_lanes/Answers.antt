use Rattle.std.proofs.Common.{refl, sym, ap, ◌∙◌, slice_index, arith, below_more}
use Rattle.sha2.specs.Sha256.{hash_after}
use Rattle.ferry_mac.specs.Lanes.{behind_key}
use Rattle.ferry_mac.specs.Many.{IsCovered, text_of}
use Rattle.ferry_mac.proofs.many.hash_in_lanes.Goals as goal

pub loop-turn-init : goal.loop-turn-init
unfolding hash_after
loop-turn-init g c = record {
  size = refl;
  lanes = c.lanes_from-lanes.ensures.lanes;
  hash = λ h first k inside.
      first k inside
      ∙ sym (ap (hash_after h (behind_key (text_of c.args.texts.now c.lanes_from-lanes.result k))) (c.lanes_from-lanes.ensures.none k inside));
  covered = λ h first i low. absurd (omega arith);
}

pub loop-turn-preserved : goal.loop-turn-preserved
loop-turn-preserved g c = record {
  size = c.take_text.ensures.size ∙ c.loop-turn.invariant.size;
  lanes = c.take_text.ensures.lanes;
  hash = λ h first. c.take_text.ensures.hash h first (c.loop-turn.invariant.hash h first);
  covered = λ h first.
      below_more
      (λ i. IsCovered g.row.N h c.args.texts.now c.take_text.new.lanes.places c.take_text.new.digests (slice_index c.args.order.now i))
      c.loop-turn.turn
      (λ i low.
      c.take_text.ensures.covered h (c.loop-turn.invariant.hash h first) _ (c.requires.places i (omega arith)) (c.loop-turn.invariant.covered h first i low))
      (c.take_text.ensures.taken h);
}
