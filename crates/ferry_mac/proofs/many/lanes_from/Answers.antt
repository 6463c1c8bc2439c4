use Rattle.std.proofs.Common.{◌≡◌, ◌+◌, slice_index, sym, subst, ◌∙◌, arith, inl, inr}
use Rattle.std.proofs.lemmas.Bool.Decides.{eqb_tells}
use Rattle.ferry_mac.specs.Many.{IsInLane}
use Rattle.ferry_mac.proofs.many.lanes_from.Goals as goal

pub loop-l-preserved : goal.loop-l-preserved
loop-l-preserved g c =
    let at = c.args.at in
    let lanes = c.set_text.new.lanes in
    record {
      lanes = λ j low. elim (eqb_tells j c.loop-l.l) [
        | inl same ↦ subst (λ j. IsInLane c.args.texts.now lanes j) (sym (same.1)) c.set_text.ensures.lane
        | inr apart ↦ c.set_text.ensures.lanes j (apart.1) (c.loop-l.invariant.lanes j (omega (arith, low, apart.1)))
      ];
      places = λ j low. elim (eqb_tells j c.loop-l.l) [
        | inl same ↦ subst (λ j. slice_index lanes.places j ≡ at + j) (sym (same.1)) c.set_text.ensures.place
        | inr apart ↦ c.set_text.ensures.places j (apart.1) ∙ c.loop-l.invariant.places j (omega (arith, low, apart.1))
      ];
      none = λ j low. elim (eqb_tells j c.loop-l.l) [
        | inl same ↦ subst (λ j. slice_index lanes.done j ≡ 0) (sym (same.1)) c.set_text.ensures.none
        | inr apart ↦ c.set_text.ensures.done j (apart.1) ∙ c.loop-l.invariant.none j (omega (arith, low, apart.1))
      ];
    }
