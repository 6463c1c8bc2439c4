use Rattle.std.proofs.Common.{slice_index, sym, subst, inl, inr}
use Rattle.std.proofs.lemmas.Bool.Decides.{eqb_tells}
use Rattle.ferry_mac.specs.Many.{IsInLane}
use Rattle.ferry_mac.proofs.ManyLemmas.{begun_hash}
use Rattle.ferry_mac.proofs.many.begin.Goals as goal

pub returns-clause-lanes : goal.returns-clause-lanes
returns-clause-lanes g c j low = elim (eqb_tells j c.args.l) [
  | inl same ↦ subst (λ j. IsInLane c.args.texts.now c.set_text.new.lanes j) (sym (same.1)) c.set_text.ensures.lane
  | inr apart ↦ c.set_text.ensures.lanes j (apart.1) (c.requires.lanes j low)
]

pub returns-clause-hash : goal.returns-clause-hash
returns-clause-hash g c h j low first held =
    begun_hash h c.args.texts.now c.args.lanes.now c.set_text.new.lanes c.args.start.now c.args.state.now c.kept-next.result c.args.l
    (slice_index c.only.result j) j c.set_text.ensures.none (c.set_text.ensures.done j) (c.set_text.ensures.places j)
    (c.only.ensures j low) (c.kept-next.ensures j low) first held
