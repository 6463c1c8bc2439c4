use Rattle.std.proofs.Common.{rules, ap, sym, ◌∙◌, refl, arith}
use Rattle.std.specs.Int.{w32, to_be_bytes}
use Rattle.std.proofs.lemmas.Slice.{overwrites}
use Rattle.sha2.specs.Sha256.{digest_bytes}
use Rattle.sha2.proofs.Absorbing256.{digest_more}
use Rattle.ferry_mac.specs.Lanes.{lane}
use Rattle.ferry_mac.proofs.LaneLemmas.{slice_index-lane}
use Rattle.ferry_mac.proofs.four.digest.Goals as goal

pub loop-i-init : goal.loop-i-init
unfolding digest_bytes
loop-i-init g c = (refl, refl)

pub loop-i-preserved : goal.loop-i-preserved
loop-i-preserved g c = (
  search (rules, overwrites),
  digest_more c.loop-i.out (lane c.args.state.now c.args.place) _ c.loop-i.i _ c.loop-i.invariant.1 (omega (arith, c.loop-i.invariant.0))
      (c.copy_from_slice.ensures.after ∙ c.to_be_bytes.ensures
      ∙ ap (to_be_bytes w32) (sym (slice_index-lane c.args.state.now c.args.place c.loop-i.i (omega arith)))),
)
