use Rattle.std.proofs.Common.{[], slice_index, slice_index_or, arith, sym, ◌∙◌}
use Rattle.ferry_mac.specs.Lanes.{nth_text}
use Rattle.ferry_mac.proofs.FourLemmas.{hmac_by_behind}
use Rattle.ferry_mac.proofs.mac_many.macs_in_lanes.Goals as goal

pub returns-clause-macs : goal.returns-clause-macs
returns-clause-macs c key inner outer i low =
    let place = slice_index c.args.order.now i in
    hmac_by_behind key (nth_text c.args.texts.now place) _ _ (slice_index_or c.hash_by_order.new.digests place [])
    (slice_index_or c.finish_macs.new.macs place []) (inner 0 (omega arith)) (outer 0 (omega arith))
    (c.hash_by_order.ensures.digests _ (λ l inside. inner l inside ∙ sym (inner 0 (omega arith))) i low)
    (c.finish_macs.ensures.digests _ (λ l inside. outer l inside ∙ sym (outer 0 (omega arith))) place
    (omega (arith, c.requires.places i low, c.hash_by_order.ensures.size)))
