use Rattle.std.proofs.Common.{◌≡◌, ◌+◌, ◌-◌, length, take, drop, slice_index, subst, ap, ◌∙◌, arith, inl, inr}
use Rattle.std.proofs.lemmas.Bool.{cases_lt}
use Rattle.std.proofs.lemmas.List.{get_or-drop, get_or-take, length-drop, length-take}
use Rattle.ferry_mac.specs.Many.{HasMac}
use Rattle.ferry_mac.proofs.mac_many.macs_by_order.Goals as goal

pub returns-clause-macs : goal.returns-clause-macs
returns-clause-macs c k low =
    let key = c.args.key.now in
    let texts = c.args.texts.now in
    let order = c.longest_first-order.result in
    let alone = c.alone_count-alone.result in
    let n = length texts in
    let long : length order ≡ 64 = omega arith in
    let place = c.longest_first-order.ensures.each.each k low in
    let i = place.0 in
    elim (cases_lt i alone) [
      | inl before ↦
          let is : slice_index (take alone order) i ≡ k = get_or-take alone order i 0 before ∙ place.2 in
          subst (λ k. HasMac key texts c.macs_alone.new.macs k) is (c.macs_alone.ensures.macs i (omega (arith, length-take alone order, place.1)))
      | inr behind ↦
          let here : alone + (i - alone) ≡ i = omega arith in
          let is : slice_index (take (n - alone) (drop alone order)) (i - alone) ≡ k =
          get_or-take (n - alone) (drop alone order) (i - alone) 0 (omega (arith, place.1)) ∙ get_or-drop alone order (i - alone) 0
          ∙ ap (slice_index order) here ∙ place.2 in
          c.macs_alone.ensures.kept k (subst (λ k. HasMac key texts c.macs_in_lanes.new.macs k) is
          (c.macs_in_lanes.ensures.macs key c.requires.inner c.requires.outer (i - alone)
          (omega (arith, length-take (n - alone) (drop alone order), length-drop alone order, place.1))))
    ]
