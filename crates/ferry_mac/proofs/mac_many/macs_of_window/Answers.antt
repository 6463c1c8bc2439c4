use Rattle.std.proofs.Common.{slice_index_or, [], sym, ◌∙◌, arith}
use Rattle.ferry_mac.specs.Lanes.{nth_text}
use Rattle.ferry_mac.proofs.FourLemmas.{hmac_by_behind}
use Rattle.ferry_mac.proofs.ManyLemmas.{macs_by_each}
use Rattle.ferry_mac.proofs.mac_many.macs_of_window.Goals as goal

pub returns-then-is_even : goal.returns-then-is_even
returns-then-is_even c =
    let key = c.args.key.now in
    let texts = c.args.texts.now in
    let inner = c.requires.inner in
    let outer = c.requires.outer in
    record {
      macs = macs_by_each key texts _ (omega (arith, c.finish_macs.ensures.size, c.hash_by_groups.ensures.size))
          (λ k low. hmac_by_behind key (nth_text texts k) _ _ (slice_index_or c.hash_by_groups.new.digests k [])
          (slice_index_or c.finish_macs.new.macs k []) (inner 0 (omega arith)) (outer 0 (omega arith))
          (c.hash_by_groups.ensures.digests _ (λ l inside. inner l inside ∙ sym (inner 0 (omega arith))) k low)
          (c.finish_macs.ensures.digests _ (λ l inside. outer l inside ∙ sym (outer 0 (omega arith))) k
          (omega (arith, low, c.hash_by_groups.ensures.size))));
    }

pub returns-else-is_even : goal.returns-else-is_even
returns-else-is_even c = record {
  macs = macs_by_each c.args.key.now c.args.texts.now _ (omega (arith, c.macs_by_order.ensures.size)) c.macs_by_order.ensures.macs;
}
