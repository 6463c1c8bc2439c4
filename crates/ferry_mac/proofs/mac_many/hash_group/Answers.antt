use Rattle.std.proofs.Common.{◌≡◌, ◌<◌, ◌+◌, ◌-◌, [], slice_index, slice_index_or, sym, ap, ◌∙◌, arith}
use Rattle.sha2.specs.Sha256.{digest_bytes, hash_after}
use Rattle.ferry_mac.specs.Lanes.{behind_key, hashed_behind, lane, nth_text}
use Rattle.ferry_mac.specs.Many.{text_of}
use Rattle.ferry_mac.proofs.mac_many.hash_group.Goals as goal

pub returns-clause-digests : goal.returns-clause-digests
unfolding hash_after
returns-clause-digests g c h first k from_at below low =
    let texts = c.args.texts.now in
    let lanes = c.lanes_from-lanes.result in
    let l = k - c.args.at in
    let inside : l < g.row.N = omega arith in
    let here : c.args.at + l ≡ k = omega arith in
    let place : slice_index lanes.places l ≡ k = c.lanes_from-lanes.ensures.places l inside ∙ here in
    let begun : lane c.args.start.now l ≡ hash_after h (behind_key (text_of texts lanes l)) (slice_index lanes.done l) =
    first l inside ∙ sym (ap (hash_after h (behind_key (text_of texts lanes l))) (c.lanes_from-lanes.ensures.none l inside)) in
    let hash : lane c.finished-last.result l ≡ hashed_behind h (nth_text texts k) =
    c.finished-last.ensures h l inside begun ∙ ap (λ k. hashed_behind h (nth_text texts k)) place in
    ap (λ k. slice_index_or c.put_group.new.digests k []) (sym here) ∙ c.put_group.ensures.put l inside (omega arith) ∙ ap (λ s. digest_bytes s 8) hash
