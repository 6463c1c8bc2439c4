use Rattle.std.proofs.Common.{◌≡◌, ◌<◌, ◌/◌, length, slice_index, sym, ap, ◌∙◌, arith}
use Rattle.sha2.specs.Sha256.{digest_bytes, hash_after}
use Rattle.ferry_mac.specs.Lanes.{behind_key, hashed_behind, lane}
use Rattle.ferry_mac.specs.Many.{text_of}
use Rattle.ferry_mac.proofs.ManyLemmas.{covered_on}
use Rattle.ferry_mac.proofs.many.take_text.Goals as goal

pub returns-clause-covered : goal.returns-clause-covered
returns-clause-covered g c h hashed k low covered =
    let texts = c.args.texts.now in
    let l = c.soonest-l.result in
    let lanes = c.advance.new.lanes in
    let inside : l < g.row.N = c.soonest-l.ensures.lane in
    let none : slice_index lanes.lefts l ≡ 0 = omega (arith, c.advance.ensures.left l inside) in
    let text = text_of texts lanes l in
    let all : slice_index lanes.done l ≡ length (behind_key text) / 64 = omega (arith, (c.advance.ensures.lanes l inside).count) in
    let hash : lane c.advance.new.state l ≡ hashed_behind h text =
    c.advance.ensures.hash h l inside (hashed l inside) ∙ ap (hash_after h (behind_key text)) all in
    covered_on g.row.N h texts lanes.places c.begin.new.lanes.places c.args.digests.now c.put_digest.new.digests l (omega arith)
    (λ room. c.put_digest.ensures.put room ∙ ap (λ s. digest_bytes s 8) hash) c.put_digest.ensures.others c.begin.ensures.others k low
    (rw (sym c.advance.ensures.places) at covered)
