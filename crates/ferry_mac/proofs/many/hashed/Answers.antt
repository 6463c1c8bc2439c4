use Rattle.std.proofs.Common.{◌≡◌, slice_index, sym, ap, ◌∙◌, arith}
use Rattle.sha2.specs.Sha256.{hash_after}
use Rattle.ferry_mac.specs.Lanes.{behind_key, hashed_behind, lane, nth_text}
use Rattle.ferry_mac.specs.Many.{text_of}
use Rattle.ferry_mac.proofs.many.hashed.Goals as goal

pub returns : goal.returns
unfolding hash_after
returns g c l inside =
    let start = lane c.args.start.now l in
    let lanes = c.lanes_from.result in
    let place : slice_index lanes.places l ≡ l = omega (arith, c.lanes_from.ensures.places l inside) in
    c.finished.ensures start l inside (sym (ap (hash_after start (behind_key (text_of c.args.texts.now lanes l))) (c.lanes_from.ensures.none l inside)))
    ∙ ap (λ k. hashed_behind start (nth_text c.args.texts.now k)) place
