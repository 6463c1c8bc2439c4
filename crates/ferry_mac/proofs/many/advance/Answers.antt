use Rattle.std.proofs.Common.{◌≡◌, ◌+◌, ◌∙◌, ap, slice_index, arith}
use Rattle.sha2.specs.Sha256.{hash_after}
use Rattle.ferry_mac.specs.Lanes.{behind_key}
use Rattle.ferry_mac.specs.Many.{text_of}
use Rattle.ferry_mac.proofs.ManyLemmas.{lane_on}
use Rattle.ferry_mac.proofs.many.advance.Goals as goal

pub returns-clause-lanes : goal.returns-clause-lanes
returns-clause-lanes g c l inside =
    lane_on c.args.texts.now c.args.lanes.now c.count_blocks.new.lanes c.args.count l (c.requires.lanes l inside)
    c.count_blocks.ensures.places c.count_blocks.ensures.ends (c.count_blocks.ensures.done l inside) (c.count_blocks.ensures.left l inside)

pub returns-clause-hash : goal.returns-clause-hash
returns-clause-hash g c start l inside held =
    let lanes = c.args.lanes.now in
    let done : slice_index lanes.done l + c.args.count ≡ slice_index c.count_blocks.new.lanes.done l =
    omega (arith, c.count_blocks.ensures.done l inside) in
    rw c.count_blocks.ensures.places (c.run-next.ensures start l inside held
    ∙ ap (hash_after start (behind_key (text_of c.args.texts.now lanes l))) done)
