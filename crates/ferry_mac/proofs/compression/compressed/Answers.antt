use Rattle.std.proofs.Common.{◌≡◌, ◌+◌, ◌*◌, refl, ap, ◌∙◌, arith}
use Rattle.sha2.specs.Sha256.{add_state, compress, rounds, schedule}
use Rattle.ferry_mac.specs.Lanes.{lane}
use Rattle.ferry_mac.proofs.compression.compressed.Goals as goal

pub loop-turn-init : goal.loop-turn-init
unfolding rounds
loop-turn-init g c k block inside words = refl

pub loop-turn-preserved : goal.loop-turn-preserved
loop-turn-preserved g c k block inside words =
    let h = lane c.args.state.now k in
    let four : 4 * c.loop-turn.turn + 4 ≡ 4 * (c.loop-turn.turn + 1) = omega arith in
    c.four_rounds-next.ensures k h block inside (c.extend_schedule.ensures.words k block inside words) (c.loop-turn.invariant k block inside words)
    ∙ ap (rounds h (schedule block 48)) four

pub returns-clause-hash : goal.returns-clause-hash
unfolding compress
returns-clause-hash g c l block inside words =
    let h = lane c.args.state.now l in
    let done : 4 * c.loop-turn.turn ≡ 64 = omega arith in
    c.added.ensures l inside ∙ ap (add_state h) (c.loop-turn.invariant l block inside words ∙ ap (rounds h (schedule block 48)) done)
