use Rattle.std.proofs.Common.{◌≡◌, ◌-◌, arith, ap, ◌∙◌}
use Rattle.ferry_aes.specs.State.{state_of}
use Rattle.ferry_aes.specs.Cipher.{round, after_round, cipher}
use Rattle.ferry_aes.specs.Planes.{state_at}
use Rattle.ferry_aes.proofs.PlanesLemmas.{block_at-transposed, after_round_next}
use Rattle.ferry_aes.proofs.eight.finished.Goals as goal

pub loop-number-init : goal.loop-number-init
unfolding after_round round
loop-number-init c w input i keys block known =
    let b = c.behind_sub_bytes-state.ensures w 1 i (keys 1 (omega arith)) block in
    cc

pub loop-number-preserved : goal.loop-number-preserved
loop-number-preserved c w input i keys block known =
    let before = c.loop-number.invariant w input i keys block known in
    let next = c.full_round-next.ensures w c.loop-number.number i (keys c.loop-number.number (omega arith)) block in
    after_round_next w (state_of input) _ _ c.loop-number.number (omega arith) before next

pub returns : goal.returns
unfolding cipher
returns c w input i keys block known =
    let before = c.loop-number.invariant w input i keys block known in
    let last = c.final_round-last.ensures w i (keys 14 (omega arith)) block in
    let out = block_at-transposed c.transposed.result c.final_round-last.result c.transposed.ensures i block in
    let e : c.loop-number.number - 1 ≡ 13 = omega arith in
    let f : state_at c.loop-number.state i ≡ after_round w (state_of input) 13 = before ∙ ap (after_round w (state_of input)) e in
    cc
