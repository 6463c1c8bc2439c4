use Rattle.std.proofs.Common.{◌≡◌, ◌-◌, arith, ap, ◌∙◌}
use Rattle.ferry_aes.specs.State.{state_of}
use Rattle.ferry_aes.specs.Cipher.{round, after_round, cipher}
use Rattle.ferry_aes.specs.Planes.{state_at, half}
use Rattle.ferry_aes.proofs.PlanesLemmas.{block_at-transposed, after_round_next}
use Rattle.ferry_aes.proofs.HalvesLemmas.{transposed-half}
use Rattle.ferry_aes.proofs.sixteen.finished.Goals as goal

pub loop-number-init : goal.loop-number-init
unfolding after_round round
loop-number-init c w input h i keys side block known =
    let b = c.behind_sub_bytes-state.ensures w 1 h i side (keys 1 h (omega arith) side) block in
    cc

pub loop-number-preserved : goal.loop-number-preserved
loop-number-preserved c w input h i keys side block known =
    let before = c.loop-number.invariant w input h i keys side block known in
    let next = c.full_round-next.ensures w c.loop-number.number h i side (keys c.loop-number.number h (omega arith) side) block in
    after_round_next w (state_of input) _ _ c.loop-number.number (omega arith) before next

pub returns : goal.returns
unfolding cipher
returns c w input h i keys side block known =
    let before = c.loop-number.invariant w input h i keys side block known in
    let last = c.final_round-last.ensures w h i side (keys 14 h (omega arith) side) block in
    let out = block_at-transposed (half h c.transposed.result) (half h c.final_round-last.result)
    (transposed-half c.transposed.result c.final_round-last.result h side c.transposed.ensures) i block in
    let e : c.loop-number.number - 1 ≡ 13 = omega arith in
    let f : state_at (half h c.loop-number.state) i ≡ after_round w (state_of input) 13 = before ∙ ap (after_round w (state_of input)) e in
    cc
