use Rattle.ferry_aes.specs.Cipher.{round}
use Rattle.ferry_aes.proofs.PlanesLemmas.{state_at-sub_bytes}
use Rattle.ferry_aes.proofs.eight.full_round.Goals as goal

pub returns : goal.returns
unfolding round
returns c w n i key block =
    let a = state_at-sub_bytes c.args.state.now c.substituted_planes-subbed.result i (λ j l. c.substituted_planes-subbed.ensures j i l block) in
    let b = c.behind_sub_bytes.ensures w n i key block in
    cc
