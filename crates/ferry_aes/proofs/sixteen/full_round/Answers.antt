use Rattle.std.proofs.Common.{◌+◌, ◌*◌, arith}
use Rattle.ferry_aes.specs.SBox.{sbox}
use Rattle.ferry_aes.specs.Cipher.{round}
use Rattle.ferry_aes.specs.Planes.{half}
use Rattle.ferry_aes.proofs.PlanesLemmas.{state_at-sub_bytes}
use Rattle.ferry_aes.proofs.HalvesLemmas.{half-one}
use Rattle.ferry_aes.proofs.sixteen.full_round.Goals as goal

pub returns : goal.returns
unfolding round
returns c w n h i side key block =
    let a = state_at-sub_bytes (half h c.args.state.now) (half h c.substituted_planes-subbed.result) i
    (λ j l. half-one sbox c.args.state.now _ h j i l (c.substituted_planes-subbed.ensures (16 * h + j) i (omega arith) block)) in
    let b = c.behind_sub_bytes.ensures w n h i side key block in
    cc
