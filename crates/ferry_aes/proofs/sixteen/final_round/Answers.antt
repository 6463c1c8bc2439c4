use Rattle.std.proofs.Common.{◌+◌, ◌*◌, arith}
use Rattle.ferry_aes.specs.SBox.{sbox}
use Rattle.ferry_aes.specs.Cipher.{last_round}
use Rattle.ferry_aes.specs.Planes.{half}
use Rattle.ferry_aes.proofs.PlanesLemmas.{state_at-sub_bytes, state_at-shift_rows, state_at-add_round_key}
use Rattle.ferry_aes.proofs.HalvesLemmas.{half-one}
use Rattle.ferry_aes.proofs.sixteen.final_round.Goals as goal

pub returns : goal.returns
unfolding last_round
returns c w h i side key block =
    let a = state_at-sub_bytes (half h c.args.state.now) (half h c.substituted_planes-subbed.result) i
    (λ j l. half-one sbox c.args.state.now _ h j i l (c.substituted_planes-subbed.ensures (16 * h + j) i (omega arith) block)) in
    let b = state_at-shift_rows (half h c.substituted_planes-subbed.result) (half h c.turned-shifted.result) i (λ j l. c.turned-shifted.ensures h j i side l) in
    let e = state_at-add_round_key w 14 (half h c.turned-shifted.result) (half h c.args.key.now) (half h c.added.result) i key block
    (λ j l. c.added.ensures h j i side l) in
    cc
