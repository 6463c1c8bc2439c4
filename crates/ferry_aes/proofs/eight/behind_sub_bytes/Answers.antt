use Rattle.ferry_aes.proofs.PlanesLemmas.{state_at-shift_rows, state_at-mix_columns, state_at-add_round_key}
use Rattle.ferry_aes.proofs.eight.behind_sub_bytes.Goals as goal

pub returns : goal.returns
returns c w n i key block =
    let b = state_at-shift_rows c.args.subbed.now c.turned-shifted.result i (λ j l. c.turned-shifted.ensures j i l) in
    let d = state_at-mix_columns c.turned-shifted.result c.mixed-mixed_state.result i (λ j l. c.mixed-mixed_state.ensures j i l) in
    let e = state_at-add_round_key w n c.mixed-mixed_state.result c.args.key.now c.added.result i key block (λ j l. c.added.ensures j i l) in
    cc
