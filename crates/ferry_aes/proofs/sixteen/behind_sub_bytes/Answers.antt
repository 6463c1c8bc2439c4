use Rattle.ferry_aes.specs.Planes.{half}
use Rattle.ferry_aes.proofs.PlanesLemmas.{state_at-shift_rows, state_at-mix_columns, state_at-add_round_key}
use Rattle.ferry_aes.proofs.sixteen.behind_sub_bytes.Goals as goal

pub returns : goal.returns
returns c w n h i side key block =
    let b = state_at-shift_rows (half h c.args.subbed.now) (half h c.turned-shifted.result) i (λ j l. c.turned-shifted.ensures h j i side l) in
    let d = state_at-mix_columns (half h c.turned-shifted.result) (half h c.mixed-mixed_state.result) i (λ j l. c.mixed-mixed_state.ensures h j i side l) in
    let e = state_at-add_round_key w n (half h c.mixed-mixed_state.result) (half h c.args.key.now) (half h c.added.result) i key block
    (λ j l. c.added.ensures h j i side l) in
    cc
