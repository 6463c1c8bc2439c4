use Rattle.std.proofs.Common.{arith}
use Rattle.ferry_aes.proofs.PlanesLemmas.{state_at-transposed, state_at-add_round_key, state_at-sub_bytes}
use Rattle.ferry_aes.proofs.eight.first_substituted.Goals as goal

pub returns : goal.returns
returns c w i keys block =
    let a = state_at-transposed c.transposed-into.result c.args.rows.now c.transposed-into.ensures i block in
    let b = state_at-add_round_key w 0 c.transposed-into.result _ c.added-state.result i (keys 0 (omega arith)) block (λ j l. c.added-state.ensures j i l) in
    let d = state_at-sub_bytes c.added-state.result c.substituted_planes.result i (λ j l. c.substituted_planes.ensures j i l block) in
    cc
