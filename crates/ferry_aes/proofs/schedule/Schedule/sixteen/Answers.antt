use Rattle.std.proofs.Common.{◌≡◌, ◌++◌, arith, sym, ◌∙◌, ap, subst}
use Rattle.std.proofs.lemmas.List.{take_all}
use Rattle.ferry_aes.specs.Planes.{AreRoundKeys, joined_blocks}
use Rattle.ferry_aes.proofs.CounterModeLemmas.{each_encrypted_by_eight}
use Rattle.ferry_aes.proofs.schedule.Schedule.sixteen.Goals as goal

pub returns : goal.returns
returns c =
    let w = c.args.self.now in
    let view : w ≡ c.self.inside.words = cc in
    let keys : AreRoundKeys w c.round_keys-keys.result = subst (λ w. AreRoundKeys w c.round_keys-keys.result) (sym view) c.round_keys-keys.ensures in
    let all = each_encrypted_by_eight w c.args.states.now c.eight_rows-low.result c.eight_rows-high.result c.eight_blocks-first.result
    c.eight_blocks-second.result c.eight_rows-low.ensures c.eight_rows-high.ensures (λ i l. c.eight_blocks-first.ensures w i keys l)
    (λ i l. c.eight_blocks-second.ensures w i keys l) in
    let whole = take_all 256 c.put_blocks-2.new.into (omega (arith, c.told-states, c.put_blocks.auto.into, c.put_blocks-2.auto.into)) in
    record { blocks = sym whole ∙ c.put_blocks-2.ensures ∙ ap (λ xs. xs ++ joined_blocks c.eight_blocks-second.result) c.put_blocks.ensures ∙ all }
