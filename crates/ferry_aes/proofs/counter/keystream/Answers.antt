use Rattle.std.proofs.Common.{◌≡◌, sym, subst}
use Rattle.ferry_aes.specs.Planes.{AreRoundKeys}
use Rattle.ferry_aes.proofs.counter.keystream.Goals as goal

pub returns : goal.returns
returns c =
    let view : c.args.schedule.now ≡ c.schedule.inside.words = cc in
    let keys : AreRoundKeys c.args.schedule.now c.round_keys-keys.result = subst (λ w. AreRoundKeys w c.round_keys-keys.result)
    (sym view) c.round_keys-keys.ensures in
    record { stream = c.stream_of.ensures c.args.schedule.now keys }
