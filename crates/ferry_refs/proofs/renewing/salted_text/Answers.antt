use Rattle.std.proofs.Common.{rules, ◌≡◌, length, refl}
use Rattle.ferry_refs.proofs.renewing.salted_text.Goals as goal

pub returns-in-Ok-clause-renewal : goal.returns-in-Ok-clause-renewal
returns-in-Ok-clause-renewal c =
    let sized : length c.args.salt.now ≡ 64 = search rules in
    (record { salt = c.args.salt.now; sized = sized; text_is = c.in-Ok.ensures.text; reads = c.in-Ok.ensures.again }, refl)
