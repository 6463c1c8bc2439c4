use Rattle.std.proofs.Common.{◌≡◌, ◌-◌, suc, length, replicate, refl, arith}
use Rattle.std.proofs.lemmas.List.{set_at}
use Rattle.ferry_mac.proofs.four.marked.Goals as goal

pub returns : goal.returns
returns c =
    let rest = c.args.rest.now in
    let one : 128 - length rest ≡ suc (127 - length rest) = omega arith in
    rw (c.begun-end.ensures, one) (set_at rest 0 (replicate (127 - length rest) 0) 0x80 (length rest) refl)
