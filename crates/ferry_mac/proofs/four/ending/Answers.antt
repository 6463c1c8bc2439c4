use Rattle.std.proofs.Common.{◌-◌, ◌*◌, ◌/◌, length, drop, arith, take_all, length-drop}
use Rattle.ferry_mac.proofs.EndingLemmas.{ending_by_parts}
use Rattle.ferry_mac.proofs.four.ending.Goals as goal
use Rattle.ferry_mac.proofs.four.ending.Goals.{then-rest-lt56, else-rest-lt56}

pub returns : goal.returns
returns c =
    let text = c.args.text.now in
    let whole = length text / 64 * 64 in
    ending_by_parts text _ c.marked.result c.with_length.result c.if-rest-lt56.len _
    (take_all (length text - whole) (drop whole text) (omega (arith, length-drop whole text)))
    c.marked.ensures c.with_length.ensures (omega arith)
    (λ short. elim c.if-rest-lt56.branch [
      | then-rest-lt56 w ↦ w.len-is
      | else-rest-lt56 w ↦ absurd (omega (arith, w.if-rest-lt56.false))
    ])
    (λ long. elim c.if-rest-lt56.branch [
      | then-rest-lt56 w ↦ absurd (omega (arith, w.if-rest-lt56.true))
      | else-rest-lt56 w ↦ w.len-is
    ])
