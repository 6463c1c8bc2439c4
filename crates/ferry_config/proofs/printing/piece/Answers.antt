use Rattle.std.proofs.Common.{◌≤◌, ◌*◌, drop, length, sym, ◌∙◌, arith}
use Rattle.std.proofs.lemmas.List.{take_rest, take_all, length-drop}
use Rattle.ferry_config.proofs.printing.piece.Goals as goal

pub returns-else-text-start-gt-WIDTH : goal.returns-else-text-start-gt-WIDTH
returns-else-text-start-gt-WIDTH c =
    let text = c.args.text.now in
    let start = 70 * c.args.number in
    let short : length (drop start text) ≤ 70 = omega (arith, length-drop start text) in
    record { piece = take_rest text start ∙ sym (take_all 70 (drop start text) short) }
