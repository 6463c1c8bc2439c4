use Rattle.std.proofs.Common.{◌≡◌, ℕ, ◌∙◌, ap, length, take, arith}
use Rattle.std.proofs.lemmas.List.{length-take, length-drop}
use Rattle.ferry_disk.specs.Files.{segment_bytes}
use Rattle.ferry_log.proofs.WindowLemmas.{part_is, magic_told}
use Rattle.ferry_log.proofs.window.has_magic.Goals as goal

pub returns-clause-magic : goal.returns-clause-magic
returns-clause-magic g c files tells is =
    let bytes = segment_bytes files c.args.window.now.segment in
    let now = c.in_ok-reach.ensures.window files tells is in
    let holds = c.in_ok-reach.ensures.holds now.0 in
    let sized : length c.part_of.result.now ≡ 8 = omega (arith, ap length c.part_of.ensures, length-take {A = ℕ}, length-drop {A = ℕ}, holds.0, holds.1) in
    let part = part_is bytes c.reach.new.window 0 8 c.part_of.result.now now.1 holds.0 (omega (arith, holds.1)) c.part_of.ensures in
    (magic_told bytes c.part_of.result.now c.starts_with.result (part ∙ ap (λ n. take n bytes) sized) c.starts_with.ensures.value, now.1)
