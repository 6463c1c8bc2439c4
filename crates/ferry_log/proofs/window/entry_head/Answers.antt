use Rattle.std.proofs.Common.{◌≡◌, ◌∙◌, ◌+◌, ◌-◌, sym, ap, length, drop, Some, arith}
use Rattle.std.proofs.lemmas.List.{length-drop}
use Rattle.ferry_disk.specs.Files.{segment_bytes}
use Rattle.ferry_log.specs.Window.{sum_between}
use Rattle.ferry_log.proofs.WindowLemmas.{tells_on, window_on, window_back, part_is, sum_entry}
use Rattle.ferry_log.proofs.window.entry_head.Goals as goal

pub returns-in_default-clause-read : goal.returns-in_default-clause-read
returns-in_default-clause-read g c files tells is =
    let bytes = segment_bytes files c.args.window.now.segment in
    let reached = c.in_ok-reach.ensures in
    let now = reached.window files tells is in
    let holds = reached.holds now.0 in
    let part = part_is bytes c.reach.new.window c.args.at _ c.part_of.result.now now.1 holds.0 (omega (arith, holds.1)) c.part_of.ensures in
    let left : length (drop c.args.at bytes) ≡ c.args.window.now.size - c.args.at = length-drop c.args.at bytes ∙ ap (λ n. n - c.args.at) (sym is.sized) in
    (c.in_default.field-0, c.in_default.ensures.stated (drop c.args.at bytes) left part)

pub returns-in-Ok-check-clause-read : goal.returns-in-Ok-check-clause-read
returns-in-Ok-check-clause-read g c files tells is =
    let bytes = segment_bytes files c.args.window.now.segment in
    let reached = c.in_ok-reach.ensures in
    let now = reached.window files tells is in
    let holds = reached.holds now.0 in
    let part = part_is bytes c.reach.new.window c.args.at _ c.part_of.result.now now.1 holds.0 (omega (arith, holds.1)) c.part_of.ensures in
    let left : length (drop c.args.at bytes) ≡ c.args.window.now.size - c.args.at = length-drop c.args.at bytes ∙ ap (λ n. n - c.args.at) (sym is.sized) in
    let stated = c.in-Ok.ensures.stated (drop c.args.at bytes) left part in
    let tells_now = tells_on (g.S.Shelf.told c.args.shelf.now) (g.S.Shelf.told c.reach.new.shelf) files reached.same tells in
    let sums = c.in_ok-sum.ensures.sum files tells_now (window_on files c.args.window.now c.reach.new.window c.reach.new.window reached.segment now.1) in
    let own : Some c.in-Some.sum ≡ Some (sum_between bytes (c.args.at + 4) (c.args.at + c.in-Ok.stated.head.size)) =
    sym c.in-Some.is ∙ (sums.0
    ∙ (ap (λ s. Some (sum_between (segment_bytes files s) (c.args.at + 4) (c.args.at + c.from.result))) reached.segment.0
    ∙ ap (λ n. Some (sum_between bytes (c.args.at + 4) (c.args.at + n))) c.from.ensures)) in
    let sum = sum_entry bytes c.args.at c.in-Ok.stated.head.size c.in-Some.sum (omega (arith, c.in-Ok.ensures.within.0)) own in (
      c.in-Ok-check.ensures.decided bytes c.args.at
          (omega (arith, is.sized)) stated sum,
      window_back files c.args.window.now c.reach.new.window c.checksum.new.window reached.segment sums.1,
    )

pub returns-in-Err-clause-read : goal.returns-in-Err-clause-read
returns-in-Err-clause-read g c files tells is =
    let bytes = segment_bytes files c.args.window.now.segment in
    let reached = c.in_ok-reach.ensures in
    let now = reached.window files tells is in
    let holds = reached.holds now.0 in
    let part = part_is bytes c.reach.new.window c.args.at _ c.part_of.result.now now.1 holds.0 (omega (arith, holds.1)) c.part_of.ensures in
    let left : length (drop c.args.at bytes) ≡ c.args.window.now.size - c.args.at = length-drop c.args.at bytes ∙ ap (λ n. n - c.args.at) (sym is.sized) in
    let stated = c.in-Ok.ensures.stated (drop c.args.at bytes) left part in
    let tells_now = tells_on (g.S.Shelf.told c.args.shelf.now) (g.S.Shelf.told c.reach.new.shelf) files reached.same tells in
    let sums = c.in_ok-sum.ensures.sum files tells_now (window_on files c.args.window.now c.reach.new.window c.reach.new.window reached.segment now.1) in
    let own : Some c.in-Some.sum ≡ Some (sum_between bytes (c.args.at + 4) (c.args.at + c.in-Ok.stated.head.size)) =
    sym c.in-Some.is ∙ (sums.0
    ∙ (ap (λ s. Some (sum_between (segment_bytes files s) (c.args.at + 4) (c.args.at + c.from.result))) reached.segment.0
    ∙ ap (λ n. Some (sum_between bytes (c.args.at + 4) (c.args.at + n))) c.from.ensures)) in
    let sum = sum_entry bytes c.args.at c.in-Ok.stated.head.size c.in-Some.sum (omega (arith, c.in-Ok.ensures.within.0)) own in
    (c.in-Err.field-0, c.in-Err.ensures.decided bytes c.args.at (omega (arith, is.sized)) stated sum)
