use Rattle.std.proofs.Common.{◌≡◌, ◌∙◌}
use Rattle.ferry_disk.specs.Files.{segment_numbers}
use Rattle.ferry_log.specs.State.{IsStateOf}
use Rattle.ferry_log.specs.Fault.{IsRefused}
use Rattle.ferry_log.proofs.OpeningLemmas.{ok_told, err_told}
use Rattle.ferry_log.proofs.WindowLemmas.{tells_on, of_told}
use Rattle.ferry_log.proofs.log.open_log.Goals as goal

pub returns-clause-log : goal.returns-clause-log
returns-clause-log g c =
    let read = c.in_ok-numbers.ensures in
    let told = g.S.Shelf.told c.args.shelf.now in
    ok_told c.open_segments.result told IsStateOf IsRefused (λ files tells.
    c.open_segments.ensures.opened files (tells_on told (g.S.Shelf.told c.segments.new.self) files read.same tells)
    (c.deref.ensures.value ∙ of_told told (λ f. c.in_ok-numbers.numbers.items ≡ segment_numbers f) files tells read.numbers))

pub returns-clause-refused : goal.returns-clause-refused
returns-clause-refused g c =
    let read = c.in_ok-numbers.ensures in
    let told = g.S.Shelf.told c.args.shelf.now in
    err_told c.open_segments.result told IsStateOf IsRefused (λ files tells.
    c.open_segments.ensures.opened files (tells_on told (g.S.Shelf.told c.segments.new.self) files read.same tells)
    (c.deref.ensures.value ∙ of_told told (λ f. c.in_ok-numbers.numbers.items ≡ segment_numbers f) files tells read.numbers))
