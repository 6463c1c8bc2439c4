use Rattle.std.proofs.Common.{◌≡◌, ◌∙◌}
use Rattle.ferry_disk.specs.Files.{segment_numbers}
use Rattle.ferry_blocks.proofs.SegmentLemmas.{tells_on, of_told, ended_told, ended_all}
use Rattle.ferry_blocks.proofs.end.blocks_end.Goals as goal

pub returns-clause-end : goal.returns-clause-end
returns-clause-end g c =
    let told = g.S.Shelf.told c.args.shelf.now in
    let listed = c.in_ok-numbers.ensures in
    let numbers = c.deref.result.now in
    ended_told told c.end_in_segments.result (λ files tells.
    let tells_now = tells_on told (g.S.Shelf.told c.segments.new.self) files listed.same tells in
    let same = c.deref.ensures.value ∙ of_told told (λ files. c.in_ok-numbers.numbers.items ≡ segment_numbers files) files tells listed.numbers in
    ended_all files numbers c.end_in_segments.result same (c.end_in_segments.ensures.end files tells_now))
