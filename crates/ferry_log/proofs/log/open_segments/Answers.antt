use Rattle.std.proofs.Common.{ap}
use Rattle.std.specs.FinMap.{from_entries}
use Rattle.ferry_log.specs.Live.{key_cmp}
use Rattle.ferry_log.proofs.OpeningLemmas.{err_matches}
use Rattle.ferry_log.proofs.StateLemmas.{state_of, damaged_of}
use Rattle.ferry_log.proofs.WindowLemmas.{tells_on}
use Rattle.ferry_log.proofs.log.open_segments.Goals as goal

pub returns-in_err-take_segments-clause-opened : goal.returns-in_err-take_segments-clause-opened
returns-in_err-take_segments-clause-opened g c files tells is =
    let end = c.in_ok-count.ensures in
    let fault = c.in_err-take_segments.field-0.0 in
    let tells_now = tells_on (g.S.Shelf.told c.args.shelf.now) (g.S.Shelf.told c.log_length.new.shelf) files end.same tells in
    err_matches c.from_residual-in_err-take_segments.result fault _ _ c.from_residual-in_err-take_segments.ensures.1
    (damaged_of files c.args.numbers.now c.in_ok-count.count fault end.within.0 end.within.1 c.requires is (end.end files tells)
    (c.in_err-take_segments.ensures.taken files tells_now))

pub returns-clause-opened : goal.returns-clause-opened
returns-clause-opened g c files tells is =
    let end = c.in_ok-count.ensures in
    let tells_now = tells_on (g.S.Shelf.told c.args.shelf.now) (g.S.Shelf.told c.log_length.new.shelf) files end.same tells in
    state_of files c.args.numbers.now c.in_ok-count.count c.take_segments.new.live.entries c.take_segments.new.extents.items
    c.with_live-extents.result.items (from_entries {R = key_cmp} c.new.result.entries)
    end.within.0 end.within.1 c.requires is (end.end files tells) (c.in_ok-take_segments.ensures.taken files tells_now)
    c.with_live-extents.ensures.counted c.with_live-extents.ensures.ordered (ap (from_entries {R = key_cmp}) c.new.ensures.empty)

pub returns-clause-learnt : goal.returns-clause-learnt
returns-clause-learnt g c = ap (from_entries {R = key_cmp}) c.new.ensures.empty
