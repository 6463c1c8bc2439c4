use Rattle.std.proofs.Common.{◌≡◌, ◌∙◌, ◌∷◌, ◌++◌, [], length, sym, ap, subst, arith}
use Rattle.ferry_segment.specs.Segment.{HasMagic}
use Rattle.ferry_disk.specs.Files.{segment_bytes}
use Rattle.ferry_log.specs.Opening.{TakesSegment, IsUnread, uncounted}
use Rattle.ferry_log.proofs.OpeningLemmas.{err_matches, window_at}
use Rattle.ferry_log.proofs.WindowLemmas.{tells_on, window_on}
use Rattle.ferry_log.proofs.opening.take_segment.Goals as goal

pub returns-in_err-take_entries-clause-taken : goal.returns-in_err-take_entries-clause-taken
returns-in_err-take_entries-clause-taken g c files tells =
    let opened = c.in_ok-open_window.ensures in
    let magic_of = c.in_ok-has_magic.ensures in
    let own : c.has_magic.new.window.segment ≡ c.args.segment = magic_of.segment.0 ∙ opened.segment in
    let first = opened.window files tells in
    let tells_1 = tells_on (g.S.Shelf.told c.args.shelf.now) (g.S.Shelf.told c.open_window.new.shelf) files opened.same tells in
    let magic = magic_of.magic files tells_1 (window_at files c.open_window.new.window c.args.segment opened.segment first) in
    let tells_2 = tells_on (g.S.Shelf.told c.open_window.new.shelf) (g.S.Shelf.told c.has_magic.new.shelf) files magic_of.same tells_1 in
    let has = subst (λ n. HasMagic (segment_bytes files n)) (sym magic_of.segment.0) (magic.0.0 c.if-not-branch.false) in
    let read =
    c.in_err-take_entries.ensures.taken files tells_2
    (window_on files c.open_window.new.window c.has_magic.new.window c.has_magic.new.window magic_of.segment magic.1) has in
    err_matches c.from_residual-in_err-take_entries.result c.in_err-take_entries.field-0.0 _ _ c.from_residual-in_err-take_entries.ensures.1
    (subst (λ n. IsUnread n (segment_bytes files n) c.in_err-take_entries.field-0.0) own read)

pub returns-clause-taken : goal.returns-clause-taken
returns-clause-taken g c files tells =
    let opened = c.in_ok-open_window.ensures in
    let magic_of = c.in_ok-has_magic.ensures in
    let taken_of = c.in_ok-take_entries.ensures in
    let own : c.has_magic.new.window.segment ≡ c.args.segment = magic_of.segment.0 ∙ opened.segment in
    let first = opened.window files tells in
    let tells_1 = tells_on (g.S.Shelf.told c.args.shelf.now) (g.S.Shelf.told c.open_window.new.shelf) files opened.same tells in
    let magic = magic_of.magic files tells_1 (window_at files c.open_window.new.window c.args.segment opened.segment first) in
    let tells_2 = tells_on (g.S.Shelf.told c.open_window.new.shelf) (g.S.Shelf.told c.has_magic.new.shelf) files magic_of.same tells_1 in
    let has = subst (λ n. HasMagic (segment_bytes files n)) (sym magic_of.segment.0) (magic.0.0 c.if-not-branch.false) in
    let read =
    taken_of.taken files tells_2 (window_on files c.open_window.new.window c.has_magic.new.window c.has_magic.new.window magic_of.segment magic.1) has in
    let size : c.take_entries.new.window.size ≡ length (segment_bytes files c.args.segment) = taken_of.segment.1 ∙ (magic_of.segment.1 ∙ first.sized) in (
      subst (λ n. TakesSegment n (segment_bytes files n) c.args.live.now.entries c.take_entries.new.live.entries) own read,
      omega (arith, first.sized, opened.small),
      c.in_ok-push.ensures.items ∙ ap (λ n. c.args.extents.now.items ++ uncounted c.args.segment n ∷ []) size,
    )
