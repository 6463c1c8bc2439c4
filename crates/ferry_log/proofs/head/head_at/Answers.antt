use Rattle.std.proofs.Common.{Some, arith}
use Rattle.ferry_disk.specs.Files.{segment_bytes}
use Rattle.ferry_log.specs.Head.{IsHeadAt, IsHeadless}
use Rattle.ferry_log.proofs.OpeningLemmas.{err_gives, headless, window_at, broken_at, head_found}
use Rattle.ferry_log.proofs.WindowLemmas.{tells_on, to_told}
use Rattle.ferry_log.proofs.head.head_at.Goals as goal

pub returns-in_err-entry_head-clause-damaged : goal.returns-in_err-entry_head-clause-damaged
returns-in_err-entry_head-clause-damaged g c =
    let told = g.S.Shelf.told c.args.shelf.now in
    let opened = c.in_ok-open_window.ensures in
    err_gives c.from_residual-in_err-entry_head.result c.in_err-entry_head.field-0.0 _ c.from_residual-in_err-entry_head.ensures.1
    (to_told told (λ files. IsHeadless (segment_bytes files c.args.segment) c.args.at c.in_err-entry_head.field-0.0) (λ files tells.
    let window = opened.window files tells in
    let read =
    c.in_err-entry_head.ensures.read files (tells_on told (g.S.Shelf.told c.open_window.new.shelf) files opened.same tells)
    (window_at files c.open_window.new.window c.args.segment opened.segment window) in
    headless (segment_bytes files c.args.segment) c.args.at c.in_err-entry_head.field-0.0 (omega (arith, window.sized))
    (broken_at files c.open_window.new.window c.args.segment c.args.at c.in_err-entry_head.field-0.0 opened.segment read)))

pub returns-clause-head : goal.returns-clause-head
returns-clause-head g c =
    let told = g.S.Shelf.told c.args.shelf.now in
    let opened = c.in_ok-open_window.ensures in
    to_told told (λ files. IsHeadAt (segment_bytes files c.args.segment) c.args.at (Some c.in_ok-entry_head.field-0)) (λ files tells.
    let window = opened.window files tells in
    let read =
    c.in_ok-entry_head.ensures.read files (tells_on told (g.S.Shelf.told c.open_window.new.shelf) files opened.same tells)
    (window_at files c.open_window.new.window c.args.segment opened.segment window) in
    head_found files c.open_window.new.window c.args.segment c.args.at c.in_ok-entry_head.field-0 opened.segment read.0)
