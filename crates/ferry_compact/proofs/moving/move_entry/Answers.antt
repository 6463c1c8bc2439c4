use Rattle.std.proofs.Common.{◌≡◌, ◌+◌, false, sym, ◌∙◌}
use Rattle.ferry_compact.proofs.MovingLemmas.{delete_put, entry_kept, entry_put, takes_none, takes_put}
use Rattle.ferry_compact.specs.Moving.{lies_at}
use Rattle.ferry_compact.specs.Stays.{is_below, noted_at}
use Rattle.ferry_log.specs.State.{place_in}
use Rattle.ferry_compact.proofs.moving.move_entry.Goals as goal
use Rattle.ferry_compact.proofs.moving.move_entry.Goals.{else-head-eq-PUT-via-then-head-eq-PUT+else-is_live, else-head-eq-PUT-via-else-head-eq-PUT}
use Rattle.ferry_compact.proofs.moving.move_entry.Goals.{else-head-eq-DELETE-via-then-head-eq-DELETE+else-is_put_below}
use Rattle.ferry_compact.proofs.moving.move_entry.Goals.{else-head-eq-DELETE-via-else-head-eq-DELETE}

pub returns-then-is_live-clause-did : goal.returns-then-is_live-clause-did
returns-then-is_live-clause-did g c =
    let a = g.D.Shelf.told c.args.depot.now in
    let b = g.D.Shelf.told c.move_put.new.depot in
    let n = g.D.Shelf.faults c.args.depot.now in
    let m = g.D.Shelf.faults c.move_put.new.depot in
    let head = c.args.head.now in
    entry_put c.args.log.now c.args.stays.now.entries c.args.segment c.args.at head c.args.session.now c.move_put.new.session a b n m c.move_put.result
    (λ entry is.
    takes_put c.args.log.now c.args.stays.now.entries c.args.segment c.args.at head entry is c.if-head-eq-PUT.true
    ∙ (sym c.is_live.ensures ∙ c.if-is_live.true)) c.move_put.ensures.did

pub returns-then-is_put_below-clause-did : goal.returns-then-is_put_below-clause-did
returns-then-is_put_below-clause-did g c =
    let a = g.D.Shelf.told c.args.depot.now in
    let b = g.D.Shelf.told c.delete_again.new.depot in
    let n = g.D.Shelf.faults c.args.depot.now in
    let m = g.D.Shelf.faults c.delete_again.new.depot in
    delete_put c.args.log.now c.args.stays.now.entries c.args.segment c.args.at c.args.head.now c.args.session.now c.delete_again.new.session a b n m
    c.delete_again.result c.if-head-eq-DELETE.true (sym c.is_put_below.ensures ∙ c.if-is_put_below.true) c.delete_again.ensures.did

pub returns-clause-did : goal.returns-clause-did
returns-clause-did g c =
    let a = g.D.Shelf.told c.args.depot.now in
    let n = g.D.Shelf.faults c.args.depot.now in
    let head = c.args.head.now in
    let put : head.tag ≡ 0 → lies_at (place_in c.args.log.now head.key) c.args.segment (c.args.at + 41) ≡ false =
    elim c.else-head-eq-PUT.branch [
      | else-head-eq-PUT-via-then-head-eq-PUT+else-is_live w ↦ λ tag. sym w.is_live.ensures ∙ w.if-is_live.false
      | else-head-eq-PUT-via-else-head-eq-PUT w ↦ λ tag. absurd (w.if-head-eq-PUT.false tag)
    ] in
    let delete : head.tag ≡ 1 → is_below (noted_at head.key c.args.stays.now.entries) c.args.segment ≡ false =
    elim c.else-head-eq-DELETE.branch [
      | else-head-eq-DELETE-via-then-head-eq-DELETE+else-is_put_below w ↦ λ tag. sym w.is_put_below.ensures ∙ w.if-is_put_below.false
      | else-head-eq-DELETE-via-else-head-eq-DELETE w ↦ λ tag. absurd (w.if-head-eq-DELETE.false tag)
    ] in
    entry_kept c.args.log.now c.args.stays.now.entries c.args.segment c.args.at head c.args.session.now a n
    (λ entry is. takes_none c.args.log.now c.args.stays.now.entries c.args.segment c.args.at head entry is put delete)
