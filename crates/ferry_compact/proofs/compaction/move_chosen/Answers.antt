use Rattle.std.proofs.Common.{Result, Ok, Err}
use Rattle.ferry_compact.proofs.BodyLemmas.{passes_moved, passes_noted, passes_refused}
use Rattle.ferry_compact.proofs.ReadingLemmas.{err_is}
use Rattle.ferry_compact.proofs.StepLemmas.{did_refused}
use Rattle.ferry_compact.specs.Choice.{chosen_in}
use Rattle.ferry_compact.specs.Runs.{Goes, MovedAll}
use Rattle.ferry_compact.specs.declared.fault.CompactFault.{CompactFault}
use Rattle.ferry_compact.proofs.compaction.move_chosen.Goals as goal

pub returns-in_err-stays : goal.returns-in_err-stays
returns-in_err-stays g c = record {
  moves = λ limit threshold is begin first goes.
      let state = c.args.log.now in
      let b = g.D.Shelf.told c.args.depot.now in
      let d = g.D.Shelf.told c.puts_that_stay.new.depot in
      let m = g.D.Shelf.faults c.args.depot.now in
      let k = g.D.Shelf.faults c.puts_that_stay.new.depot in
      let these = chosen_in threshold state.extents in
      let fault = c.in_err-stays.field-0.0 in
      let said = c.in_err-stays.ensures in
      err_is c.from_residual.result fault
      (λ (r : Result (Unit {0}) CompactFault). Goes state these (MovedAll limit state these) begin d first k r) c.from_residual.ensures.1
      (passes_refused limit state threshold c.args.extents.now c.args.chosen.now c.requires.extents is c.args.session.now (MovedAll limit state these) fault
      begin b d
      first m k said.stays said.same said.cause goes);
}

pub returns-in_err-move_all : goal.returns-in_err-move_all
returns-in_err-move_all g c = record {
  moves = λ limit threshold is begin first goes.
      let state = c.args.log.now in
      let notes = c.in_ok-stays.stays.entries in
      let b = g.D.Shelf.told c.args.depot.now in
      let d = g.D.Shelf.told c.puts_that_stay.new.depot in
      let i = g.D.Shelf.told c.move_all.new.depot in
      let m = g.D.Shelf.faults c.args.depot.now in
      let k = g.D.Shelf.faults c.puts_that_stay.new.depot in
      let j = g.D.Shelf.faults c.move_all.new.depot in
      let these = chosen_in threshold state.extents in
      let fault = c.in_err-move_all.field-0.0 in
      let said = c.in_ok-stays.ensures in
      let session = c.args.session.now in
      let extents = c.args.extents.now in
      let chosen = c.args.chosen.now in
      err_is c.from_residual-in_err-move_all.result fault
      (λ (r : Result (Unit {0}) CompactFault). Goes state these (MovedAll limit state these) begin i first j r) c.from_residual-in_err-move_all.ensures.1
      (did_refused _ _ _ (MovedAll limit state these) begin i first j fault
      (passes_moved limit state threshold extents chosen c.requires.extents is notes session c.move_all.new.session (Err fault) begin d i first k j
      c.in_err-move_all.ensures.did
      (passes_noted limit state threshold extents chosen c.requires.extents is notes session c.in_ok-stays.stays begin b d first m k said.stays said.same
      said.cause
      goes)));
}

pub returns : goal.returns
returns g c = record {
  moves = λ limit threshold is begin first goes.
      let state = c.args.log.now in
      let notes = c.in_ok-stays.stays.entries in
      let b = g.D.Shelf.told c.args.depot.now in
      let d = g.D.Shelf.told c.puts_that_stay.new.depot in
      let i = g.D.Shelf.told c.move_all.new.depot in
      let m = g.D.Shelf.faults c.args.depot.now in
      let k = g.D.Shelf.faults c.puts_that_stay.new.depot in
      let j = g.D.Shelf.faults c.move_all.new.depot in
      let said = c.in_ok-stays.ensures in
      let session = c.args.session.now in
      let extents = c.args.extents.now in
      let chosen = c.args.chosen.now in
      c.commit_and_remove.ensures.commits limit state threshold is begin first
      (passes_moved limit state threshold extents chosen c.requires.extents is notes session c.move_all.new.session (Ok tt) begin d i first k j
      c.in_ok-move_all.ensures.did
      (passes_noted limit state threshold extents chosen c.requires.extents is notes session c.in_ok-stays.stays begin b d first m k said.stays said.same
      said.cause
      goes));
}
