use Rattle.std.proofs.Common.{ℕ, Result, ap}
use Rattle.ferry_compact.proofs.BodyLemmas.{passes_left, passes_removed}
use Rattle.ferry_compact.proofs.CommitLemmas.{commit_did, commit_refused}
use Rattle.ferry_compact.proofs.ReadingLemmas.{err_is}
use Rattle.ferry_compact.proofs.WentLemmas.{fault_of}
use Rattle.ferry_compact.specs.Choice.{chosen_in}
use Rattle.ferry_compact.specs.Fault.{write_fault}
use Rattle.ferry_compact.specs.Runs.{Goes, MovedAll}
use Rattle.ferry_compact.specs.declared.fault.CompactFault.{CompactFault}
use Rattle.ferry_compact.proofs.compaction.commit_and_remove.Goals as goal

pub returns-in_err-commit : goal.returns-in_err-commit
returns-in_err-commit g c = record {
  commits = λ limit state threshold is begin first goes.
      let b = g.D.Shelf.told c.args.depot.now in
      let d = g.D.Shelf.told c.commit.new.depot in
      let m = g.D.Shelf.faults c.args.depot.now in
      let k = g.D.Shelf.faults c.commit.new.depot in
      let these = chosen_in threshold state.extents in
      let fault = c.in_err-commit.field-0.0 in
      let said = c.in_err-commit.ensures in
      err_is c.from_residual.result (write_fault fault)
      (λ (r : Result (Unit {0}) CompactFault). Goes state these (MovedAll limit state these) begin d first k r) c.from_residual.ensures.1
      (commit_refused limit state threshold c.args.session.now (MovedAll limit state these) fault begin b d first m k said.moments said.gains said.stays
      said.beside
      said.untold (λ same. said.numbers.0 (ap (fault_of {T = ℕ}) same)) said.cause said.ends goes);
}

pub returns-in_err-remove_all : goal.returns-in_err-remove_all
returns-in_err-remove_all g c = record {
  commits = λ limit state threshold is begin first goes.
      let b = g.D.Shelf.told c.args.depot.now in
      let d = g.D.Shelf.told c.commit.new.depot in
      let i = g.D.Shelf.told c.remove_all.new.depot in
      let m = g.D.Shelf.faults c.args.depot.now in
      let k = g.D.Shelf.faults c.commit.new.depot in
      let j = g.D.Shelf.faults c.remove_all.new.depot in
      let these = chosen_in threshold state.extents in
      let fault = c.in_err-remove_all.field-0.0 in
      let said = c.in_ok-commit.ensures in
      err_is c.from_residual-in_err-remove_all.result (write_fault fault)
      (λ (r : Result (Unit {0}) CompactFault). Goes state these (MovedAll limit state these) begin i first j r) c.from_residual-in_err-remove_all.ensures.1
      (passes_left limit state threshold c.args.chosen.now is (MovedAll limit state these) fault begin d i first k j
      (λ same. c.in_err-remove_all.ensures.numbers (ap (fault_of {T = Unit {0}}) same)) c.in_err-remove_all.ensures.ran
      (commit_did limit state threshold c.args.session.now c.commit.new.self begin b d first m k said.ok said.moments said.gains said.stays said.beside
      said.untold
      said.committed said.rows said.done said.cause said.ends goes));
}

pub returns : goal.returns
returns g c = record {
  commits = λ limit state threshold is begin first goes.
      let b = g.D.Shelf.told c.args.depot.now in
      let d = g.D.Shelf.told c.commit.new.depot in
      let i = g.D.Shelf.told c.remove_all.new.depot in
      let m = g.D.Shelf.faults c.args.depot.now in
      let k = g.D.Shelf.faults c.commit.new.depot in
      let j = g.D.Shelf.faults c.remove_all.new.depot in
      let said = c.in_ok-commit.ensures in
      passes_removed limit state threshold c.args.chosen.now is begin d i first k j c.in_ok-remove_all.ensures.ran
      (commit_did limit state threshold c.args.session.now c.commit.new.self begin b d first m k said.ok said.moments said.gains said.stays said.beside
      said.untold
      said.committed said.rows said.done said.cause said.ends goes);
}
