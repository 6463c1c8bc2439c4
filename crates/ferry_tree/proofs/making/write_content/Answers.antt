use Rattle.std.proofs.Common.{◌≤◌, refl, ◌∙◌, arith}
use Rattle.ferry_tree.specs.Growth.{WritesFront}
use Rattle.ferry_tree.proofs.ContentLemmas.{writing_begin, writing_next, writing_end, writing_failed}
use Rattle.ferry_tree.proofs.MemoryLemmas.{always_err}
use Rattle.ferry_tree.proofs.making.write_content.Goals as goal

pub loop-from-init : goal.loop-from-init
loop-from-init g c = record { writes = writing_begin c.args.content.now (g.T.Tree.told c.args.tree.now) c.requires.current; faults = refl }

pub returns-in_err-write_run-clause-err : goal.returns-in_err-write_run-clause-err
returns-in_err-write_run-clause-err g c =
    let content = c.args.content.now in
    let from = c.loop-from.from in
    let before = g.T.Tree.told c.args.tree.now in
    let after = g.T.Tree.told c.write_run.new.tree in
    let end = c.run_end-end.result in
    let le : from ≤ end = omega (arith, c.run_end-end.ensures.run.some) in
    always_err c.from_residual.result (WritesFront content before after)
    (writing_failed content from end before (g.T.Tree.told c.loop-from.tree) after c.loop-from.invariant.writes le
    c.in_err-write_run.ensures.err)

pub loop-from-preserved : goal.loop-from-preserved
loop-from-preserved g c =
    let content = c.args.content.now in
    let from = c.loop-from.from in
    let before = g.T.Tree.told c.args.tree.now in
    let end = c.run_end-end.result in
    record {
      writes = writing_next c.has_zeros-is_hole.result content from end before (g.T.Tree.told c.loop-from.tree) (g.T.Tree.told c.write_run.new.tree)
          c.loop-from.invariant.writes c.run_end-end.ensures.run c.in_ok-write_run.ensures.ok;
      faults = c.in_ok-write_run.ensures.cause ∙ c.loop-from.invariant.faults;
    }

pub returns-clause-ok : goal.returns-clause-ok
returns-clause-ok g c =
    writing_end c.args.content.now c.loop-from.from (g.T.Tree.told c.args.tree.now) (g.T.Tree.told c.loop-from.tree) c.loop-from.invariant.writes
    (omega arith)
