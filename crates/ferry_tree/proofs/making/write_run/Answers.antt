use Rattle.std.proofs.Common.{◌≡◌, true, false, length, option_map, subst}
use Rattle.ferry_tree.specs.Growth.{with_content, WritesFront}
use Rattle.ferry_tree.specs.Nodes.{Appends, LeavesHole, with_bytes, with_hole}
use Rattle.ferry_tree.specs.Runs.{IsKind}
use Rattle.ferry_tree.proofs.ContentLemmas.{run_hole, run_plain, hole_failed, write_failed}
use Rattle.ferry_tree.proofs.MemoryLemmas.{on_ok, on_err}
use Rattle.ferry_tree.proofs.making.write_run.Goals as goal

pub returns-then-is_hole-clause-ok : goal.returns-then-is_hole-clause-ok
returns-then-is_hole-clause-ok g c =
    let run = c.args.run.now in
    let before = g.T.Tree.told c.args.tree.now in
    let after = g.T.Tree.told c.hole.new.self in
    on_ok c.hole.result (after ≡ option_map (λ t. with_hole (length run) t) before) (after ≡ option_map (λ t. with_content run t) before)
    (λ e. run_hole run before after (subst (λ b. IsKind b run) c.if-is_hole.true c.requires.kind) e) c.hole.ensures.ok

pub returns-then-is_hole-clause-err : goal.returns-then-is_hole-clause-err
returns-then-is_hole-clause-err g c =
    let run = c.args.run.now in
    let before = g.T.Tree.told c.args.tree.now in
    let after = g.T.Tree.told c.hole.new.self in
    on_err c.hole.result (LeavesHole (length run) before after) (WritesFront run before after)
    (λ leaves. hole_failed run before after (subst (λ b. IsKind b run) c.if-is_hole.true c.requires.kind) leaves) c.hole.ensures.err

pub returns-clause-ok : goal.returns-clause-ok
returns-clause-ok g c =
    let run = c.args.run.now in
    let before = g.T.Tree.told c.args.tree.now in
    let after = g.T.Tree.told c.write.new.self in
    on_ok c.write.result (after ≡ option_map (λ t. with_bytes run t) before) (after ≡ option_map (λ t. with_content run t) before)
    (λ e. run_plain run before after (subst (λ b. IsKind b run) c.if-is_hole.false c.requires.kind) e) c.write.ensures.ok

pub returns-clause-err : goal.returns-clause-err
returns-clause-err g c =
    let run = c.args.run.now in
    let before = g.T.Tree.told c.args.tree.now in
    let after = g.T.Tree.told c.write.new.self in
    on_err c.write.result (Appends run before after) (WritesFront run before after) (λ appends. write_failed run before after appends)
    c.write.ensures.err
