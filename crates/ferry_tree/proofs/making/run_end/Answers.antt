use Rattle.std.proofs.Common.{◌≡◌, ◌-◌, Bool, subst, take, drop}
use Rattle.ferry_tree.specs.Runs.{IsKind}
use Rattle.ferry_tree.proofs.ContentLemmas.{run_next, same_kind}
use Rattle.ferry_tree.proofs.making.run_end.Goals as goal

pub loop-end-preserved : goal.loop-end-preserved
loop-end-preserved c =
    let content = c.args.content.now in
    let end = c.loop-end.end in
    let next = c.block_end-next.result in
    let made = c.block_end-next.ensures in
    record {
      run = run_next c.args.is_hole content c.args.from end next c.loop-end.invariant.run c.loop-end-test.true made.some made.within made.size
          (subst (λ (b : Bool). IsKind b (take (next - end) (drop end content)))
          (same_kind c.has_zeros.result c.args.is_hole c.if-has_zeros-is_hole.false) c.has_zeros.ensures);
    }
