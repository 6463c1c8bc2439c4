use Rattle.ferry_item.specs.Progress.{count_view}
use Rattle.ferry_item.proofs.StepLemmas.{map_goes, map_lacks}
use Rattle.ferry_item.proofs.progress.map_step.Goals as goal

pub returns-in_default : goal.returns-in_default
returns-in_default c = (
  c.in_ok-push.ensures.items,
  map_lacks c.args.levels.now.items c.args.depth c.args.left c.args.bytes.now c.behind.result.now (count_view c.args.count) c.if-depth-eq0.false
      c.requires.some c.requires.head c.behind.ensures c.in_default.ensures,
)

pub returns : goal.returns
returns c =
    let outer = c.args.levels.now.items in
    let behind = c.behind.result.now in
    rw (c.in_ok-push-3.ensures.items, c.in_ok-push-2.ensures.items) (map_goes outer c.args.depth c.args.left c.args.bytes.now behind
    (count_view c.args.count) c.in-Some.number c.in-Some.length c.new.result c.if-depth-eq0.false c.requires.some c.requires.head c.behind.ensures
    c.in-Some.ensures c.new.ensures.empty)
