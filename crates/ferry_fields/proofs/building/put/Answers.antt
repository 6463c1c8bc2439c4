use Rattle.std.proofs.Common.{ap, ◌∙◌}
use Rattle.ferry_msgpack.specs.Tree.{put}
use Rattle.ferry_msgpack.specs.View.{value_view, pairs_view}
use Rattle.ferry_msgpack.proofs.ViewLemmas.{pairs_view-insert_entry}
use Rattle.ferry_fields.proofs.building.put.Goals as goal

pub returns : goal.returns
returns c =
    let before = c.args.pairs.now.entries in
    record {
      pairs = ap pairs_view c.in_ok-insert.ensures.entries ∙ pairs_view-insert_entry before c.in_ok-from_slice.field-0 c.args.value
          ∙ ap (λ k. put k (value_view c.args.value) (pairs_view before)) c.in_ok-from_slice.ensures.items;
    }
