use Rattle.std.proofs.Common.{◌≡◌, false, ap, ◌∙◌, rules}
use Rattle.ferry_msgpack.specs.Tree.{table}
use Rattle.ferry_msgpack.specs.View.{value_view, pairs_view}
use Rattle.ferry_msgpack.specs.declared.value.Value.{Table}
use Rattle.ferry_msgpack.proofs.ViewLemmas.{view_table}
use Rattle.ferry_fields.specs.Others.{without}
use Rattle.ferry_item.specs.Item.{chunks_names, is_healed, lacks_path}
use Rattle.ferry_item.proofs.PackableLemmas.{text_packable, healed_kept}
use Rattle.ferry_item.proofs.front.item_of.Goals as goal

pub returns-clause-packable : goal.returns-clause-packable
returns-clause-packable c =
    let all = pairs_view c.args.pairs.items in
    let fields : value_view (Table c.in_ok-others.field-0) ≡ table (without chunks_names all) =
    view_table c.in_ok-others.field-0 ∙ ap table c.in_ok-others.ensures.others in
    let path : lacks_path all ≡ false = search rules in
    rw fields (text_packable all c.in_ok-chunks.chunks c.requires path (rw c.as_slice-2.ensures.value at c.in_ok-chunks.ensures.chunks))

pub returns-clause-whole : goal.returns-clause-whole
returns-clause-whole c =
    let all = pairs_view c.args.pairs.items in
    let fields : value_view (Table c.in_ok-others.field-0) ≡ table (without chunks_names all) =
    view_table c.in_ok-others.field-0 ∙ ap table c.in_ok-others.ensures.others in
    let healed : is_healed all ≡ false = search rules in
    rw fields (healed_kept all ∙ healed)
