use Rattle.std.proofs.Common.{◌≡◌, ap, ◌∙◌}
use Rattle.ferry_msgpack.specs.Tree.{table}
use Rattle.ferry_msgpack.specs.View.{value_view, pairs_view}
use Rattle.ferry_msgpack.proofs.ViewLemmas.{view_table}
use Rattle.ferry_fields.specs.Others.{without}
use Rattle.ferry_manifest.specs.Manifest.Text.{field_names}
use Rattle.ferry_manifest.proofs.Manifests.PackableLemmas.{text_packable}
use Rattle.ferry_manifest.proofs.manifest.reading.manifest_from.Goals as goal

pub returns-clause-packable : goal.returns-clause-packable
returns-clause-packable c =
    let all = pairs_view c.args.pairs.items in
    let fields = c.in_ok-fields.fields in
    let told = c.in_ok-fields.ensures in
    let whole : table (pairs_view c.in_ok-others.field-0.items) ≡ table (without field_names all) = ap table c.in_ok-others.ensures.others in
    let more = view_table c.in_ok-others.field-0 ∙ whole in
    rw more (text_packable all fields.timestamp (value_view fields.config) fields.item_keys fields.archives c.requires
    (rw c.as_slice.ensures.value at told.config) (rw c.as_slice.ensures.value at told.item_keys) (rw c.as_slice.ensures.value at told.archives))
