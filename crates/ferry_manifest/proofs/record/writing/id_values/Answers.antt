use Rattle.std.proofs.Common.{◌≡◌, ℕ, List, [], get_or, length, sym, ap, ◌∙◌, arith, rules}
use Rattle.ferry_msgpack.specs.declared.value.Value.TheVariants.{Raw}
use Rattle.ferry_msgpack.specs.Tree.{raw}
use Rattle.ferry_msgpack.specs.View.{value_view}
use Rattle.ferry_msgpack.proofs.ViewLemmas.{view_raw}
use Rattle.ferry_manifest.proofs.Records.AgainLemmas.{ids_written, sized_more}
use Rattle.ferry_manifest.proofs.Manifests.WriteLemmas.{raws_none}
use Rattle.ferry_manifest.proofs.record.writing.id_values.Goals as goal

pub loop-place-init : goal.loop-place-init
loop-place-init c = record { values = rw c.new-values.ensures.items raws_none; sized = tt }

pub loop-place-preserved : goal.loop-place-preserved
loop-place-preserved c =
    let ids = c.args.ids.now in
    let place = c.loop-place.place in
    let none : List ℕ = [] in
    let is : c.in_ok-id.id.items ≡ get_or ids place none = c.in_ok-id.ensures.items in
    let size : length c.in_ok-id.id.items ≡ 32 = search rules in
    let value_is : value_view (Raw c.in_ok-id.id) ≡ raw (get_or ids place none) = view_raw c.in_ok-id.id ∙ ap raw is in
    record {
      values =
          rw c.in_ok-push.ensures.items (ids_written c.loop-place.values.items (Raw c.in_ok-id.id) ids place none (omega arith)
          c.loop-place.invariant.values value_is);
      sized = sized_more ids place none (omega arith) c.loop-place.invariant.sized (ap length (sym is) ∙ size);
    }
