use Rattle.std.proofs.Common.{◌≡◌, drop, option_map}
use Rattle.ferry_msgpack.specs.View.{items_view}
use Rattle.ferry_manifest.specs.Manifest.Text.{in_order, raws_in}
use Rattle.ferry_manifest.proofs.Manifests.ReadLemmas.{names_with}
use Rattle.ferry_manifest.proofs.manifest.reading.names_in_order.Given as goal

abbrev pub invariant-loop-place : goal.invariant-loop-place
invariant-loop-place l = names_with l.names.keys (items_view (drop l.place l.items)) ≡ option_map in_order (raws_in (items_view l.items))
