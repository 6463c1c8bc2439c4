use Rattle.std.proofs.Common.{◌≡◌, take}
use Rattle.ferry_msgpack.specs.View.{items_view}
use Rattle.ferry_manifest.specs.Values.{raws}
use Rattle.ferry_manifest.proofs.Manifests.ReadLemmas.{names_view}
use Rattle.ferry_manifest.proofs.manifest.writing.raws.Given as goal

abbrev pub invariant-loop-place : goal.invariant-loop-place
invariant-loop-place l = items_view l.values.items ≡ raws (names_view (take l.place l.contents))
