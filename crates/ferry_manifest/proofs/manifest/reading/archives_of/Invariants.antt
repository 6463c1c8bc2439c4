use Rattle.std.proofs.Common.{◌≡◌, drop}
use Rattle.ferry_msgpack.specs.View.{pairs_view}
use Rattle.ferry_manifest.specs.Manifest.Text.{archives_of}
use Rattle.ferry_manifest.proofs.Manifests.ReadLemmas.{archives_with}
use Rattle.ferry_manifest.proofs.manifest.reading.archives_of.Given as goal

abbrev pub invariant-loop-place : goal.invariant-loop-place
invariant-loop-place l = archives_with l.archives.items (pairs_view (drop l.place l.pairs)) ≡ archives_of (pairs_view l.pairs)
