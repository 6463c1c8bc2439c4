use Rattle.std.proofs.Common.{◌≡◌, take}
use Rattle.ferry_msgpack.specs.View.{pairs_view}
use Rattle.ferry_manifest.specs.Manifest.Writing.{HaveIds, archive_pairs}
use Rattle.ferry_manifest.proofs.manifest.writing.archive_pairs.Given as goal

abbrev pub invariant-loop-place : goal.invariant-loop-place
invariant-loop-place l = record {
  pairs : pairs_view l.pairs.items ≡ archive_pairs (take l.place l.archives);
  ids : HaveIds (take l.place l.archives);
}
