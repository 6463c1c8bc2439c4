use Rattle.std.proofs.Common.{◌≡◌, take}
use Rattle.ferry_msgpack.specs.View.{items_view}
use Rattle.ferry_manifest.specs.Record.Writing.{AreIds}
use Rattle.ferry_manifest.specs.Values.{raws}
use Rattle.ferry_manifest.proofs.record.writing.id_values.Given as goal

abbrev pub invariant-loop-place : goal.invariant-loop-place
invariant-loop-place l = record {
  values : items_view l.values.items ≡ raws (take l.place l.ids);
  sized : AreIds (take l.place l.ids);
}
