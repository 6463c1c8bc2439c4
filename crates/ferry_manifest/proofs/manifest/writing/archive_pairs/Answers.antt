use Rattle.std.proofs.Common.{◌≡◌, get_or, length, sym, ap, ◌∙◌, arith}
use Rattle.ferry_msgpack.specs.Tree.{table}
use Rattle.ferry_msgpack.specs.View.{value_view}
use Rattle.ferry_manifest.specs.Manifest.Writing.{archive_fields}
use Rattle.ferry_manifest.specs.declared.manifest.ArchiveRef.{ArchiveRef}
use Rattle.ferry_manifest.proofs.Manifests.WriteLemmas.{archives_none, archives_written, ids_more}
use Rattle.ferry_manifest.proofs.manifest.writing.archive_pairs.Goals as goal

pub loop-place-init : goal.loop-place-init
loop-place-init c = record { pairs = rw c.new-pairs.ensures.items archives_none; ids = tt }

pub loop-place-preserved : goal.loop-place-preserved
loop-place-preserved c =
    let archives = c.args.archives.now in
    let place = c.loop-place.place in
    let archive = c.index-archives-place.result in
    let here = c.index-archives-place.is in
    let name_is : c.in_ok-name.name.items ≡ (get_or archives place archive).name =
    c.in_ok-name.ensures.items ∙ c.as_slice.ensures ∙ ap (λ (a : ArchiveRef). a.name) here in
    let fields_are : value_view c.in_ok-fields.fields ≡ table (archive_fields (get_or archives place archive)) =
    c.in_ok-fields.ensures.fields ∙ ap (λ (a : ArchiveRef). table (archive_fields a)) here in
    let id_has : length (get_or archives place archive).id ≡ 32 = ap (λ (a : ArchiveRef). length a.id) (sym here) ∙ c.in_ok-fields.ensures.id in
    record {
      pairs =
          rw c.in_ok-push.ensures.items (archives_written c.loop-place.pairs.items (c.in_ok-name.name, c.in_ok-fields.fields) archives place archive
          (omega arith) c.loop-place.invariant.pairs name_is fields_are);
      ids = ids_more archives place archive (omega arith) c.loop-place.invariant.ids id_has;
    }
