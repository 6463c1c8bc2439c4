use Rattle.ferry_manifest.specs.Manifest.Text.{manifest_view}
use Rattle.ferry_manifest.proofs.Manifests.ReadLemmas.{names_view}
use Rattle.ferry_next.proofs.NextLemmas.{union_packable}
use Rattle.ferry_next.proofs.next.name_archive.Goals as goal

pub returns-clause-packable : goal.returns-clause-packable
returns-clause-packable c =
    let names = c.args.manifest.now.item_keys in
    λ is. union_packable (manifest_view c.add_archive.new.manifest) names (names_view c.args.item_keys.now) c.in_ok-names.names c.in_ok-names.ensures.names
    (c.add_archive.ensures.packable is)
