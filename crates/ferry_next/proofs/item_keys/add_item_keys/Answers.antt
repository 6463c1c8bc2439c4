use Rattle.ferry_manifest.specs.Manifest.Text.{manifest_view}
use Rattle.ferry_manifest.proofs.Manifests.ReadLemmas.{names_view}
use Rattle.ferry_next.proofs.NextLemmas.{union_packable}
use Rattle.ferry_next.proofs.item_keys.add_item_keys.Goals as goal

pub returns-clause-packable : goal.returns-clause-packable
returns-clause-packable c =
    let manifest = manifest_view c.args.manifest.now in
    union_packable manifest manifest.item_keys (names_view c.args.item_keys.now) c.in_ok-manifest.field-0 c.in_ok-manifest.ensures.names
