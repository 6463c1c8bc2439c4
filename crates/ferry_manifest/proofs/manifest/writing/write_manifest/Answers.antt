use Rattle.std.proofs.Common.{◌≡◌, ap, ◌∙◌}
use Rattle.ferry_msgpack.specs.Tree.{table}
use Rattle.ferry_msgpack.specs.View.{value_view}
use Rattle.ferry_manifest.specs.Manifest.Text.{manifest_view}
use Rattle.ferry_manifest.specs.Manifest.Writing.{manifest_text, untagged_pairs}
use Rattle.ferry_manifest.specs.Values.{pairs_of_table}
use Rattle.ferry_manifest.proofs.Manifests.AgainLemmas.{written_again}
use Rattle.ferry_manifest.proofs.Manifests.OrderedLemmas.{manifest_taggable}
use Rattle.ferry_manifest.proofs.manifest.writing.write_manifest.Goals as goal

pub tagged_text-requires : goal.tagged_text-requires
tagged_text-requires c =
    manifest_taggable (manifest_view c.args.manifest.now) (value_view c.in_ok-map.map) c.requires.packable
    (c.in_ok-map.ensures.table ∙ ap table c.in_ok-untagged_pairs.ensures.pairs)

pub returns-clause-again : goal.returns-clause-again
returns-clause-again c =
    let manifest = manifest_view c.args.manifest.now in
    let is : value_view c.in_ok-map.map ≡ table (untagged_pairs manifest) = c.in_ok-map.ensures.table ∙ ap table c.in_ok-untagged_pairs.ensures.pairs in
    written_again c.args.keys.now manifest c.args.salt.now (pairs_of_table (value_view c.in_ok-map.map)) c.tagged_text.result c.requires.packable
    c.in_ok-untagged_pairs.ensures.ids c.tagged_text.ensures.salt (ap pairs_of_table is) c.tagged_text.ensures.text c.tagged_text.ensures.writable

pub returns-clause-large : goal.returns-clause-large
unfolding manifest_text
returns-clause-large c =
    let manifest = manifest_view c.args.manifest.now in
    let is : value_view c.in_ok-map.map ≡ table (untagged_pairs manifest) = c.in_ok-map.ensures.table ∙ ap table c.in_ok-untagged_pairs.ensures.pairs in
    rw is at c.tagged_text.ensures.large
