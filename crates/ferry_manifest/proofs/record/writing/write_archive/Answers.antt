use Rattle.std.proofs.Common.{◌≡◌, ap, ◌∙◌}
use Rattle.ferry_msgpack.specs.Tree.{table}
use Rattle.ferry_msgpack.specs.View.{value_view}
use Rattle.ferry_manifest.specs.Record.Text.{archive_view}
use Rattle.ferry_manifest.specs.Record.Writing.{archive_text, record_pairs}
use Rattle.ferry_manifest.specs.Values.{pairs_of_table}
use Rattle.ferry_manifest.proofs.Records.AgainLemmas.{record_taggable, written_again}
use Rattle.ferry_manifest.proofs.record.writing.write_archive.Goals as goal

pub tagged_text-requires : goal.tagged_text-requires
tagged_text-requires c =
    record_taggable (archive_view c.args.archive.now) (value_view c.in_ok-map.map) c.requires.packable
    (c.in_ok-map.ensures.table ∙ ap table c.in_ok-record_pairs.ensures.pairs)

pub returns-clause-again : goal.returns-clause-again
returns-clause-again c =
    let archive = archive_view c.args.archive.now in
    let is : value_view c.in_ok-map.map ≡ table (record_pairs archive) = c.in_ok-map.ensures.table ∙ ap table c.in_ok-record_pairs.ensures.pairs in
    written_again c.args.keys.now archive c.args.salt.now (pairs_of_table (value_view c.in_ok-map.map)) c.tagged_text.result c.requires.packable
    c.in_ok-record_pairs.ensures.ids c.tagged_text.ensures.salt (ap pairs_of_table is) c.tagged_text.ensures.text c.tagged_text.ensures.writable

pub returns-clause-large : goal.returns-clause-large
unfolding archive_text
returns-clause-large c =
    let archive = archive_view c.args.archive.now in
    let is : value_view c.in_ok-map.map ≡ table (record_pairs archive) = c.in_ok-map.ensures.table ∙ ap table c.in_ok-record_pairs.ensures.pairs in
    rw is at c.tagged_text.ensures.large
