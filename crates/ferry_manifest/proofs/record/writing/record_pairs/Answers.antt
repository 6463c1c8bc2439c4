use Rattle.ferry_msgpack.specs.View.{value_view}
use Rattle.ferry_fields.proofs.SizeLemmas.{writable_ordered}
use Rattle.ferry_manifest.proofs.record.writing.record_pairs.Goals as goal

pub pairs_of_table-requires : goal.pairs_of_table-requires
pairs_of_table-requires c = writable_ordered (value_view c.args.archive.now.fields) c.requires.fields_writable
