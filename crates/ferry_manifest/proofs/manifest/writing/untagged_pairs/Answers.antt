use Rattle.ferry_msgpack.specs.View.{value_view}
use Rattle.ferry_fields.proofs.SizeLemmas.{writable_ordered}
use Rattle.ferry_manifest.proofs.manifest.writing.untagged_pairs.Goals as goal

pub pairs_of_table-requires : goal.pairs_of_table-requires
pairs_of_table-requires c = writable_ordered (value_view c.args.manifest.now.more) c.requires.more_writable
