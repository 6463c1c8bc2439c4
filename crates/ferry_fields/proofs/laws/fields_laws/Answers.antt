use Rattle.ferry_msgpack.specs.Tree.{table}
use Rattle.ferry_fields.proofs.MapLemmas.{map_of-spelled, spelled-map_of, map_of-shortest}
use Rattle.ferry_fields.proofs.SizeLemmas.{short_writable, writable_ordered}
use Rattle.ferry_fields.proofs.laws.fields_laws.Goals as goal

pub returns-clause-map : goal.returns-clause-map
returns-clause-map c bytes pairs = (spelled-map_of bytes pairs, map_of-spelled bytes (table pairs))

pub returns-clause-again : goal.returns-clause-again
returns-clause-again c pairs writable = map_of-shortest pairs writable

pub returns-clause-sizes : goal.returns-clause-sizes
returns-clause-sizes c t deep ordered short = short_writable t deep ordered short

pub returns-clause-ordered : goal.returns-clause-ordered
returns-clause-ordered c t writable = writable_ordered t writable
