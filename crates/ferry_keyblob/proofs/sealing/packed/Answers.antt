use Rattle.std.proofs.Common.{sym, subst}
use Rattle.ferry_msgpack.specs.Tree.{Pairs, table}
use Rattle.ferry_msgpack.specs.Writable.{IsWritable}
use Rattle.ferry_keyblob.specs.Opening.{key_view}
use Rattle.ferry_keyblob.proofs.SealLemmas.{packed_writable}
use Rattle.ferry_keyblob.proofs.sealing.packed.Goals as goal

pub text_of-requires : goal.text_of-requires
text_of-requires c = subst (λ (ps : Pairs). IsWritable (table ps)) (sym c.in_ok-pairs.ensures.pairs) (packed_writable (key_view c.args.key.now) c.requires)
