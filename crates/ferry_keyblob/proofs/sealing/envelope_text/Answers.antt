use Rattle.std.proofs.Common.{◌≡◌, length, sym, subst, rules}
use Rattle.ferry_msgpack.specs.Tree.{Pairs, table}
use Rattle.ferry_msgpack.specs.Writable.{IsWritable}
use Rattle.ferry_keyblob.proofs.SealLemmas.{envelope_writable}
use Rattle.ferry_keyblob.proofs.sealing.envelope_text.Goals as goal

pub text_of-requires : goal.text_of-requires
text_of-requires c =
    let salted : length c.args.salt.now ≡ 32 = search rules in
    subst (λ (ps : Pairs). IsWritable (table ps)) (sym c.in_ok-pairs.ensures.pairs)
    (envelope_writable c.args.kek.now c.args.salt.now c.args.iterations c.args.packed.now salted c.in_ok-pairs.ensures.hash c.requires.0 c.requires.1)
