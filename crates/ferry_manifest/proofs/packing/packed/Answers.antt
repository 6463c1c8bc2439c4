use Rattle.std.proofs.Common.{◌≡◌, refl, sym, subst}
use Rattle.ferry_msgpack.specs.Tree.{table}
use Rattle.ferry_msgpack.specs.View.{value_view}
use Rattle.ferry_msgpack.specs.Writable.{IsWritable}
use Rattle.ferry_manifest.specs.Tagged.{tagged_pairs}
use Rattle.ferry_manifest.specs.Values.{pairs_of_table}
use Rattle.ferry_manifest.proofs.TaggedLemmas.{packed_large}
use Rattle.ferry_manifest.proofs.packing.packed.Goals as goal

pub returns-then-not-is_writable-clause-large : goal.returns-then-not-is_writable-clause-large
returns-then-not-is_writable-clause-large c h =
    let all = tagged_pairs (pairs_of_table (value_view c.args.map.now)) c.args.hmac.now c.args.salt.now in
    let is : value_view c.in_ok-all.all ≡ table all = c.in_ok-all.ensures.table in
    let test = c.is_writable.ensures in
    let not_so : IsWritable (table all) → ⊥ = λ writable. let told = test.1 (subst IsWritable (sym is) writable) in absurd cc in
    (refl, packed_large (value_view c.args.map.now) c.args.hmac.now c.args.salt.now c.requires not_so)
