use Rattle.std.proofs.lemmas.Result.{err_from_is_err_and}
use Rattle.ferry_msgpack.specs.View.{value_view}
use Rattle.ferry_manifest.specs.Values.{pairs_of_table}
use Rattle.ferry_manifest.proofs.TaggedLemmas.{blank_large}
use Rattle.ferry_manifest.proofs.packing.tagged_text.Goals as goal

pub returns-in_err-blank-clause-large : goal.returns-in_err-blank-clause-large
returns-in_err-blank-clause-large c =
    let p = err_from_is_err_and c.from_residual.result c.from_residual.ensures.1 in
    let told = c.in_err-blank.ensures.large in
    rw (p.1, p.2) (λ h. ((told h).0, blank_large c.args.info.now c.args.keys.now c.args.salt.now (pairs_of_table (value_view c.args.map.now)) (told h).1))
