use Rattle.std.proofs.Common.{[], unwrap_or, sym, ap}
use Rattle.ferry_msgpack.specs.View.{pairs_view}
use Rattle.ferry_keyblob.proofs.KeyLemmas.{no_key_fault}
use Rattle.ferry_keyblob.proofs.opening.fields_in.Goals as goal

pub returns-clause-whole : goal.returns-clause-whole
returns-clause-whole c =
    no_key_fault (pairs_view c.args.pairs.now) _ _ _ _ _ (sym c.if-not-has_version_1.ensures.version) (sym c.in_ok-repository_id.ensures.raw)
    (sym c.in_ok-enc_key.ensures.raw)
    (sym c.in_ok-enc_hmac_key.ensures.raw) (sym c.in_ok-id_key.ensures.raw) (sym c.in_ok-chunk_seed.ensures.number)

pub returns-clause-repository : goal.returns-clause-repository
returns-clause-repository c = ap (λ id. unwrap_or id []) (sym c.in_ok-repository_id.ensures.raw)
