use Rattle.std.proofs.Common.{◌≡◌, sym, ◌∙◌}
use Rattle.std.specs.Str.{bytes_eq}
use Rattle.ferry_base.specs.Limits.{zero_id}
use Rattle.ferry_blob.proofs.BlobLemmas.{named_other, named_zero, tested}
use Rattle.ferry_blob.proofs.id.is_named.Goals as goal

pub returns-then-same : goal.returns-then-same
returns-then-same c =
    let zero : c.same.result ≡ bytes_eq c.args.id.now zero_id = tested _ _ _ c.same.ensures.equal in
    record { named = c.if-same.true ∙ sym (named_zero c.args.keys.now c.args.id.now c.args.content.now (sym zero ∙ c.if-same.true)) }

pub returns-else-same : goal.returns-else-same
returns-else-same c =
    let zero : c.same.result ≡ bytes_eq c.args.id.now zero_id = tested _ _ _ c.same.ensures.equal in
    let own = tested _ _ _ c.same-else-same.ensures.equal in
    record { named = rw c.id_of.ensures.id at own ∙ sym (named_other c.args.keys.now c.args.id.now c.args.content.now (sym zero ∙ c.if-same.false)) }
