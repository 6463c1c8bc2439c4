use Rattle.std.proofs.Common.{rules, ◌∙◌, ap, drop, take, slice_index, subst}
use Rattle.ferry_blob.specs.Batch.{IsSealed, bytes_at}
use Rattle.ferry_blob.specs.Blob.{content_id}
use Rattle.ferry_blob.specs.declared.mode.Mode.{Mode}
use Rattle.ferry_mac.specs.declared.keys.Keys.{Keys}
use Rattle.ferry_repo.specs.Opening.{mode_of, repo_view}
use Rattle.ferry_store.proofs.PieceLemmas.{prepares_each, sealable_first}
use Rattle.ferry_store.proofs.store.Store.prepare.Goals as goal

pub seal_many-requires-clause-sealable : goal.seal_many-requires-clause-sealable
seal_many-requires-clause-sealable c =
    sealable_first c.foresee-count.new.nonces c.args.buffers.now c.foresee-count.result c.foresee-count.ensures.sealable

pub returns-clause-prepared : goal.returns-clause-prepared
returns-clause-prepared c = λ k low.
    let repo = repo_view c.args.self.now.repo in
    let buffers = c.args.buffers.now in
    let front = c.seal_many.new.buffers in
    let ids = c.name_each.new.ids in
    let count = c.foresee-count.result in
    let nonces = take count c.foresee-count.new.nonces in
    prepares_each repo nonces buffers front ids count k c.foresee-count.ensures.within (search rules)
    (λ j below. subst (λ (keys : Keys). IsSealed keys (mode_of repo.config) (slice_index nonces j) (bytes_at (take count buffers) j) (bytes_at front j))
    c.keys-keys.ensures.keys (subst (λ (mode : Mode). IsSealed c.keys-keys.result.now mode (slice_index nonces j) (bytes_at (take count buffers) j)
    (bytes_at front j)) c.mode.ensures.mode (c.seal_many.ensures.sealed j below))) low (c.requires.sizes k low)
    (c.name_each.ensures.ids k low ∙ ap (λ (keys : Keys). content_id keys (drop 43 (bytes_at buffers k))) c.keys-keys.ensures.keys)
