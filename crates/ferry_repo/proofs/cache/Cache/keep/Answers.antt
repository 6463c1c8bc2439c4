use Rattle.std.proofs.Common.{◌≡◌, ℕ, List, IfSome, sym, ◌∙◌, ap, subst}
use Rattle.ferry_repo.specs.Cached.{Opened, content_in, used}
use Rattle.lru.specs.LruCache.{LruCache}
use Rattle.ferry_repo.proofs.CacheLemmas.{promote_used, promote_still, put_all, err_holds}
use Rattle.ferry_repo.proofs.cache.Cache.keep.Goals as goal

pub returns-then-promote-clause-ok : goal.returns-then-promote-clause-ok
returns-then-promote-clause-ok c =
    let id = c.args.id.now in
    let content = c.args.content.now in
    let before = c.self.inside.entries in
    let after = c.promote.new.self in
    subst (λ (b : Opened). after.entries ≡ used id content b) c.self.view_is
    (promote_used id content before after c.promote.result c.len-count.ensures.valid c.self.invariant
    (subst (λ (b : Opened). IfSome (content_in id b) (λ kept. kept ≡ content)) (sym c.self.view_is) c.requires.same)
    c.promote.ensures.value c.if-promote.true c.promote.ensures.entries)

pub returns-in_err-copy-clause-err : goal.returns-in_err-copy-clause-err
returns-in_err-copy-clause-err c =
    err_holds c.from_residual.result _
    (promote_still c.args.id.now c.self.inside.entries c.promote.new.self c.promote.result c.promote.ensures.value c.if-promote.false
    c.promote.ensures.entries ∙ c.self.view_is)

pub returns-in_err-put-clause-err : goal.returns-in_err-put-clause-err
returns-in_err-put-clause-err c =
    err_holds c.from_residual-in_err-put.result _
    (ap (λ (x : LruCache (List ℕ) (List ℕ)). x.entries) c.in_err-put.ensures.err
    ∙ (promote_still c.args.id.now c.self.inside.entries c.promote.new.self c.promote.result c.promote.ensures.value c.if-promote.false
    c.promote.ensures.entries ∙ c.self.view_is))

pub returns-clause-ok : goal.returns-clause-ok
returns-clause-ok c =
    let id = c.args.id.now in
    let content = c.args.content.now in
    subst (λ (b : Opened). c.put.new.self.entries ≡ used id content b) c.self.view_is
    (put_all id content c.new.result c.self.inside.entries c.promote.new.self c.put.new.self c.promote.result c.self.invariant
    c.promote.ensures.value c.if-promote.false c.promote.ensures.entries (c.new.ensures ∙ c.in_ok-copy.ensures.items) c.in_ok-put.ensures.entries)
