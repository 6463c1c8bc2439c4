use Rattle.std.proofs.Common.{◌≡◌, None, sym, subst}
use Rattle.ferry_repo.specs.Cached.{Opened, content_in, used}
use Rattle.ferry_repo.proofs.CacheLemmas.{put_new}
use Rattle.ferry_repo.proofs.cache.Cache.keep_new.Goals as goal

pub returns-clause-ok : goal.returns-clause-ok
returns-clause-ok c =
    let id = c.args.id.now in
    let content = c.args.content.items in
    let before = c.self.inside.entries in
    subst (λ (b : Opened). c.put.new.self.entries ≡ used id content b) c.self.view_is
    (put_new id content c.new.result before c.put.new.self c.self.invariant
    (subst (λ (b : Opened). content_in id b ≡ None) (sym c.self.view_is) c.requires.new) c.new.ensures c.in_ok-put.ensures.entries)
