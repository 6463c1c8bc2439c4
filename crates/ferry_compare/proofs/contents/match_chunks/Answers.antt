use Rattle.std.proofs.Common.{Bool, Some, ◌∙◌, subst}
use Rattle.ferry_repo.specs.Opening.{repo_view}
use Rattle.ferry_compare.specs.Steps.{ComparesContents}
use Rattle.ferry_compare.proofs.MatchedLemmas.{compared_of, matched_of}
use Rattle.ferry_compare.proofs.StepLemmas.{matched_later}
use Rattle.ferry_compare.proofs.contents.match_chunks.Goals as goal

pub returns-then-has-clause-compares : goal.returns-then-has-clause-compares
returns-then-has-clause-compares g c =
    let told = g.S.Shelf.told c.args.shelf.now in
    let source = repo_view c.args.source.now in
    let heard = g.T.Shelf.told c.args.other.now in
    let target = repo_view c.args.target.now in
    compared_of told source heard target c.args.chunks.now c.args.others.now
    (c.has.ensures.matched c.if-has.true told source heard target c.requires.matched)

pub returns-then-same-clause-matched : goal.returns-then-same-clause-matched
returns-then-same-clause-matched g c =
    let told = g.S.Shelf.told c.args.shelf.now in
    let source = repo_view c.args.source.now in
    let heard = g.T.Shelf.told c.args.other.now in
    let target = repo_view c.args.target.now in
    let chunks = c.args.chunks.now in
    let others = c.args.others.now in
    let compares = subst (λ (same : Bool). ComparesContents told source heard target (Some chunks) (Some others) same) c.if-same.true
    c.in_ok-same.ensures.compares in
    matched_later told (g.S.Shelf.told c.same_chunks.new.shelf) source (repo_view c.pass_over.new.self) heard (g.T.Shelf.told c.same_chunks.new.other)
    target (repo_view c.pass_over-then-same.new.self) c.in_ok-same.ensures.same (c.pass_over.ensures.kept ∙ c.in_ok-same.ensures.kept)
    c.in_ok-same.ensures.target_same (c.pass_over-then-same.ensures.kept ∙ c.in_ok-same.ensures.target_kept) c.add.new.self
    (c.add.ensures.kept told source heard target c.requires.matched (matched_of told source heard target chunks others compares))

pub returns-else-same-clause-matched : goal.returns-else-same-clause-matched
returns-else-same-clause-matched g c =
    matched_later (g.S.Shelf.told c.args.shelf.now) (g.S.Shelf.told c.same_chunks.new.shelf) (repo_view c.args.source.now)
    (repo_view c.same_chunks.new.source) (g.T.Shelf.told c.args.other.now) (g.T.Shelf.told c.same_chunks.new.other) (repo_view c.args.target.now)
    (repo_view c.same_chunks.new.target) c.in_ok-same.ensures.same c.in_ok-same.ensures.kept c.in_ok-same.ensures.target_same
    c.in_ok-same.ensures.target_kept c.args.matches.now c.requires.matched
