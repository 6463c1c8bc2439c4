use Rattle.std.proofs.Common.{Option, List, Some, false, refl, sym, subst}
use Rattle.ferry_item.specs.declared.item.ChunkRef.{ChunkRef}
use Rattle.ferry_repo.specs.Opening.{repo_view}
use Rattle.ferry_compare.specs.Steps.{HoldsBytes, ComparesContents}
use Rattle.ferry_compare.proofs.ContentLemmas.{none_beside}
use Rattle.ferry_compare.proofs.StepLemmas.{matched_later}
use Rattle.ferry_compare.proofs.contents.same_content.Goals as goal

pub returns-in_ok-read_chunks-in-None-others-clause-compares : goal.returns-in_ok-read_chunks-in-None-others-clause-compares
returns-in_ok-read_chunks-in-None-others-clause-compares g c =
    let told = g.S.Shelf.told c.args.shelf.now in
    let source = repo_view c.args.source.now in
    let other = g.T.Shelf.told c.args.other.now in
    let target = repo_view c.args.target.now in
    let holds = subst (λ (cs : List ChunkRef). HoldsBytes told source cs) c.as_slice-in-None-others.ensures.chunks
    c.in_ok-read_chunks-in-None-others.ensures.holds in
    subst (λ (cs : Option (List ChunkRef)). ComparesContents told source other target cs c.args.others.now false) (sym c.in-Some.is)
    (subst (λ (cs : Option (List ChunkRef)). ComparesContents told source other target (Some c.in-Some.refs) cs false) (sym c.in-None-others.is)
    (none_beside told source other target c.in-Some.refs holds))

pub returns-in_ok-read_chunks-in-None-others-clause-matched : goal.returns-in_ok-read_chunks-in-None-others-clause-matched
returns-in_ok-read_chunks-in-None-others-clause-matched g c =
    let heard = g.T.Shelf.told c.args.other.now in
    let target = repo_view c.args.target.now in
    matched_later (g.S.Shelf.told c.args.shelf.now) (g.S.Shelf.told c.read_chunks.new.shelf) (repo_view c.args.source.now)
    (repo_view c.read_chunks.new.source) heard heard target target c.in_ok-read_chunks-in-None-others.ensures.same
    c.in_ok-read_chunks-in-None-others.ensures.kept refl refl c.args.matches.now c.requires.matched
