use Rattle.std.proofs.Common.{Option, List, sym, subst}
use Rattle.ferry_item.specs.declared.item.ChunkRef.{ChunkRef}
use Rattle.ferry_repo.specs.Opening.{repo_view}
use Rattle.ferry_compare.specs.Steps.{HoldsBytes, HoldsSome}
use Rattle.ferry_compare.proofs.ContentLemmas.{bytes_some}
use Rattle.ferry_compare.proofs.StepLemmas.{on_ok}
use Rattle.ferry_compare.proofs.contents.read_content.Goals as goal

pub returns-in-Some-clause-holds : goal.returns-in-Some-clause-holds
returns-in-Some-clause-holds g c =
    let told = g.S.Shelf.told c.args.shelf.now in
    let source = repo_view c.args.source.now in
    on_ok c.read_chunks.result _ _ (λ holds. subst (λ (cs : Option (List ChunkRef)). HoldsSome told source cs) (sym c.in-Some.is)
    (bytes_some told source c.in-Some.refs (subst (λ (cs : List ChunkRef). HoldsBytes told source cs) c.as_slice.ensures.chunks holds)))
    c.read_chunks.ensures.holds
