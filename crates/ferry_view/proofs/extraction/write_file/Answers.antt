use Rattle.std.proofs.Common.{List, subst}
use Rattle.ferry_item.specs.declared.item.ChunkRef.{ChunkRef}
use Rattle.ferry_repo.specs.Opening.{repo_view}
use Rattle.ferry_repo.proofs.FaultLemmas.{gives_err}
use Rattle.ferry_view.specs.Output.{IsOfArchive, ShowsAll}
use Rattle.ferry_view.specs.Steps.{AllContents, SomeContents}
use Rattle.ferry_view.proofs.OutputLemmas.{err_holds}
use Rattle.ferry_view.proofs.ShownLemmas.{contents_some}
use Rattle.ferry_view.proofs.extraction.write_file.Goals as goal

pub returns-in_err-write_contents-clause-all : goal.returns-in_err-write_contents-clause-all
returns-in_err-write_contents-clause-all g c =
    let told = g.S.Shelf.told c.args.shelf.now in
    let repo = repo_view c.args.repo.now in
    let old = g.K.Sink.written c.args.out.now in
    let after = g.K.Sink.written c.write_contents.new.out in
    gives_err c.from_residual.result _ _ c.from_residual.ensures.1 (λ y is of.
    subst (λ (cs : List ChunkRef). ShowsAll (λ f text. SomeContents f repo cs text) told old after) c.as_slice.ensures.chunks
    (c.in_err-write_contents.ensures.all (subst IsOfArchive is of)))

pub returns-clause-err : goal.returns-clause-err
returns-clause-err g c =
    let told = g.S.Shelf.told c.args.shelf.now in
    let repo = repo_view c.args.repo.now in
    let old = g.K.Sink.written c.args.out.now in
    let after = g.K.Sink.written c.write_contents.new.out in
    err_holds _ _ (contents_some told repo c.args.chunks.now old after
    (subst (λ (cs : List ChunkRef). ShowsAll (λ f text. AllContents f repo cs text) told old after) c.as_slice.ensures.chunks
    c.in_ok-write_contents.ensures.ok))
