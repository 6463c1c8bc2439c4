use Rattle.std.proofs.Common.{◌≡◌, ℕ, List, [], inl, inr, Result, IfErr, OnOk, IfSome, refl, sym, subst}
use Rattle.ferry_piece.proofs.AddingLemmas.{none_refused, source_unbroken}
use Rattle.ferry_piece.proofs.FaultLemmas.{source_still}
use Rattle.ferry_piece.proofs.PieceLemmas.{ok_to}
use Rattle.ferry_piece.proofs.WorkLemmas.{err_is, gathered_nothing}
use Rattle.ferry_carry.proofs.copy.Copy.write_content.Goals as goal
use Rattle.ferry_piece.specs.Adding.{AddsOn}
use Rattle.ferry_carry.specs.Copying.{BeginsChunk, WritesContent, writer_state}
use Rattle.ferry_piece.specs.Fault.{IsOfSource, source_fault}
use Rattle.ferry_piece.specs.Piece.{CountsOn, WritesOn}
use Rattle.ferry_piece.specs.Puts.{Addition, AreOf, Content, contents_in}
use Rattle.ferry_piece.specs.declared.fault.CarryFault.{CarryFault}
use Rattle.ferry_piece.specs.declared.piece.PieceWriter.{PieceWriter}
use Rattle.ferry_disk.specs.Device.{told_files}
use Rattle.ferry_repo.specs.Archives.{HoldsContent}
use Rattle.ferry_repo.specs.Opening.{repo_view}
use Rattle.ferry_piece.proofs.FewLemmas.{source_unused}

pub returns-in_err-content-clause-written : goal.returns-in_err-content-clause-written
returns-in_err-content-clause-written g c =
    let store = c.args.store.now in
    let a = g.D.Shelf.told c.args.depot.now in
    let n = g.D.Shelf.faults c.args.depot.now in
    let writer = c.args.self.now.contents in
    let told = g.S.Shelf.told c.args.shelf.now in
    let source = repo_view c.args.source.now in
    let fault = c.in_err-content.field-0.0 in
    let none : List Addition = [] in (
      [],
      err_is c.from_residual.result (source_fault fault)
          (λ (r : Result (Unit {0}) CarryFault). AddsOn writer.checkpoint store [] store a a n n r
          × (AreOf Content [] × (BeginsChunk told source c.args.chunk.now writer.cutter []
          × ((IfErr r (λ f. IsOfSource f → none ≡ []))
          × OnOk r (WritesContent told source (repo_view store.repo).keys c.args.chunk.now (writer_state writer.cutter writer.chunks.items) []
          (writer_state writer.cutter writer.chunks.items) × CountsOn Content writer [] writer))))) c.from_residual.ensures.1 (
            gathered_nothing {T = Unit {0}} writer.checkpoint store a n (source_fault fault) (source_still fault) (source_unbroken fault)
                (source_unused fault),
            (tt, (inl refl, (λ of. refl, tt))),
          ),
    )

pub returns-clause-written : goal.returns-clause-written
returns-clause-written g c =
    let wrote = c.write.ensures.written Content refl in
    let more = wrote.0 in
    let writer = c.foresee.new.writer in
    let writer_now = c.write.new.self in
    let told = g.S.Shelf.told c.args.shelf.now in
    let source = repo_view c.args.source.now in
    let store = c.args.store.now in
    let keys = (repo_view store.repo).keys in
    let ref = c.args.chunk.now in
    let content = c.deref.result.now in
    let r = c.write.result in
    let comes : IfSome told (λ t. HoldsContent (told_files t) source.log source.keys ref content) =
    subst (λ (bytes : List ℕ). IfSome told (λ t. HoldsContent (told_files t) source.log source.keys ref bytes)) (sym c.deref.ensures.value)
    c.in_ok-content.ensures.content in
    subst (λ (w : PieceWriter). (some : List Addition) × (AddsOn w.checkpoint store some c.write.new.store (g.D.Shelf.told c.args.depot.now)
    (g.D.Shelf.told c.write.new.depot) (g.D.Shelf.faults c.args.depot.now) (g.D.Shelf.faults c.write.new.depot) r
    × (AreOf Content some × (BeginsChunk told source ref w.cutter (contents_in some) × ((IfErr r (λ f. IsOfSource f → some ≡ []))
    × OnOk r (WritesContent told source keys ref (writer_state w.cutter w.chunks.items) (contents_in some) (writer_state writer_now.cutter
    writer_now.chunks.items)
    × CountsOn Content w some writer_now)))))) c.foresee.ensures.same (
      more,
      (
        wrote.1.0,
        (
          wrote.1.1.0,
          (
            inr (content, (comes, wrote.1.1.1.0)),
            (
              none_refused {T = Unit {0}} (more ≡ []) c.write.result c.write.ensures.target,
              ok_to {T = Unit {0}} (WritesOn keys writer.cutter writer.chunks.items content (contents_in more) writer_now.cutter writer_now.chunks.items
                  × CountsOn Content writer more writer_now)
                  (WritesContent told source keys ref (writer_state writer.cutter writer.chunks.items) (contents_in more) (writer_state writer_now.cutter
                  writer_now.chunks.items)
                  × CountsOn Content writer more writer_now) c.write.result
                  (λ writes. (record { content = content; comes = comes; writes = writes.0 }, writes.1)) wrote.1.1.1.1,
            ),
          ),
        ),
      ),
    )
