use Rattle.std.proofs.Common.{[], List, Option, None, Some, Result, IfErr, IfOk, OnOk, refl, sym, subst, ap, ◌∙◌}
use Rattle.ferry_piece.proofs.PieceLemmas.{counts_none}
use Rattle.ferry_piece.proofs.WorkLemmas.{err_is, gathered_err, gathered_none}
use Rattle.ferry_carry.proofs.copy.Copy.copy_chunks.Goals as goal
use Rattle.ferry_carry.specs.Copying.{BeginsContent, CopiesContent}
use Rattle.ferry_carry.specs.Filling.{FillsContent, WhereSource}
use Rattle.ferry_piece.specs.Adding.{AddsOn}
use Rattle.ferry_piece.specs.Piece.{CountsOn}
use Rattle.ferry_piece.specs.Puts.{Addition, AreOf, Content, contents_in}
use Rattle.ferry_piece.specs.declared.fault.CarryFault.{CarryFault}
use Rattle.ferry_item.specs.declared.item.ChunkRef.{ChunkRef}
use Rattle.ferry_item.specs.declared.item.ChunkRefs.{ChunkRefs}
use Rattle.ferry_repo.specs.Opening.{repo_view}

pub returns-in_err-copied-in-Some-clause-copied : goal.returns-in_err-copied-in-Some-clause-copied
returns-in_err-copied-in-Some-clause-copied g c =
    let copied = c.in_err-copied-in-Some.ensures.copied in
    let more = copied.0 in
    let contents = c.args.self.now.contents in
    let contents_now = c.copy_content.new.self.contents in
    let block = c.args.self.now.block in
    let most = contents.checkpoint in
    let store = c.args.store.now in
    let now = c.copy_content.new.store in
    let a = g.D.Shelf.told c.args.depot.now in
    let b = g.D.Shelf.told c.copy_content.new.depot in
    let n = g.D.Shelf.faults c.args.depot.now in
    let m = g.D.Shelf.faults c.copy_content.new.depot in
    let told = g.S.Shelf.told c.args.shelf.now in
    let source = repo_view c.args.source.now in
    let keys = (repo_view store.repo).keys in
    let refs = c.as_slice.result.now in
    let fault = c.in_err-copied-in-Some.field-0.0 in
    subst (λ (chunks : Option (List ChunkRef)). (some : List Addition) × (AddsOn {T = Option ChunkRefs} most store some now a b n m c.from_residual.result
    × (AreOf Content some × (BeginsContent told source block chunks (contents_in some)
    × ((IfErr c.from_residual.result (λ f. WhereSource told f (λ there refusal. FillsContent there source block chunks refusal (contents_in some))))
    × (IfOk c.from_residual.result (CopiesContent told source block keys chunks (contents_in some))
    × OnOk c.from_residual.result (CountsOn Content contents some contents_now))))))) (sym (c.in-Some.is ∙ ap Some (sym c.as_slice.ensures.chunks))) (
      more,
      err_is c.from_residual.result fault
          (λ (r : Result (Option ChunkRefs) CarryFault). AddsOn most store more now a b n m r
          × (AreOf Content more × (BeginsContent told source block (Some refs) (contents_in more)
          × ((IfErr r (λ f. WhereSource told f (λ there refusal. FillsContent there source block (Some refs) refusal (contents_in more))))
          × (IfOk r (CopiesContent told source block keys (Some refs) (contents_in more))
          × OnOk r (CountsOn Content contents more contents_now)))))) c.from_residual.ensures.1 (
            gathered_err {T = ChunkRefs} {U = Option ChunkRefs} most store now more a b n m fault copied.1.0,
            (copied.1.1.0, (copied.1.1.1.0, (copied.1.1.1.1.0, (tt, tt)))),
          ),
    )

pub returns-in-None-clause-copied : goal.returns-in-None-clause-copied
returns-in-None-clause-copied g c =
    let store = c.args.store.now in
    let told = g.S.Shelf.told c.args.shelf.now in
    let source = repo_view c.args.source.now in
    let block = c.args.self.now.block in
    let keys = (repo_view store.repo).keys in (
      [],
      (
        gathered_none {T = Option ChunkRefs} c.args.self.now.contents.checkpoint store (g.D.Shelf.told c.args.depot.now) (g.D.Shelf.faults c.args.depot.now)
            None,
        (
          tt,
          (
            subst (λ (chunks : Option (List ChunkRef)). BeginsContent told source block chunks []) (sym c.in-None.is) refl,
            (
              tt,
              (
                subst (λ (chunks : Option (List ChunkRef)). CopiesContent told source block keys chunks [] None) (sym c.in-None.is) refl,
                counts_none Content c.args.self.now.contents,
              ),
            ),
          ),
        ),
      ),
    )
