use Rattle.std.proofs.Common.{◌≡◌, ◌≤◌, ◌++◌, ℕ, List, [], inl, Some, Result, Ok, Err, IfErr, IfOk, OnOk, length, refl, sym, ◌∙◌, ap, subst, arith}
use Rattle.ferry_carry.proofs.CopyLemmas.{contents_begun, contents_from, content_copied, content_whole}
use Rattle.ferry_carry.proofs.FillingLemmas.{filled_from, where_target}
use Rattle.ferry_piece.proofs.PieceLemmas.{counts_then, pieces_then}
use Rattle.ferry_piece.proofs.PutsLemmas.{contents_append, of_append}
use Rattle.ferry_piece.proofs.WorkLemmas.{err_is, gathered_as, gathered_err, gathered_fault, gathered_nothing}
use Rattle.ferry_carry.proofs.copy.Copy.cut_content.Goals as goal
use Rattle.ferry_piece.specs.Adding.{AddsOn}
use Rattle.ferry_carry.specs.Copying.{BeginsContent, CopiesContent}
use Rattle.ferry_carry.specs.Filling.{FillsContent, WhereSource}
use Rattle.ferry_piece.specs.Piece.{CountsOn}
use Rattle.ferry_piece.specs.Puts.{AreOf, Content, contents_in}
use Rattle.ferry_piece.specs.declared.fault.CarryFault.{CarryFault}
use Rattle.ferry_piece.specs.declared.fault.CarryFault.TheVariants.{Memory, Pieces}
use Rattle.ferry_item.specs.declared.item.ChunkRef.{ChunkRef}
use Rattle.ferry_item.specs.declared.item.ChunkRefs.{ChunkRefs}
use Rattle.ferry_rechunk.specs.Cut.{cut}
use Rattle.ferry_repo.specs.Opening.{repo_view}
use Rattle.ferry_piece.proofs.FewLemmas.{memory_unused}

pub returns-then-total_size-self-clause-copied : goal.returns-then-total_size-self-clause-copied
returns-then-total_size-self-clause-copied g c =
    let store = c.args.store.now in (
      [],
      (
        gathered_nothing {T = ChunkRefs} c.args.self.now.contents.checkpoint store (g.D.Shelf.told c.args.depot.now)
            (g.D.Shelf.faults c.args.depot.now) Pieces refl tt (λ e. let no : ⊥ = cc in no),
        (
          tt,
          (
            inl (contents_begun (g.S.Shelf.told c.args.shelf.now) (repo_view c.args.source.now) c.args.chunks.now
                (record { block = c.args.self.now.block; piece = [] })),
            (tt, (tt, tt)),
          ),
        ),
      ),
    )

pub returns-in_err-write_parts-clause-copied : goal.returns-in_err-write_parts-clause-copied
returns-in_err-write_parts-clause-copied g c =
    let wrote = c.in_err-write_parts.ensures.written in
    let more = wrote.0 in
    let ready = c.requires.ready in
    let contents = c.args.self.now.contents in
    let contents_now = c.write_parts.new.self.contents in
    let block = c.args.self.now.block in
    let most = contents.checkpoint in
    let store = c.args.store.now in
    let now = c.write_parts.new.store in
    let a = g.D.Shelf.told c.args.depot.now in
    let b = g.D.Shelf.told c.write_parts.new.depot in
    let n = g.D.Shelf.faults c.args.depot.now in
    let m = g.D.Shelf.faults c.write_parts.new.depot in
    let told = g.S.Shelf.told c.args.shelf.now in
    let source = repo_view c.args.source.now in
    let keys = (repo_view store.repo).keys in
    let refs = c.args.chunks.now in
    let fault = c.in_err-write_parts.field-0.0 in (
      more,
      err_is c.from_residual.result fault
          (λ (r : Result ChunkRefs CarryFault). AddsOn most store more now a b n m r
          × (AreOf Content more × (BeginsContent told source block (Some refs) (contents_in more)
          × ((IfErr r (λ f. WhereSource told f (λ there refusal. FillsContent there source block (Some refs) refusal (contents_in more))))
          × (IfOk r (λ copied. CopiesContent told source block keys (Some refs) (contents_in more) (Some copied))
          × OnOk r (CountsOn Content contents more contents_now)))))) c.from_residual.ensures.1 (
            gathered_err {T = Unit {0}} {U = ChunkRefs} most store now more a b n m fault wrote.1.0,
            (
              wrote.1.1.0,
              (
                inl (contents_from told source refs block contents.cutter (contents_in more) ready.contents_block ready.contents_piece wrote.1.1.1.0),
                (
                  filled_from told source refs block contents.cutter fault (contents_in more) ready.contents_block ready.contents_piece wrote.1.1.1.1.0,
                  (tt, tt),
                ),
              ),
            ),
          ),
    )

pub returns-in_err-copied-clause-copied : goal.returns-in_err-copied-clause-copied
returns-in_err-copied-clause-copied g c =
    let wrote = c.in_ok-write_parts.ensures.written in
    let last = c.in_err-copied.ensures.works Content refl in
    let more = wrote.0 ++ last.0 in
    let ready = c.requires.ready in
    let contents = c.args.self.now.contents in
    let left = c.write_parts.new.self.contents in
    let contents_now = c.finish.new.self in
    let block = c.args.self.now.block in
    let most = contents.checkpoint in
    let store = c.args.store.now in
    let now = c.finish.new.store in
    let a = g.D.Shelf.told c.args.depot.now in
    let b = g.D.Shelf.told c.finish.new.depot in
    let n = g.D.Shelf.faults c.args.depot.now in
    let m = g.D.Shelf.faults c.finish.new.depot in
    let told = g.S.Shelf.told c.args.shelf.now in
    let source = repo_view c.args.source.now in
    let keys = (repo_view store.repo).keys in
    let refs = c.args.chunks.now in
    let least : 1 ≤ block = omega (arith, ready.least) in
    let pieces : contents_in more ≡ contents_in wrote.0 ++ cut left.cutter.block left.cutter.piece =
    contents_append wrote.0 last.0 ∙ ap (λ (ps : List (List ℕ)). contents_in wrote.0 ++ ps) last.1.1.0.0 in
    let fault = c.in_err-copied.field-0.0 in (
      more,
      err_is c.from_residual-in_err-copied.result fault
          (λ (r : Result ChunkRefs CarryFault). AddsOn most store more now a b n m r
          × (AreOf Content more × (BeginsContent told source block (Some refs) (contents_in more)
          × ((IfErr r (λ f. WhereSource told f (λ there refusal. FillsContent there source block (Some refs) refusal (contents_in more))))
          × (IfOk r (λ copied. CopiesContent told source block keys (Some refs) (contents_in more) (Some copied))
          × OnOk r (CountsOn Content contents more contents_now)))))) c.from_residual-in_err-copied.ensures.1 (
            gathered_err {U = ChunkRefs} most store now more a b n m fault
                (pieces_then {T = Unit {0}} most most left.checkpoint store c.write_parts.new.store now wrote.0 last.0 a
                (g.D.Shelf.told c.write_parts.new.depot) b n
                (g.D.Shelf.faults c.write_parts.new.depot) m tt (Err fault) refl c.in_ok-write_parts.ensures.checkpoint
                c.in_ok-write_parts.ensures.both.target.rest tt wrote.1.0 last.1.0),
            (
              of_append Content wrote.0 last.0 wrote.1.1.0 last.1.1.0.1,
              (
                content_whole told source block keys refs contents.cutter left.cutter contents.chunks.items left.chunks.items (contents_in wrote.0)
                    (contents_in more) least ready.contents_block ready.contents_piece pieces wrote.1.1.1.1.1.0,
                (
                  where_target told fault (λ there refusal. FillsContent there source block (Some refs) refusal (contents_in more))
                      c.in_err-copied.ensures.target,
                  (tt, tt),
                ),
              ),
            ),
          ),
    )

pub returns-then-len-clause-copied : goal.returns-then-len-clause-copied
returns-then-len-clause-copied g c =
    let wrote = c.in_ok-write_parts.ensures.written in
    let last = c.in_ok-copied.ensures.works Content refl in
    let more = wrote.0 ++ last.0 in
    let ready = c.requires.ready in
    let contents = c.args.self.now.contents in
    let left = c.write_parts.new.self.contents in
    let block = c.args.self.now.block in
    let most = contents.checkpoint in
    let store = c.args.store.now in
    let now = c.finish.new.store in
    let a = g.D.Shelf.told c.args.depot.now in
    let b = g.D.Shelf.told c.finish.new.depot in
    let n = g.D.Shelf.faults c.args.depot.now in
    let m = g.D.Shelf.faults c.finish.new.depot in
    let least : 1 ≤ block = omega (arith, ready.least) in
    let pieces : contents_in more ≡ contents_in wrote.0 ++ cut left.cutter.block left.cutter.piece =
    contents_append wrote.0 last.0 ∙ ap (λ (ps : List (List ℕ)). contents_in wrote.0 ++ ps) last.1.1.0.0 in (
      more,
      (
        gathered_fault {U = ChunkRefs} most store now more a b n m c.in_ok-copied.copied Memory refl tt memory_unused
            (pieces_then {T = Unit {0}} most most left.checkpoint store c.write_parts.new.store now wrote.0 last.0 a
            (g.D.Shelf.told c.write_parts.new.depot) b n
            (g.D.Shelf.faults c.write_parts.new.depot) m tt (Ok c.in_ok-copied.copied) refl c.in_ok-write_parts.ensures.checkpoint
            c.in_ok-write_parts.ensures.both.target.rest
            c.in_ok-copied.ensures.rest wrote.1.0 last.1.0),
        (
          of_append Content wrote.0 last.0 wrote.1.1.0 last.1.1.0.1,
          (
            content_whole (g.S.Shelf.told c.args.shelf.now) (repo_view c.args.source.now) block (repo_view store.repo).keys c.args.chunks.now
                contents.cutter left.cutter contents.chunks.items left.chunks.items (contents_in wrote.0) (contents_in more) least
                ready.contents_block ready.contents_piece pieces wrote.1.1.1.1.1.0,
            (tt, (tt, tt)),
          ),
        ),
      ),
    )

pub returns-clause-copied : goal.returns-clause-copied
returns-clause-copied g c =
    let wrote = c.in_ok-write_parts.ensures.written in
    let last = c.in_ok-copied.ensures.works Content refl in
    let more = wrote.0 ++ last.0 in
    let ready = c.requires.ready in
    let contents = c.args.self.now.contents in
    let left = c.write_parts.new.self.contents in
    let block = c.args.self.now.block in
    let most = contents.checkpoint in
    let store = c.args.store.now in
    let middle = c.write_parts.new.store in
    let now = c.finish.new.store in
    let a = g.D.Shelf.told c.args.depot.now in
    let b = g.D.Shelf.told c.finish.new.depot in
    let n = g.D.Shelf.faults c.args.depot.now in
    let m = g.D.Shelf.faults c.finish.new.depot in
    let least : 1 ≤ block = omega (arith, ready.least) in
    let few : length c.in_ok-copied.copied.items ≤ 4294967295 = omega arith in
    let told = g.S.Shelf.told c.args.shelf.now in
    let source = repo_view c.args.source.now in
    let keys = (repo_view store.repo).keys in
    let refs = c.args.chunks.now in
    let pieces : contents_in more ≡ contents_in wrote.0 ++ cut left.cutter.block left.cutter.piece =
    contents_append wrote.0 last.0 ∙ ap (λ (ps : List (List ℕ)). contents_in wrote.0 ++ ps) last.1.1.0.0 in (
      more,
      (
        gathered_as {U = ChunkRefs} most store now more a b n m c.in_ok-copied.copied c.new.result
            (pieces_then {T = Unit {0}} most most left.checkpoint store middle now wrote.0 last.0 a
            (g.D.Shelf.told c.write_parts.new.depot) b n
            (g.D.Shelf.faults c.write_parts.new.depot) m tt (Ok c.in_ok-copied.copied) refl c.in_ok-write_parts.ensures.checkpoint
            c.in_ok-write_parts.ensures.both.target.rest
            c.in_ok-copied.ensures.rest wrote.1.0 last.1.0),
        (
          of_append Content wrote.0 last.0 wrote.1.1.0 last.1.1.0.1,
          (
            content_whole told source block keys refs contents.cutter left.cutter contents.chunks.items left.chunks.items (contents_in wrote.0)
                (contents_in more) least ready.contents_block ready.contents_piece pieces wrote.1.1.1.1.1.0,
            (
              tt,
              (
                subst (λ (ps : List (List ℕ)). CopiesContent told source block keys (Some refs) ps (Some c.new.result)) (sym pieces)
                    (subst (λ (copied : List ChunkRef). CopiesContent told source block keys (Some refs)
                    (contents_in wrote.0 ++ cut left.cutter.block left.cutter.piece) (Some copied)) (sym c.new.ensures.chunks)
                    (content_copied told source block keys (repo_view middle.repo).keys refs contents.cutter left.cutter
                    contents.chunks.items left.chunks.items c.in_ok-copied.copied.items (contents_in wrote.0) least ready.contents_block
                    ready.contents_piece ready.contents_chunks c.in_ok-write_parts.ensures.both.target.rest.keys wrote.1.1.1.1.1.0
                    c.in_ok-copied.ensures.chunks
                    few)),
                counts_then Content contents left c.finish.new.self wrote.0 last.0 wrote.1.1.1.1.1.1 last.1.1.1,
              ),
            ),
          ),
        ),
      ),
    )
