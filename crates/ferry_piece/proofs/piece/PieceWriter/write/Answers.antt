use Rattle.std.proofs.Common.{◌≡◌, ◌≤◌, ◌++◌, ◌-◌, ℕ, List, [], ◌∷◌, Result, Ok, Err, OnOk, length, take, drop, refl, sym, ◌∙◌, ap, subst, arith}
use Rattle.std.proofs.lemmas.List.{take_rest}
use Rattle.ferry_piece.proofs.GatherLemmas.{rest_here, rest_then}
use Rattle.ferry_piece.proofs.PieceLemmas.{WritesSoFar, all_written, begins_so_far, begins_written, counts_by, counts_none, counts_then, none_there}
use Rattle.ferry_piece.proofs.PieceLemmas.{none_written, one_written, pieces_then}
use Rattle.ferry_piece.proofs.PutsLemmas.{contents_append, of_append}
use Rattle.ferry_piece.proofs.WorkLemmas.{err_is, gathered_none}
use Rattle.ferry_piece.proofs.piece.PieceWriter.write.Goals as goal
use Rattle.ferry_piece.specs.Adding.{AddsOn}
use Rattle.ferry_piece.specs.Gather.{chunk_of}
use Rattle.ferry_piece.specs.Piece.{BeginsOn, CountsOn, WritesOn}
use Rattle.ferry_piece.specs.Puts.{AreOf, addition, contents_in}
use Rattle.ferry_piece.specs.declared.fault.CarryFault.{CarryFault}
use Rattle.ferry_rechunk.specs.Cutting.{Cutting}
use Rattle.ferry_repo.specs.Opening.{repo_view}

pub loop-rest-init : goal.loop-rest-init
loop-rest-init g c =
    let store = c.args.store.now in (
      c.requires.room,
      refl,
      c.requires.unspent,
      c.requires.fits,
      rest_here store,
      refl,
      c.requires.pending,
      λ kind piece. (
        [],
        (
          gathered_none {T = Unit {0}} c.args.self.now.checkpoint store (g.D.Shelf.told c.args.depot.now) (g.D.Shelf.faults c.args.depot.now) tt,
          (
            tt,
            (
              none_written (repo_view store.repo).keys c.args.self.now.cutter c.args.self.now.chunks.items c.args.bytes.now,
              counts_none kind c.args.self.now,
            ),
          ),
        ),
      ),
    )

pub returns-then-is_none-clause-written : goal.returns-then-is_none-clause-written
returns-then-is_none-clause-written g c kind piece =
    let invariant = c.loop-rest.invariant in
    let so = invariant.7 kind piece in
    let grown = c.feed-taken.new.self in
    let keys = (repo_view c.args.store.now.repo).keys in
    let writes = all_written keys c.args.self.now.cutter c.args.self.now.chunks.items c.args.bytes.now c.loop-rest.rest.now (contents_in so.0)
    c.loop-rest.self.cutter grown c.loop-rest.self.chunks.items c.feed-taken.result so.1.1.1.0 invariant.1 invariant.0 c.feed-taken.ensures.taken
    c.feed-taken.ensures.piece c.feed-taken.ensures.block c.feed-taken.ensures.fits
    (λ whole. none_there c.full.result c.if-is_none.ensures (c.full.ensures.full.1 whole)) in (
      so.0,
      (
        so.1.0,
        (
          so.1.1.0,
          (
            begins_written keys c.args.self.now.cutter c.args.self.now.chunks.items c.args.bytes.now (contents_in so.0) grown
                c.loop-rest.self.chunks.items c.requires.room writes,
            (
              writes,
              counts_by kind c.args.self.now c.args.self.now c.loop-rest.self (record c.loop-rest.self { cutter = grown }) so.0 refl refl refl refl
                  so.1.1.1.1,
            ),
          ),
        ),
      ),
    )

pub loop-rest-preserved : goal.loop-rest-preserved
loop-rest-preserved g c =
    let invariant = c.loop-rest.invariant in
    let store = c.args.store.now in
    let middle = c.loop-rest.store in
    let now = c.add.new.store in
    let grown = c.feed-taken.new.self in
    let most = c.args.self.now.checkpoint in
    let kept_most = invariant.5 in
    let keys = (repo_view store.repo).keys in
    let cleared : c.add.new.self.cutter.piece ≡ [] = c.in_ok-add.ensures.cleared in
    let none : length c.add.new.self.cutter.piece ≡ 0 = ap length cleared in
    let kept : c.add.new.self.cutter.block ≡ c.loop-rest.self.cutter.block = c.add.ensures.block ∙ c.feed-taken.ensures.block in
    let whole : length grown.piece ≡ grown.block = c.full.ensures.full.0 c.if-is_none.ensures in
    let put = c.in_ok-add.ensures.works in (
      omega (arith, none, kept, invariant.0),
      kept ∙ invariant.1,
      c.in_ok-add.ensures.unspent,
      c.in_ok-add.ensures.fits,
      rest_then store middle now invariant.4 c.in_ok-add.ensures.rest,
      c.in_ok-add.ensures.checkpoint ∙ kept_most,
      subst (λ (count : ℕ). c.add.new.store.pending ≤ count) kept_most c.in_ok-add.ensures.pending,
      λ kind piece.
          let so = invariant.7 kind piece in
          let one = addition kind grown.piece put.0 in
          let behind = take (length c.loop-rest.rest.now - c.feed-taken.result) (drop c.feed-taken.result c.loop-rest.rest.now) in
          let next = put.1 kind piece in (
            so.0 ++ one ∷ [],
            (
              pieces_then {T = Unit {0}} {U = Unit {0}} most most c.loop-rest.self.checkpoint store middle now so.0 (one ∷ [])
                  (g.D.Shelf.told c.args.depot.now)
                  (g.D.Shelf.told c.loop-rest.depot) (g.D.Shelf.told c.add.new.depot) (g.D.Shelf.faults c.args.depot.now)
                  (g.D.Shelf.faults c.loop-rest.depot) (g.D.Shelf.faults c.add.new.depot) tt (Ok tt) refl kept_most invariant.4
                  c.in_ok-add.ensures.rest so.1.0 next.0,
              (
                of_append kind so.0 (one ∷ []) so.1.1.0 (refl, tt),
                (
                  subst (λ (contents : List (List ℕ)). WritesSoFar keys c.args.self.now.cutter c.args.self.now.chunks.items c.args.bytes.now behind contents
                      c.add.new.self.cutter c.add.new.self.chunks.items) (sym (contents_append so.0 (one ∷ [])))
                      (one_written keys (repo_view middle.repo).keys c.args.self.now.cutter c.args.self.now.chunks.items c.args.bytes.now
                      c.loop-rest.rest.now behind (contents_in so.0) c.loop-rest.self.cutter grown c.add.new.self.cutter c.loop-rest.self.chunks.items
                      c.add.new.self.chunks.items c.feed-taken.result so.1.1.1.0 invariant.4.keys invariant.1 c.feed-taken.ensures.block
                      c.feed-taken.ensures.piece whole (take_rest c.loop-rest.rest.now c.feed-taken.result) c.in_ok-add.ensures.chunks cleared),
                  counts_then kind c.args.self.now c.loop-rest.self c.add.new.self so.0 (one ∷ []) so.1.1.1.1
                      (counts_by kind (record c.loop-rest.self { cutter = grown }) c.loop-rest.self c.add.new.self c.add.new.self (one ∷ []) refl refl
                      refl refl next.1),
                ),
              ),
            ),
          ),
    )

pub returns-in_err-add-clause-written : goal.returns-in_err-add-clause-written
returns-in_err-add-clause-written g c kind piece =
    let invariant = c.loop-rest.invariant in
    let so = invariant.7 kind piece in
    let store = c.args.store.now in
    let middle = c.loop-rest.store in
    let now = c.add.new.store in
    let writer = c.args.self.now in
    let writer_now = c.add.new.self in
    let grown = c.feed-taken.new.self in
    let put = c.in_err-add.ensures.works in
    let one = addition kind grown.piece put.0 in
    let more = so.0 ++ one ∷ [] in
    let a = g.D.Shelf.told c.args.depot.now in
    let b = g.D.Shelf.told c.add.new.depot in
    let n = g.D.Shelf.faults c.args.depot.now in
    let m = g.D.Shelf.faults c.add.new.depot in
    let most = c.args.self.now.checkpoint in
    let keys = (repo_view store.repo).keys in
    let kept_most = invariant.5 in
    let whole : length grown.piece ≡ grown.block = c.full.ensures.full.0 c.if-is_none.ensures in
    let bytes = c.args.bytes.now in
    let none : Cutting = record { block = grown.block; piece = [] } in
    let chunks_now = c.loop-rest.self.chunks.items ++ chunk_of (repo_view middle.repo).keys grown.piece ∷ [] in
    let fault = c.in_err-add.field-0.0 in (
      more,
      err_is c.from_residual.result fault
          (λ (r : Result (Unit {0}) CarryFault). AddsOn most store more now a b n m r
          × (AreOf kind more × (BeginsOn writer.cutter bytes (contents_in more)
          × OnOk r (WritesOn keys writer.cutter writer.chunks.items bytes (contents_in more) writer_now.cutter writer_now.chunks.items
          × CountsOn kind writer more writer_now)))) c.from_residual.ensures.1 (
            pieces_then {T = Unit {0}} {U = Unit {0}} most most c.loop-rest.self.checkpoint store middle now so.0 (one ∷ []) a
                (g.D.Shelf.told c.loop-rest.depot) b n (g.D.Shelf.faults c.loop-rest.depot) m tt (Err fault) refl kept_most invariant.4 tt so.1.0
                (put.1 kind piece).0,
            (
              of_append kind so.0 (one ∷ []) so.1.1.0 (refl, tt),
              (
                subst (BeginsOn writer.cutter bytes) (sym (contents_append so.0 (one ∷ [])))
                    (begins_so_far keys writer.cutter writer.chunks.items bytes _ (contents_in so.0 ++ grown.piece ∷ []) none chunks_now
                    c.requires.room
                    (one_written keys (repo_view middle.repo).keys writer.cutter writer.chunks.items bytes c.loop-rest.rest.now _ (contents_in so.0)
                    c.loop-rest.self.cutter grown none c.loop-rest.self.chunks.items chunks_now c.feed-taken.result so.1.1.1.0 invariant.4.keys
                    invariant.1 c.feed-taken.ensures.block c.feed-taken.ensures.piece whole (take_rest c.loop-rest.rest.now c.feed-taken.result) refl
                    refl)),
                tt,
              ),
            ),
          ),
    )
