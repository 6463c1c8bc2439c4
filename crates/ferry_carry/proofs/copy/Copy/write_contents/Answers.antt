use Rattle.std.proofs.Common.{◌≤◌, ◌<◌, ◌+◌, ◌++◌, ℕ, List, [], Result, Ok, Err, IfErr, OnOk, length, take, refl, sym, ◌∙◌, ap, subst, arith}
use Rattle.ferry_carry.proofs.CopyLemmas.{contents_all, contents_behind, contents_full, contents_written, nothing_written}
use Rattle.ferry_carry.proofs.FillingLemmas.{chunks_filled}
use Rattle.ferry_piece.proofs.GatherLemmas.{rest_here, rest_then}
use Rattle.ferry_piece.proofs.PieceLemmas.{counts_none, counts_then, pieces_then}
use Rattle.ferry_piece.proofs.PutsLemmas.{contents_append, of_append}
use Rattle.ferry_carry.proofs.RefusalLemmas.{contents_refused}
use Rattle.ferry_piece.proofs.WorkLemmas.{err_is, gathered_none}
use Rattle.ferry_carry.proofs.copy.Copy.write_contents.Goals as goal
use Rattle.ferry_piece.specs.Adding.{AddsOn}
use Rattle.ferry_carry.specs.Copying.{BeginsContents, WritesContents, writer_state}
use Rattle.ferry_carry.specs.Filling.{FillsChunks, WhereSource}
use Rattle.ferry_piece.specs.Piece.{CountsOn}
use Rattle.ferry_piece.specs.Puts.{AreOf, Content, contents_in}
use Rattle.ferry_carry.specs.Refusals.{RefusesContents}
use Rattle.ferry_carry.specs.declared.copy.Copy.{Copy}
use Rattle.ferry_piece.specs.declared.fault.CarryFault.{CarryFault}
use Rattle.ferry_repo.specs.Opening.{repo_view}

pub loop-place-init : goal.loop-place-init
loop-place-init g c =
    let store = c.args.store.now in
    record {
      room = c.requires.writer.room;
      block = refl;
      checkpoint = refl;
      others = refl;
      pending = c.requires.both.target.pending;
      unspent = c.requires.both.target.unspent;
      fits = c.requires.both.target.fits;
      rest = rest_here store;
      source_fits = c.requires.both.source;
      repo = refl;
      alike = refl;
      faults = refl;
      written = (
        [],
        (
          gathered_none {T = Unit {0}} c.args.self.now.contents.checkpoint store (g.D.Shelf.told c.args.depot.now) (g.D.Shelf.faults c.args.depot.now) tt,
          (
            tt,
            (
              nothing_written (g.S.Shelf.told c.args.shelf.now) (repo_view c.args.source.now) (repo_view store.repo).keys c.args.self.now.contents.cutter
                  c.args.self.now.contents.chunks.items c.requires.writer.room,
              counts_none Content c.args.self.now.contents,
            ),
          ),
        ),
      );
    }

pub returns-in_err-write_content-clause-written : goal.returns-in_err-write_content-clause-written
returns-in_err-write_content-clause-written g c =
    let so = c.loop-place.invariant.written in
    let next = c.in_err-write_content.ensures.written in
    let store = c.args.store.now in
    let now = c.write_content.new.store in
    let more = so.0 ++ next.0 in
    let a = g.D.Shelf.told c.args.depot.now in
    let b = g.D.Shelf.told c.write_content.new.depot in
    let n = g.D.Shelf.faults c.args.depot.now in
    let m = g.D.Shelf.faults c.write_content.new.depot in
    let writer = c.args.self.now.contents in
    let here = c.loop-place.self.contents in
    let writer_now = c.write_content.new.self.contents in
    let most = writer.checkpoint in
    let told = g.S.Shelf.told c.args.shelf.now in
    let source = repo_view c.args.source.now in
    let chunks = c.args.chunks.now in
    let lt : c.loop-place.place < length chunks = omega arith in
    let fault = c.in_err-write_content.field-0.0 in (
      more,
      err_is c.from_residual.result fault
          (λ (r : Result (Unit {0}) CarryFault). AddsOn most store more now a b n m r
          × (AreOf Content more × (BeginsContents told source chunks writer.cutter (contents_in more)
          × ((IfErr r (λ f. WhereSource told f (λ there refusal. FillsChunks there source chunks writer.cutter refusal (contents_in more))))
          × OnOk r (WritesContents told source (repo_view store.repo).keys chunks (writer_state writer.cutter writer.chunks.items) (contents_in more)
          (writer_state writer_now.cutter writer_now.chunks.items) × CountsOn Content writer more writer_now))))) c.from_residual.ensures.1 (
            pieces_then {T = Unit {0}} {U = Unit {0}} most most here.checkpoint store c.loop-place.store now so.0 next.0 a
                (g.D.Shelf.told c.loop-place.depot) b n
                (g.D.Shelf.faults c.loop-place.depot) m tt (Err fault) refl c.loop-place.invariant.checkpoint c.loop-place.invariant.rest tt so.1.0
                next.1.0,
            (
              of_append Content so.0 next.0 so.1.1.0 next.1.1.0,
              (
                subst (BeginsContents told source chunks writer.cutter) (sym (contents_append so.0 next.0))
                    (contents_behind told (g.S.Shelf.told c.loop-place.shelf) source (repo_view c.loop-place.source) (repo_view store.repo).keys chunks
                    c.loop-place.place _ writer.cutter here.cutter writer.chunks.items here.chunks.items
                    (contents_in so.0) (contents_in next.0) c.loop-place.invariant.alike c.loop-place.invariant.repo lt c.requires.writer.room so.1.1.1.0
                    next.1.1.1.0),
                (
                  subst (λ (ps : List (List ℕ)).
                      WhereSource told fault (λ there refusal. FillsChunks there source chunks writer.cutter refusal ps)) (sym (contents_append so.0 next.0))
                      (chunks_filled told (g.S.Shelf.told c.loop-place.shelf) source (repo_view c.loop-place.source) (repo_view store.repo).keys chunks
                      c.loop-place.place _ writer.cutter here.cutter writer.chunks.items here.chunks.items
                      (contents_in so.0) (contents_in next.0) fault c.loop-place.invariant.alike c.loop-place.invariant.repo lt c.requires.writer.room
                      so.1.1.1.0 (λ of. ap contents_in (next.1.1.1.1.0 of)) c.in_err-write_content.ensures.refused),
                  tt,
                ),
              ),
            ),
          ),
    )

pub loop-place-preserved : goal.loop-place-preserved
loop-place-preserved g c =
    let invariant = c.loop-place.invariant in
    let so = invariant.written in
    let next = c.in_ok-write_content.ensures.written in
    let store = c.args.store.now in
    let middle = c.loop-place.store in
    let now = c.write_content.new.store in
    let writer = c.args.self.now.contents in
    let here = c.loop-place.self.contents in
    let writer_now = c.write_content.new.self.contents in
    let told = g.S.Shelf.told c.args.shelf.now in
    let source = repo_view c.args.source.now in
    let keys = (repo_view store.repo).keys in
    let lt : c.loop-place.place < length c.args.chunks.now = omega arith in
    record {
      room = next.1.1.1.1.1.0.writes.room;
      block = next.1.1.1.1.1.0.writes.block ∙ invariant.block;
      checkpoint = c.in_ok-write_content.ensures.checkpoint ∙ invariant.checkpoint;
      others = c.in_ok-write_content.ensures.others ∙ ap (λ (was : Copy). record was { contents = writer_now }) invariant.others;
      pending = subst (λ (count : ℕ). now.pending ≤ count) invariant.checkpoint c.in_ok-write_content.ensures.both.target.pending;
      unspent = c.in_ok-write_content.ensures.both.target.unspent;
      fits = c.in_ok-write_content.ensures.both.target.fits;
      rest = rest_then store middle now invariant.rest c.in_ok-write_content.ensures.both.target.rest;
      source_fits = c.in_ok-write_content.ensures.both.source.fits;
      repo = c.in_ok-write_content.ensures.both.source.kept ∙ invariant.repo;
      alike = c.in_ok-write_content.ensures.both.source.same ∙ invariant.alike;
      faults = c.in_ok-write_content.ensures.both.source.cause ∙ invariant.faults;
      written = (
        so.0 ++ next.0,
        (
          pieces_then {T = Unit {0}} {U = Unit {0}} writer.checkpoint writer.checkpoint here.checkpoint store middle now
              so.0 next.0 (g.D.Shelf.told c.args.depot.now)
              (g.D.Shelf.told c.loop-place.depot) (g.D.Shelf.told c.write_content.new.depot) (g.D.Shelf.faults c.args.depot.now)
              (g.D.Shelf.faults c.loop-place.depot) (g.D.Shelf.faults c.write_content.new.depot) tt (Ok tt) refl invariant.checkpoint invariant.rest
              c.in_ok-write_content.ensures.both.target.rest so.1.0 next.1.0,
          (
            of_append Content so.0 next.0 so.1.1.0 next.1.1.0,
            (
              subst (λ (pieces : List (List ℕ)). WritesContents told source keys (take (c.loop-place.place + 1) c.args.chunks.now) (writer_state
                  writer.cutter writer.chunks.items) pieces (writer_state writer_now.cutter writer_now.chunks.items)) (sym (contents_append so.0 next.0))
                  (contents_written told (g.S.Shelf.told c.loop-place.shelf) source (repo_view c.loop-place.source) keys (repo_view middle.repo).keys
                  c.args.chunks.now c.loop-place.place _ writer.cutter here.cutter writer_now.cutter writer.chunks.items
                  here.chunks.items writer_now.chunks.items (contents_in so.0) (contents_in next.0) invariant.alike invariant.repo
                  invariant.rest.keys lt so.1.1.1.0 next.1.1.1.1.1.0),
              counts_then Content writer here writer_now so.0 next.0 so.1.1.1.1 next.1.1.1.1.1.1,
            ),
          ),
        ),
      );
    }

pub returns-clause-written : goal.returns-clause-written
returns-clause-written g c =
    let so = c.loop-place.invariant.written in
    let writer = c.args.self.now.contents in
    let writer_now = c.loop-place.self.contents in
    let told = g.S.Shelf.told c.args.shelf.now in
    let source = repo_view c.args.source.now in
    let keys = (repo_view c.args.store.now.repo).keys in
    let chunks = c.args.chunks.now in
    let all = contents_all told source keys chunks c.loop-place.place writer.cutter writer_now.cutter writer.chunks.items writer_now.chunks.items
    (contents_in so.0) c.loop-place-test.false so.1.1.1.0 in (
      so.0,
      (
        so.1.0,
        (
          so.1.1.0,
          (
            contents_full told source keys chunks writer.cutter writer_now.cutter writer.chunks.items writer_now.chunks.items (contents_in so.0)
                c.requires.writer.room all,
            (tt, (all, so.1.1.1.1)),
          ),
        ),
      ),
    )

pub returns-in_err-write_content-clause-refused : goal.returns-in_err-write_content-clause-refused
returns-in_err-write_content-clause-refused g c =
    let invariant = c.loop-place.invariant in
    let fault = c.in_err-write_content.field-0.0 in
    let told = g.S.Shelf.told c.args.shelf.now in
    let source = repo_view c.args.source.now in
    let chunks = c.args.chunks.now in
    let lt : c.loop-place.place < length chunks = omega arith in
    err_is c.from_residual.result fault (λ (r : Result (Unit {0}) CarryFault). IfErr r (RefusesContents told source chunks)) c.from_residual.ensures.1
    (contents_refused told (g.S.Shelf.told c.loop-place.shelf) source (repo_view c.loop-place.source) chunks c.loop-place.place _
    invariant.written.1.1.1.0.contents fault invariant.alike invariant.repo lt invariant.written.1.1.1.0.come c.in_err-write_content.ensures.refused)
