use Rattle.std.proofs.Common.{◌<◌, ◌+◌, ◌++◌, ℕ, List, [], Some, length, take, refl, sym, ◌∙◌, subst, arith, IfSome}
use Rattle.ferry_carry.proofs.CopyLemmas.{contents_all, contents_written, nothing_written}
use Rattle.ferry_piece.proofs.PutsLemmas.{contents_append}
use Rattle.ferry_carry.proofs.RefusalLemmas.{contents_refused}
use Rattle.ferry_carry.specs.Copying.{WritesContents, writer_state}
use Rattle.ferry_piece.specs.Puts.{Content, contents_in}
use Rattle.ferry_piece.specs.declared.fault.CarryFault.TheVariants.{Source}
use Rattle.ferry_disk.specs.Device.{told_files}
use Rattle.ferry_plan.proofs.TallyLemmas.{takes_none, takes_then}
use Rattle.ferry_plan.proofs.contents.write_contents.Goals as goal
use Rattle.ferry_repo.proofs.FaultLemmas.{gives_err}
use Rattle.ferry_repo.specs.Fault.{IsOfFiles}
use Rattle.ferry_repo.specs.Opening.{repo_view}
use Rattle.ferry_repo.specs.Archives.{RefusesJoined}
use Rattle.ferry_repo.specs.declared.fault.RepoFault.{RepoFault}

pub loop-place-init : goal.loop-place-init
loop-place-init g c =
    let target = repo_view c.args.target.now in
    let pieces = c.args.pieces.now in
    record {
      room = c.requires.room;
      block = refl;
      source_fits = c.requires.source_fits;
      repo = refl;
      alike = refl;
      faults = refl;
      written = (
        [],
        (
          takes_none Content target.keys target.log c.args.known.now pieces pieces refl refl,
          nothing_written (g.S.Shelf.told c.args.shelf.now) (repo_view c.args.source.now) target.keys pieces.cutter pieces.chunks.items c.requires.room,
        ),
      );
    }

pub loop-place-preserved : goal.loop-place-preserved
loop-place-preserved g c =
    let invariant = c.loop-place.invariant in
    let so = invariant.written in
    let next = c.in_ok-write_content.ensures.written in
    let target = repo_view c.args.target.now in
    let pieces = c.args.pieces.now in
    let middle = c.loop-place.pieces in
    let now = c.write_content.new.pieces in
    let told = g.S.Shelf.told c.args.shelf.now in
    let source = repo_view c.args.source.now in
    let lt : c.loop-place.place < length c.args.chunks.now = omega arith in
    record {
      room = next.1.1.writes.room;
      block = next.1.1.writes.block ∙ invariant.block;
      source_fits = c.in_ok-write_content.ensures.source_fits;
      repo = c.in_ok-write_content.ensures.kept ∙ invariant.repo;
      alike = c.in_ok-write_content.ensures.same ∙ invariant.alike;
      faults = c.in_ok-write_content.ensures.cause ∙ invariant.faults;
      written = (
        so.0 ++ next.0,
        (
          takes_then Content target.keys target.log c.args.known.now c.loop-place.known c.write_content.new.known pieces middle now so.0 next.0 so.1.0
              next.1.0,
          subst (λ (contents : List (List ℕ)). WritesContents told source target.keys (take (c.loop-place.place + 1) c.args.chunks.now)
              (writer_state pieces.cutter pieces.chunks.items) contents (writer_state now.cutter now.chunks.items)) (sym (contents_append so.0 next.0))
              (contents_written told (g.S.Shelf.told c.loop-place.shelf) source (repo_view c.loop-place.source) target.keys target.keys c.args.chunks.now
              c.loop-place.place _ pieces.cutter middle.cutter now.cutter pieces.chunks.items middle.chunks.items now.chunks.items (contents_in so.0)
              (contents_in next.0) invariant.alike invariant.repo refl lt so.1.1 next.1.1),
        ),
      );
    }

pub returns-clause-written : goal.returns-clause-written
returns-clause-written g c =
    let so = c.loop-place.invariant.written in
    let pieces = c.args.pieces.now in
    let now = c.loop-place.pieces in (
      so.0,
      (
        so.1.0,
        contents_all (g.S.Shelf.told c.args.shelf.now) (repo_view c.args.source.now) (repo_view c.args.target.now).keys c.args.chunks.now c.loop-place.place
            pieces.cutter now.cutter pieces.chunks.items now.chunks.items (contents_in so.0) c.loop-place-test.false so.1.1,
      ),
    )

pub returns-in_err-write_content-clause-refused : goal.returns-in_err-write_content-clause-refused
returns-in_err-write_content-clause-refused g c =
    let invariant = c.loop-place.invariant in
    let told = g.S.Shelf.told c.args.shelf.now in
    let source = repo_view c.args.source.now in
    let chunks = c.args.chunks.now in
    let lt : c.loop-place.place < length chunks = omega arith in
    gives_err c.from_residual.result _ _ c.from_residual.ensures.1
    (λ fault is. subst (λ (f : RepoFault). IsOfFiles f
    → IfSome told (λ t. RefusesJoined (told_files t) source.log source.keys (Some chunks) f)) (sym is)
    (contents_refused told (g.S.Shelf.told c.loop-place.shelf) source (repo_view c.loop-place.source) chunks c.loop-place.place _
    invariant.written.1.1.contents (Source c.in_err-write_content.field-0.0) invariant.alike invariant.repo lt invariant.written.1.1.come
    c.in_err-write_content.ensures.refused))
