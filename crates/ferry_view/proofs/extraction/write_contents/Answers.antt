use Rattle.std.proofs.Common.{◌<◌, ◌++◌, length, IfSome, option_map, sym, ◌∙◌, ap, subst, arith}
use Rattle.std.proofs.lemmas.List.{take_all}
use Rattle.ferry_disk.specs.Device.{told_files, WritesSome}
use Rattle.ferry_repo.specs.Opening.{repo_view}
use Rattle.ferry_repo.proofs.FaultLemmas.{gives_err}
use Rattle.ferry_view.specs.Output.{IsOfArchive}
use Rattle.ferry_view.specs.Steps.{EndsContents}
use Rattle.ferry_view.specs.declared.fault.ViewFault.{ViewFault}
use Rattle.ferry_view.proofs.ContentLemmas.{writes_next, writes_some, writes_cut, writes_end, writes_refused, writes_stopped}
use Rattle.ferry_view.proofs.OutputLemmas.{err_holds}
use Rattle.ferry_view.proofs.ShownLemmas.{log_fits}
use Rattle.ferry_view.proofs.extraction.write_contents.Goals as goal

pub returns-in_err-content-clause-err : goal.returns-in_err-content-clause-err
returns-in_err-content-clause-err g c =
    err_holds _ _ (writes_some (g.S.Shelf.told c.args.shelf.now) (repo_view c.args.repo.now) c.args.chunks.now c.loop-place.place
    (g.K.Sink.written c.args.out.now) (g.K.Sink.written c.loop-place.out) (log_fits _ _ _ c.requires.fits) c.loop-place.invariant.writes)

pub returns-in_err-content-clause-refused : goal.returns-in_err-content-clause-refused
returns-in_err-content-clause-refused g c =
    let told = g.S.Shelf.told c.args.shelf.now in
    let later = g.S.Shelf.told c.loop-place.shelf in
    let repo = repo_view c.args.repo.now in
    let now_repo = repo_view c.loop-place.repo in
    let chunks = c.args.chunks.now in
    let lost = c.in_err-content.field-0.0 in
    let lt : c.loop-place.place < length chunks = omega arith in
    gives_err c.from_residual.result _ _ c.from_residual.ensures.1 (λ y is.
    subst (λ (f : ViewFault). IfSome told (λ t. EndsContents (told_files t) repo chunks f)) (sym is)
    (writes_refused told later repo now_repo chunks c.loop-place.place _ (g.K.Sink.written c.args.out.now) (g.K.Sink.written c.loop-place.out) lost
    c.loop-place.invariant.same c.loop-place.invariant.repo lt c.loop-place.invariant.writes c.in_err-content.ensures.refused))

pub returns-in_err-content-clause-all : goal.returns-in_err-content-clause-all
returns-in_err-content-clause-all g c =
    let chunks = c.args.chunks.now in
    let lost = c.in_err-content.field-0.0 in
    let lt : c.loop-place.place < length chunks = omega arith in
    gives_err c.from_residual.result _ _ c.from_residual.ensures.1 (λ y is of.
    writes_stopped (g.S.Shelf.told c.args.shelf.now) (g.S.Shelf.told c.loop-place.shelf) (repo_view c.args.repo.now) (repo_view c.loop-place.repo) chunks
    c.loop-place.place _ (g.K.Sink.written c.args.out.now) (g.K.Sink.written c.loop-place.out) lost c.loop-place.invariant.same c.loop-place.invariant.repo
    lt c.loop-place.invariant.writes c.in_err-content.ensures.refused (subst IsOfArchive is of))

pub returns-in_err-write-clause-err : goal.returns-in_err-write-clause-err
returns-in_err-write-clause-err g c =
    let told = g.S.Shelf.told c.args.shelf.now in
    let later = g.S.Shelf.told c.loop-place.shelf in
    let repo = repo_view c.args.repo.now in
    let now_repo = repo_view c.loop-place.repo in
    let chunks = c.args.chunks.now in
    let content = c.in_ok-content.content.items in
    let out = g.K.Sink.written c.loop-place.out in
    let after = g.K.Sink.written c.write.new.self in
    let lt : c.loop-place.place < length chunks = omega arith in
    err_holds _ _ (writes_cut told later repo now_repo chunks c.loop-place.place _ (g.K.Sink.written c.args.out.now) out after content
    c.loop-place.invariant.same c.loop-place.invariant.repo lt (log_fits _ _ _ c.requires.fits) c.loop-place.invariant.writes c.in_ok-content.ensures.content
    (subst (λ s. WritesSome out s after) c.deref.ensures.value c.in_err-write.ensures.err))

pub loop-place-preserved : goal.loop-place-preserved
loop-place-preserved g c =
    let told = g.S.Shelf.told c.args.shelf.now in
    let later = g.S.Shelf.told c.loop-place.shelf in
    let repo = repo_view c.args.repo.now in
    let now_repo = repo_view c.loop-place.repo in
    let chunks = c.args.chunks.now in
    let content = c.in_ok-content.content.items in
    let out = g.K.Sink.written c.loop-place.out in
    let lt : c.loop-place.place < length chunks = omega arith in
    record {
      writes = writes_next told later repo now_repo chunks c.loop-place.place _ (g.K.Sink.written c.args.out.now) out (g.K.Sink.written c.write.new.self)
          content c.loop-place.invariant.same c.loop-place.invariant.repo lt c.loop-place.invariant.writes c.in_ok-content.ensures.content
          (c.in_ok-write.ensures.ok ∙ ap (λ s. option_map (λ w. w ++ s) out) c.deref.ensures.value);
      fits = c.in_ok-content.ensures.fits;
      repo = c.in_ok-content.ensures.kept ∙ c.loop-place.invariant.repo;
      same = c.in_ok-content.ensures.same ∙ c.loop-place.invariant.same;
      faults = c.in_ok-content.ensures.cause ∙ c.loop-place.invariant.faults;
      out = c.in_ok-write.ensures.cause ∙ c.loop-place.invariant.out;
    }

pub returns-clause-ok : goal.returns-clause-ok
returns-clause-ok g c =
    let chunks = c.args.chunks.now in
    writes_end (g.S.Shelf.told c.args.shelf.now) (repo_view c.args.repo.now) chunks _ (g.K.Sink.written c.args.out.now)
    (g.K.Sink.written c.loop-place.out) (take_all c.loop-place.place chunks (omega arith)) c.loop-place.invariant.writes
