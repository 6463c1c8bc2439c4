use Rattle.std.proofs.Common.{◌<◌, Some, length, ◌∙◌, sym, subst, arith}
use Rattle.ferry_repo.specs.Opening.{repo_view}
use Rattle.ferry_repo.proofs.FaultLemmas.{gives_err}
use Rattle.ferry_compare.specs.Steps.{RefusesItem}
use Rattle.ferry_compare.specs.declared.fault.CompareFault.{CompareFault}
use Rattle.ferry_compare.proofs.ContentLemmas.{reads_next, reads_refused, reads_all}
use Rattle.ferry_compare.proofs.contents.read_chunks.Goals as goal

pub returns-in_err-_content-clause-refused : goal.returns-in_err-_content-clause-refused
returns-in_err-_content-clause-refused g c =
    let told = g.S.Shelf.told c.args.shelf.now in
    let repo = repo_view c.args.source.now in
    let chunks = c.args.chunks.now in
    let lt : c.loop-place.place < length chunks = omega arith in
    gives_err c.from_residual.result _ _ c.from_residual.ensures.1 (λ y is. subst (λ (f : CompareFault). RefusesItem told repo (Some chunks) f) (sym is)
    (reads_refused told (g.S.Shelf.told c.loop-place.shelf) repo (repo_view c.loop-place.source) chunks c.loop-place.place _ c.loop-place.invariant.same
    c.loop-place.invariant.repo lt c.loop-place.invariant.reads.contents c.in_err-_content.field-0.0 c.loop-place.invariant.reads.come
    c.in_err-_content.ensures.refused))

pub loop-place-preserved : goal.loop-place-preserved
loop-place-preserved g c =
    let chunks = c.args.chunks.now in
    let lt : c.loop-place.place < length chunks = omega arith in
    record {
      reads = reads_next (g.S.Shelf.told c.args.shelf.now) (g.S.Shelf.told c.loop-place.shelf) (repo_view c.args.source.now)
          (repo_view c.loop-place.source) chunks c.loop-place.place _ c.loop-place.invariant.same c.loop-place.invariant.repo lt
          c.in_ok-_content._content.items c.loop-place.invariant.reads c.in_ok-_content.ensures.content;
      fits = c.in_ok-_content.ensures.fits;
      repo = c.in_ok-_content.ensures.kept ∙ c.loop-place.invariant.repo;
      same = c.in_ok-_content.ensures.same ∙ c.loop-place.invariant.same;
      faults = c.in_ok-_content.ensures.cause ∙ c.loop-place.invariant.faults;
    }

pub returns-clause-holds : goal.returns-clause-holds
returns-clause-holds g c =
    reads_all (g.S.Shelf.told c.args.shelf.now) (repo_view c.args.source.now) c.args.chunks.now c.loop-place.place (omega arith)
    c.loop-place.invariant.reads
