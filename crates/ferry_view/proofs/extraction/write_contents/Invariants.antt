use Rattle.std.proofs.Common.{◌≡◌, IfSome, take}
use Rattle.ferry_disk.specs.Device.{heard, told_files}
use Rattle.ferry_repo.specs.Opening.{repo_view, cached_in, FitsRepo}
use Rattle.ferry_view.specs.Steps.{WritesSoFar}
use Rattle.ferry_view.proofs.extraction.write_contents.Given as goal

-- the contents of the chunks so far are out
abbrev pub invariant-loop-place : goal.invariant-loop-place
invariant-loop-place g l = record {
  writes : WritesSoFar (g.S.Shelf.told l.fn.shelf) (repo_view l.fn.repo) (take l.place l.chunks) (g.K.Sink.written l.fn.out) (g.K.Sink.written l.out);
  fits : IfSome (g.S.Shelf.told l.shelf) (λ t. FitsRepo (told_files t) (repo_view l.repo) (cached_in l.repo));
  repo : repo_view l.repo ≡ repo_view l.fn.repo;
  same : heard (g.S.Shelf.told l.shelf) ≡ heard (g.S.Shelf.told l.fn.shelf);
  faults : g.S.Shelf.faults l.shelf ≡ g.S.Shelf.faults l.fn.shelf;
  out : g.K.Sink.faults l.out ≡ g.K.Sink.faults l.fn.out;
}
