use Rattle.std.proofs.Common.{◌≡◌, IfSome, take}
use Rattle.ferry_disk.specs.Device.{heard, told_files}
use Rattle.ferry_repo.specs.Opening.{repo_view, cached_in, FitsRepo}
use Rattle.ferry_compare.proofs.ContentLemmas.{ReadsChunks}
use Rattle.ferry_compare.proofs.contents.read_chunks.Given as goal

-- the contents of the chunks so far were read
abbrev pub invariant-loop-place : goal.invariant-loop-place
invariant-loop-place g l = record {
  reads : ReadsChunks (g.S.Shelf.told l.fn.shelf) (repo_view l.fn.source) (take l.place l.chunks);
  fits : IfSome (g.S.Shelf.told l.shelf) (λ t. FitsRepo (told_files t) (repo_view l.source) (cached_in l.source));
  repo : repo_view l.source ≡ repo_view l.fn.source;
  same : heard (g.S.Shelf.told l.shelf) ≡ heard (g.S.Shelf.told l.fn.shelf);
  faults : g.S.Shelf.faults l.shelf ≡ g.S.Shelf.faults l.fn.shelf;
}
