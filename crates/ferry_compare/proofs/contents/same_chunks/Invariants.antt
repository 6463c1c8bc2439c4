use Rattle.std.proofs.Common.{◌≡◌, IfSome, take}
use Rattle.ferry_disk.specs.Device.{heard, told_files}
use Rattle.ferry_repo.specs.Opening.{repo_view, cached_in, FitsRepo}
use Rattle.ferry_compare.specs.Steps.{IsWithin, cursor_view}
use Rattle.ferry_compare.proofs.ContentLemmas.{GoesAlong}
use Rattle.ferry_compare.proofs.contents.same_chunks.Given as goal

-- the target's content goes along with the contents of the source's chunks so far, or no longer
abbrev pub invariant-loop-place : goal.invariant-loop-place
invariant-loop-place g l = record {
  along : GoesAlong (g.S.Shelf.told l.fn.shelf) (repo_view l.fn.source) (g.T.Shelf.told l.fn.other) (repo_view l.fn.target) (take l.place l.chunks)
      l.others (cursor_view l.cursor) l.same;
  within : IsWithin l.others (cursor_view l.cursor);
  fits : IfSome (g.S.Shelf.told l.shelf) (λ t. FitsRepo (told_files t) (repo_view l.source) (cached_in l.source));
  other_fits : IfSome (g.T.Shelf.told l.other) (λ t. FitsRepo (told_files t) (repo_view l.target) (cached_in l.target));
  repo : repo_view l.source ≡ repo_view l.fn.source;
  other_repo : repo_view l.target ≡ repo_view l.fn.target;
  alike : heard (g.S.Shelf.told l.shelf) ≡ heard (g.S.Shelf.told l.fn.shelf);
  other_alike : heard (g.T.Shelf.told l.other) ≡ heard (g.T.Shelf.told l.fn.other);
  faults : g.S.Shelf.faults l.shelf ≡ g.S.Shelf.faults l.fn.shelf;
  other_faults : g.T.Shelf.faults l.other ≡ g.T.Shelf.faults l.fn.other;
}
