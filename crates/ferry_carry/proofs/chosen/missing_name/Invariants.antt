use Rattle.std.proofs.Common.{◌≡◌, ◌<◌, ℕ, List, Some, IsSome, slice_get}
use Rattle.ferry_carry.proofs.chosen.missing_name.Given as goal
use Rattle.ferry_repo.specs.Archives.{archive_named}
use Rattle.ferry_repo.specs.Opening.{repo_view}

-- each name before the place is that of an archive
abbrev pub invariant-loop-place : goal.invariant-loop-place
invariant-loop-place l = (earlier : ℕ) (other : List ℕ) → earlier < l.place → slice_get l.names earlier ≡ Some other
    → IsSome (archive_named other (repo_view l.repo).manifest.archives)
