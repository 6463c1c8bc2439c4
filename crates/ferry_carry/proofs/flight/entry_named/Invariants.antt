use Rattle.std.proofs.Common.{◌≡◌, drop}
use Rattle.ferry_carry.proofs.flight.entry_named.Given as goal
use Rattle.ferry_repo.specs.Archives.{archive_named}

-- the archive of the name isn't among those before the place
abbrev pub invariant-loop-place : goal.invariant-loop-place
invariant-loop-place l = archive_named l.name l.archives ≡ archive_named l.name (drop l.place l.archives)
