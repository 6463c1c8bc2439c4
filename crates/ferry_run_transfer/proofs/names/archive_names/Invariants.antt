use Rattle.std.proofs.Common.{◌≡◌, map, take}
use Rattle.ferry_manifest.specs.declared.manifest.ArchiveRef.{ArchiveRef}
use Rattle.ferry_run_transfer.proofs.names.archive_names.Given as goal

abbrev pub invariant-loop-place : goal.invariant-loop-place
invariant-loop-place l = l.chosen.items ≡ map (λ (entry : ArchiveRef). entry.name) (take l.place l.archives)
