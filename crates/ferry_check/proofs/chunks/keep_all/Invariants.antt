use Rattle.std.proofs.Common.{◌+◌, IfSome, Option, take, drop}
use Rattle.std.specs.BTreeMap.{get}
use Rattle.ferry_disk.specs.Device.{Told, told_files}
use Rattle.ferry_log.specs.Live.{key_cmp}
use Rattle.ferry_repo.specs.Lengths.{HaveLengths}
use Rattle.ferry_repo.specs.Opening.{RepoState}
use Rattle.ferry_check.specs.Steps.{OpensSoFar}
use Rattle.ferry_check.proofs.chunks.keep_all.Given as goal

-- the chunks before the place are opened as well
abbrev pub invariant-loop-place : goal.invariant-loop-place
invariant-loop-place l = record {
  opens : (told : Option Told) (repo : RepoState) → OpensSoFar told repo (take l.from l.ids) (get key_cmp l.fn.chunks)
      → IfSome told (λ t. HaveLengths (told_files t) repo.log repo.keys (drop l.from l.ids) l.sizes)
      → OpensSoFar told repo (take (l.from + l.place) l.ids) (get key_cmp l.chunks);
}
