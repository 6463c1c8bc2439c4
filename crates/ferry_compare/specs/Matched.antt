-- Contents that were found to be the same in the source and in the target.
use Rattle.std.specs.Prelude.{ℕ, List, Option, Some, IfSome}
use Rattle.std.specs.List.{AllByRecursion}
use Rattle.ferry_disk.specs.Device.{Told, told_files}
use Rattle.ferry_repo.specs.Archives.{HoldsJoined}
use Rattle.ferry_repo.specs.Opening.{RepoState}
use Rattle.ferry_compare.specs.declared.matches.Pair.{Pair}

-- pairs, each with the id of the source's first chunk
abbrev pub Matched : Type 0
Matched = List (List ℕ × Pair)

-- The pair's chunks have one content, those of the source there and the others in the target.
pub record IsMatched (told : Option Told) (source : RepoState) (heard : Option Told) (target : RepoState) (pair : Pair) : Type 0 where
  pub content : List ℕ
  pub first : IfSome told (λ t. HoldsJoined (told_files t) source.log source.keys (Some pair.chunks) (Some content))
  pub second : IfSome heard (λ t. HoldsJoined (told_files t) target.log target.keys (Some pair.others) (Some content))

-- All pairs do.
abbrev pub AreMatched : Option Told → RepoState → Option Told → RepoState → Matched → Type 0
AreMatched told source heard target matched = AllByRecursion (λ m. IsMatched told source heard target m.1) matched
