-- What has gone to the output while text is gathered, and what a fault says of the devices.
use Rattle.std.specs.Prelude.{◌≡◌, ℕ, List, ◌++◌, Bool, true, false, Option, IfSome, option_map}
use Rattle.ferry_disk.specs.Device.{Told, told_files, WritesSome}
use Rattle.ferry_disk.specs.Files.{Files}
use Rattle.ferry_disk.specs.declared.sink.SinkFault.{SinkFault}
use Rattle.ferry_disk.specs.declared.sink.SinkFault.TheVariants as Sink
use Rattle.ferry_repo.specs.Fault.{repo_failed, IsOfFiles}
use Rattle.ferry_repo.specs.declared.fault.RepoFault.{RepoFault}
use Rattle.ferry_repo.specs.declared.fault.RepoFault.TheVariants as Fault
use Rattle.ferry_view.specs.declared.fault.ViewFault.{ViewFault}
use Rattle.ferry_view.specs.declared.fault.ViewFault.TheVariants.{Repo, NotFound, Output, Memory}

-- ---- faults

-- the fault where the output took not all bytes
abbrev pub sink_fault : SinkFault → ViewFault
sink_fault Sink.Failed = Output
sink_fault Sink.Memory = Memory

-- the fault where a part of the repository doesn't read
abbrev pub repo_fault : RepoFault → ViewFault
repo_fault Fault.Memory = Memory
repo_fault fault = Repo fault

-- whether the output failed
abbrev pub view_failed : ViewFault → Bool
view_failed Output = true
view_failed fault = false

-- whether the repository's device failed
abbrev pub shelf_failed : ViewFault → Bool
shelf_failed (Repo fault) = repo_failed fault
shelf_failed fault = false

-- the faults of what reads nothing more of the repository
abbrev pub IsOutputFault : ViewFault → Type 0
IsOutputFault Output = Unit {0}
IsOutputFault Memory = Unit {0}
IsOutputFault fault = ⊥

-- a fault that says something of an archive: neither a device's nor want of memory
abbrev pub IsOfArchive : ViewFault → Type 0
IsOfArchive (Repo fault) = IsOfFiles fault
IsOfArchive NotFound = Unit {0}
IsOfArchive Output = ⊥
IsOfArchive Memory = ⊥

-- ---- what has gone out

-- Of a text, the front has gone to the output, and the rest is gathered.
pub record Sends (old now : Option (List ℕ)) (gathered text : List ℕ) : Type 0 where
  pub sent : List ℕ
  pub written : now ≡ option_map (λ w. w ++ sent) old
  pub whole : sent ++ gathered ≡ text

-- All of a text was written, which is such a text of the files that a shelf tells.
pub record ShowsAll (IsText : Files → List ℕ → Type 0) (told : Option Told) (before after : Option (List ℕ)) : Type 0 where
  pub text : List ℕ
  pub is : IfSome told (λ t. IsText (told_files t) text)
  pub written : after ≡ option_map (λ w. w ++ text) before

-- A front of such a text was written.
pub record ShowsSome (IsText : Files → List ℕ → Type 0) (told : Option Told) (before after : Option (List ℕ)) : Type 0 where
  pub text : List ℕ
  pub is : IfSome told (λ t. IsText (told_files t) text)
  pub written : WritesSome before text after
