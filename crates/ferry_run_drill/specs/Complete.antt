-- What a drill asks, and that it is done where that is so.
use Rattle.std.specs.Prelude.{◌≡◌, ◌≤◌, ◌⊎◌, ℕ, [], Option, IfSome, true}
use Rattle.ferry_carry.specs.declared.options.Carried.{Carried}
use Rattle.ferry_disk.specs.Device.{Told, told_files}
use Rattle.ferry_disk.specs.Files.{Files}
use Rattle.ferry_gen.specs.Archives.{HasArchives}
use Rattle.ferry_gen.specs.Source.{HasPlain, IsSource}
use Rattle.ferry_piece.specs.declared.fault.CarryFault.{CarryFault}
use Rattle.ferry_status.specs.Status.{carry_status, output_failed}
use Rattle.ferry_status.specs.declared.status.Limit.{Limit as LimitKind}
use Rattle.ferry_status.specs.declared.status.Limit.TheVariants as Limits
use Rattle.ferry_status.specs.declared.status.Status.{Status}
use Rattle.ferry_status.specs.declared.status.Status.TheVariants as Statuses
use Rattle.ferry_status.specs.Opened.{IsDoneUnless}
use Rattle.ferry_store.specs.Causes.{HasFewBlocks}
use Rattle.ferry_store.specs.Init.{HasNoBlocks}
use Rattle.ferry_run_drill.specs.Drill.{HasCopied, IsFree, NoneCollide, drill_time, target_block, target_secret}

-- ---- what is asked

-- Where files have the target's archives, none of their contents collide.
abbrev pub AreApartIn : ℕ → Files → Type 0
AreApartIn count files = (has : HasArchives target_secret target_block count files) → NoneCollide has

-- ---- limits

-- a limit that is met: no item, no record and no manifest of the drill is too large, and the numbers of segments aren't used up
abbrev pub MeetsLimit : Files → Files → LimitKind → Type 0
MeetsLimit start image Limits.Nonce = HasNoBlocks drill_time start ⊎ HasFewBlocks start image
MeetsLimit start image limit = ⊥

-- ---- where it is done

-- Behind a copy that came a drill is done, unless memory was refused, or the target or the output failed.
abbrev pub IsFinished : Status → Type 0
IsFinished Statuses.Done = Unit {0}
IsFinished Statuses.Memory = Unit {0}
IsFinished Statuses.TargetDevice = Unit {0}
IsFinished Statuses.OutputDevice = Unit {0}
IsFinished status = ⊥

-- What holds of the files that a target had, and of those at the end, where the run had made no act and the files were free.
abbrev pub WhereFree : Option Told → Option Told → (Files → Files → Type 0) → Type 0
WhereFree before now P = IfSome before (λ b. IfSome now (λ t. b.history.acts ≡ [] → IsFree (told_files b) → P (told_files b) (told_files t)))

-- A copy ends with a fault, so: that of a drill that is done, unless memory was refused, the target, the source of random bytes or the output failed, or a
-- limit was met.
abbrev pub EndsCopy : Option Told → Option Told → CarryFault → Type 0
EndsCopy before now fault =
    WhereFree before now (λ start image. IsDoneUnless (MeetsLimit start image) (λ other. output_failed other ≡ true) (carry_status fault))

-- The same where the source was made, and none of its contents collide.
abbrev pub EndsFrom : Files → Option Told → Option Told → CarryFault → Type 0
EndsFrom source before now fault =
    (count : ℕ) → count ≤ 64 → (is : IsSource count source) → HasPlain source → NoneCollide is → EndsCopy before now fault

-- Behind a copy that came a drill ends with a status, so: where no contents of its source collide, nor any of the target's archives.
abbrev pub EndsChecked : ℕ → Carried → Option Told → Status → Type 0
EndsChecked count carried now status = IfSome now (λ t. (copied : HasCopied count carried t.history) → NoneCollide copied.source_is
    → AreApartIn count (told_files t) → IsFinished status)

-- A source was made; where none of its contents collide, nor any of those of the target's archives at the end, and the target was free, the drill is done,
-- unless memory was refused, the target, the source of random bytes or the output failed, or a limit was met.
pub record EndsDone (count : ℕ) (before now : Option Told) (status : Status) : Type 0 where
  pub source : Files
  pub source_is : IsSource count source
  pub ends : NoneCollide source_is → WhereFree before now (λ start image. AreApartIn count image
      → IsDoneUnless (MeetsLimit start image) (λ other. output_failed other ≡ true) status)
