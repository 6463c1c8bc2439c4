-- The sizes of what a stop may leave of a segment: what the program counts of it, to tell whether a choice describes an image.
use Rattle.std.specs.Prelude.{◌≡◌, ℕ, ◌+◌, ◌≤◌, nat_eq, Bool, true, false, if◌then◌else◌, ◌⊎◌, List, length, fold, Option, Some, None}
use Rattle.std.specs.Prelude.{unwrap_or, option_map, Vec, ◌-◌, ◌^◌}
use Rattle.ferry_disk.specs.Act.{Step, AppendTo, SyncOf, RemoveOf, ReplaceBy, SettleAll, TellOf, Act}
use Rattle.std.specs.Map.{lookup}
use Rattle.std.specs.Global.{Global}
use Rattle.ferry_disk.specs.Files.{Files}
use Rattle.ferry_disk.specs.Image.{Fate, fate_of}
use Rattle.ferry_disk.specs.Moments.{last_undone}
use Rattle.ferry_disk.specs.declared.sizes.Sizes.{Sizes}

-- the sizes of a fate
abbrev pub sizes_of : Fate → Sizes
sizes_of fate = record {
  read = option_map length fate.read;
  stable = option_map length fate.stable;
  all = option_map length fate.all;
  lost = fate.lost;
}

-- those of a segment of which nothing is in doubt
abbrev pub size_rest : Option ℕ → Sizes
size_rest size = record { read = size; stable = size; all = size; lost = false }

abbrev pub size_appended : ℕ → Bool → Sizes → Sizes
size_appended count done sizes = record sizes {
  read = if done then Some (unwrap_or sizes.read 0 + count) else sizes.read;
  all = Some (unwrap_or sizes.all 0 + count);
}

abbrev pub size_synced : Bool → Sizes → Sizes
size_synced done sizes = record sizes { stable = if done then sizes.read else sizes.stable }

abbrev pub size_removed : Bool → Sizes → Sizes
size_removed done sizes = if done then size_rest None else record sizes { lost = true }

abbrev pub size_settled : Bool → Sizes → Sizes
size_settled done sizes = if done then size_rest sizes.read else sizes

-- after one more act
abbrev pub size_stepped : ℕ → Step → Bool → Sizes → Sizes
size_stepped segment (AppendTo number bytes) done sizes = if nat_eq segment number then size_appended (length bytes) done sizes else sizes
size_stepped segment (SyncOf number) done sizes = if nat_eq segment number then size_synced done sizes else sizes
size_stepped segment (RemoveOf number) done sizes = if nat_eq segment number then size_removed done sizes else sizes
size_stepped segment (ReplaceBy name bytes) done sizes = sizes
size_stepped segment SettleAll done sizes = size_settled done sizes
size_stepped segment (TellOf line) done sizes = sizes

abbrev pub size_after : ℕ → Sizes → Act → Sizes
size_after segment sizes act = size_stepped segment act.step act.done sizes

-- after these acts
abbrev pub sizes_after : Option ℕ → List Act → ℕ → Sizes
sizes_after size acts segment = fold (size_after segment) (size_rest size) acts

-- what is listed of a segment may be left, by its sizes
abbrev pub SizesAllow : Sizes → Option (List ℕ) → Type 0
SizesAllow sizes None = (sizes.stable ≡ None) ⊎ (sizes.lost ≡ true)
SizesAllow sizes (Some tail) = (all : ℕ) × (sizes.all ≡ Some all) × (unwrap_or sizes.stable 0 + length tail ≤ all)

-- the acts, of which the last counts as not done where `cut` says so
abbrev pub cut_acts : Bool → List Act → List Act
cut_acts cut acts = if cut then last_undone acts else acts

-- an Append's bytes are as many as fit in memory
abbrev pub IsShort : Step → Type 0
IsShort (AppendTo segment bytes) = length bytes ≤ 2 ^ 64 - 1
IsShort step = Unit {0}

-- what is listed of a segment may be left, by sizes
abbrev pub AllowsAt : Files → List Act → List (ℕ × Option (Vec ℕ Global)) → ℕ → Type 0
AllowsAt start moment tails segment = (tail : Option (Vec ℕ Global)) → lookup (nat_eq segment) tails ≡ Some tail
    → SizesAllow (sizes_of (fate_of start moment segment)) (option_map (λ v. v.items) tail)

-- all that is listed may be left
abbrev pub AllowsTails : Files → List Act → List (ℕ × Option (Vec ℕ Global)) → Type 0
AllowsTails start moment tails = (segment : ℕ) → AllowsAt start moment tails segment

-- no size is above this number
pub record IsWithin (most : ℕ) (sizes : Sizes) : Type 0 where
  pub read : unwrap_or sizes.read 0 ≤ most
  pub all : unwrap_or sizes.all 0 ≤ most
