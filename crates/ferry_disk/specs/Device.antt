-- What the contracts of devices say: what a device tells, its count of faults, and what each answer means.
use Rattle.std.specs.Prelude.{◌≡◌, ℕ, ◌+◌, ◌-◌, ◌^◌, ◌≤◌, min, nat_lt, Bool, true, false, if◌then◌else◌, List, ◌++◌, length, take, drop, Option, Some}
use Rattle.std.specs.Prelude.{None, Result, MatchResult, option_map}
use Rattle.ferry_disk.specs.Act.{Step, History, files_now, with_act}
use Rattle.ferry_disk.specs.Files.{Files, contents_at}
use Rattle.ferry_disk.specs.declared.name.Name.{Name}
use Rattle.ferry_disk.specs.declared.shelf.StoreFault.{StoreFault}
use Rattle.ferry_disk.specs.declared.shelf.StoreFault.TheVariants as Store
use Rattle.ferry_disk.specs.declared.sink.SinkFault.{SinkFault}
use Rattle.ferry_disk.specs.declared.sink.SinkFault.TheVariants as Sink

-- a count of 64 bits after one more: it stays at its greatest value
abbrev pub counted : ℕ → ℕ
counted n = if nat_lt n (2 ^ 64 - 1) then n + 1 else n

-- what a device over memory tells of itself: its history, how many calls it has had, and the number of the first that failed
pub record Told : Type 0 where
  pub history : History
  pub calls : ℕ
  pub failed : Option ℕ

-- the files that a device tells
abbrev pub told_files : Told → Files
told_files told = files_now told.history

-- all that a device tells but how many calls it has had
pub record Heard : Type 0 where
  pub history : History
  pub failed : Option ℕ

abbrev pub heard_of : Told → Heard
heard_of told = record { history = told.history; failed = told.failed }

abbrev pub heard : Option Told → Option Heard
heard told = option_map heard_of told

-- how many calls a device tells of
abbrev pub calls_told : Option Told → Option ℕ
calls_told told = option_map (λ t. t.calls) told

-- the number of the first call that failed, where this one did
abbrev pub first_failed : Option ℕ → ℕ → Option ℕ
first_failed None call = Some call
first_failed (Some first) call = Some first

-- the same where this call failed
abbrev pub failed_at : ℕ → Heard → Heard
failed_at call heard = record heard { failed = first_failed heard.failed call }

-- ---- what a call leaves

-- A device tells the same as before; where a call failed, it was the last, and is the first that failed where none had before.
abbrev pub KeptWhere : Bool → Option Heard → Option Told → Type 0
KeptWhere false before now = heard now ≡ before
KeptWhere true before None = before ≡ None
KeptWhere true before (Some now) = Some (heard_of now) ≡ option_map (failed_at now.calls) before

-- After a body that changes no file a device tells what it told, and no call follows one that failed: a failed device is the answer
-- exactly where a call failed.
abbrev pub KeepsTold : {T F : Type 0} → (F → Bool) → Option Told → Option Told → Result T F → Type 0
KeepsTold is_device before now result = MatchResult result (λ _. heard now ≡ heard before) (λ fault. KeptWhere (is_device fault) (heard before) now)

-- A count rose, or stands at its greatest value.
abbrev pub Rose : ℕ → ℕ → Type 0
Rose before now = counted before ≤ now

-- A count rose where a device failed, and else is the same.
abbrev pub RoseWhere : Bool → ℕ → ℕ → Type 0
RoseWhere false before now = now ≡ before
RoseWhere true before now = Rose before now

-- The count of faults rose where the answer is a failed device, and is the same where it is a value or another fault.
abbrev pub HasCause : {T F : Type 0} → (F → Bool) → ℕ → ℕ → Result T F → Type 0
HasCause is_device before now result = MatchResult result (λ _. now ≡ before) (λ fault. RoseWhere (is_device fault) before now)

-- whether a shelf or a depot failed
abbrev pub store_failed : StoreFault → Bool
store_failed Store.Failed = true
store_failed Store.Memory = false

-- whether a sink failed
abbrev pub sink_failed : SinkFault → Bool
sink_failed Sink.Failed = true
sink_failed Sink.Memory = false

-- ---- what a call that writes leaves

-- what a device tells after one more call that is no act, and that didn't fail
abbrev pub called : Told → Told
called told = record told { calls = counted told.calls }

-- what it tells after one more act; the call failed where the act wasn't done
abbrev pub acted : Step → Bool → Told → Told
acted step done told = record {
  history = with_act step done told.history;
  calls = counted told.calls;
  failed = if done then told.failed else first_failed told.failed (counted told.calls);
}

-- A call that isn't `Ok`: a failed device adds the act as one that wasn't done, want of memory adds none.
abbrev pub NotActs : Step → Option Told → Option Told → StoreFault → Type 0
NotActs step before now Store.Failed = now ≡ option_map (acted step false) before
NotActs step before now Store.Memory = now ≡ option_map called before

-- Each call that writes adds one act, done where the answer is `Ok`.
abbrev pub Acts : {T : Type 0} → Step → Option Told → Option Told → Result T StoreFault → Type 0
Acts step before now result = MatchResult result (λ _. now ≡ option_map (acted step true) before) (NotActs step before now)

-- ---- what a call gives

-- `into` got the file's bytes from `at` on at its front, as many as fit, and is as it was behind them.
pub record ReadsAt (files : Files) (name : Name) (at : ℕ) (before after : List ℕ) (count : ℕ) : Type 0 where
  pub count_is : count ≡ min (length before) (length (contents_at files name) - at)
  pub bytes : after ≡ take count (drop at (contents_at files name)) ++ drop count before

-- what was written, with a front of these bytes behind it
pub record WritesSome (before : Option (List ℕ)) (bytes : List ℕ) (after : Option (List ℕ)) : Type 0 where
  pub front : ℕ
  pub written : after ≡ option_map (λ w. w ++ take front bytes) before
