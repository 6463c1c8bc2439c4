-- What a command writes to the output with each status, and what its fault line does.
use Rattle.std.specs.Prelude.{◌≡◌, ◌⊎◌, ℕ, List, ◌++◌, Option, IfSome, Result, OnOk, OnErr, option_map}
use Rattle.ferry_disk.specs.Files.{Files}
use Rattle.ferry_disk.specs.Device.{Told, told_files, Rose, WritesSome, HasCause, sink_failed}
use Rattle.ferry_disk.specs.declared.sink.SinkFault.{SinkFault}
use Rattle.ferry_status.specs.Devices.{Written}
use Rattle.ferry_status.specs.Status.{fault_line}
use Rattle.ferry_status.specs.declared.status.Refusal.{Refusal}
use Rattle.ferry_status.specs.declared.status.Status.{Status}
use Rattle.ferry_status.specs.declared.status.Status.TheVariants.{Done, No, Memory, SourceDevice, OutputDevice, SourceRefused, NotFound}

-- All of such a text was written, and no call of the output failed.
abbrev pub HasPrinted : (List ℕ → Type 0) → Written → Written → Type 0
HasPrinted IsText before after =
    (text : List ℕ) × IsText text × (after.bytes ≡ option_map (λ w. w ++ text) before.bytes) × (after.faults ≡ before.faults)

-- What a command has written that reads and writes by turns and ends before its end: nothing, or a front of such a text.
abbrev pub HasBegun : (List ℕ → Type 0) → Written → Written → Type 0
HasBegun IsFront before after = (after ≡ before)
    ⊎ ((text : List ℕ) × IsFront text × WritesSome before.bytes text after.bytes × (after.faults ≡ before.faults))

-- What a command has written when it ends with a status, where it prints such a text: all of it, or so much as the output or memory allowed.
abbrev pub PrintsText : (List ℕ → Type 0) → Written → Status → Written → Type 0
PrintsText IsText before Done after = HasPrinted IsText before after
PrintsText IsText before Memory after = HasBegun IsText before after
PrintsText IsText before OutputDevice after =
    (text : List ℕ) × IsText text × WritesSome before.bytes text after.bytes × Rose before.faults after.faults
PrintsText IsText before status after = ⊥

-- The same of a command that prints such a text in the end, and such a text as far as the source reads: all that reads where the source is refused or
-- something isn't found, and a front of that where a device failed or memory was refused. Its refusals say this of the source's files, and so does what it
-- doesn't find.
abbrev pub PrintsAsRead : (IsText IsRead : Files → List ℕ → Type 0) → (Files → Refusal → Type 0) → (Files → List ℕ → Type 0)
    → Option Told → Written → Status → Written → Type 0
PrintsAsRead IsText IsRead Refuses Lacks source before Done after = HasPrinted (λ text. IfSome source (λ t. IsText (told_files t) text)) before after
PrintsAsRead IsText IsRead Refuses Lacks source before SourceDevice after =
    HasBegun (λ text. IfSome source (λ t. IsRead (told_files t) text)) before after
PrintsAsRead IsText IsRead Refuses Lacks source before (SourceRefused refusal) after =
    IfSome source (λ t. Refuses (told_files t) refusal) × HasPrinted (λ text. IfSome source (λ t. IsRead (told_files t) text)) before after
PrintsAsRead IsText IsRead Refuses Lacks source before (NotFound what) after =
    IfSome source (λ t. Lacks (told_files t) what) × HasPrinted (λ text. IfSome source (λ t. IsRead (told_files t) text)) before after
PrintsAsRead IsText IsRead Refuses Lacks source before status after =
    PrintsText (λ text. IfSome source (λ t. IsRead (told_files t) text)) before status after

-- The same of a command that has read all that it needs before it writes: nothing is written where the source fails or is refused.
abbrev pub Prints : (Files → List ℕ → Type 0) → (Files → Refusal → Type 0) → Option Told → Written → Status → Written → Type 0
Prints IsText Refuses source before SourceDevice after = after ≡ before
Prints IsText Refuses source before (SourceRefused refusal) after = IfSome source (λ t. Refuses (told_files t) refusal) × (after ≡ before)
Prints IsText Refuses source before status after = PrintsText (λ text. IfSome source (λ t. IsText (told_files t) text)) before status after

-- A line went to the output in one write, whatever the write answered.
pub record IsSent (line : List ℕ) (before after : Written) : Type 0 where
  pub answer : Result Unit SinkFault
  pub ok : OnOk answer (after.bytes ≡ option_map (λ w. w ++ line) before.bytes)
  pub err : OnErr answer (WritesSome before.bytes line after.bytes)
  pub cause : HasCause sink_failed before.faults after.faults answer

-- what the fault line has written: nothing where a status has none
abbrev pub Reports : Status → Written → Written → Type 0
Reports Done before after = after ≡ before
Reports No before after = after ≡ before
Reports OutputDevice before after = after ≡ before
Reports status before after = IsSent (fault_line status) before after
