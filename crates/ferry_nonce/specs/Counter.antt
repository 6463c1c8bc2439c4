-- A counter of blocks and its file: what a draw makes of both, whatever a stop leaves.
use Rattle.std.specs.Prelude.{◌≡◌, ◌↔◌, ◌+◌, ◌-◌, ◌^◌, ◌<◌, ◌≤◌, ℕ, nat_le, Bool, true, false}
use Rattle.std.specs.Prelude.{if◌then◌else◌, ◌⊎◌, List, [], length, Option, Some, None, IsSome, Result, Ok, Err, option_map, IsErrOf, refl}
use Rattle.ferry_blob.specs.Blob.{IsBlockOf}
use Rattle.ferry_disk.specs.Act.{Step, ReplaceBy, History}
use Rattle.ferry_disk.specs.Device.{Told, called, acted}
use Rattle.ferry_disk.specs.Files.{Files}
use Rattle.ferry_disk.specs.Image.{ImageOf, plain_in}
use Rattle.ferry_disk.specs.Moments.{Moments}
use Rattle.ferry_disk.specs.declared.name.Name.TheVariants.{Nonce}
use Rattle.ferry_nonce.specs.declared.counter.Counter.{Counter}
use Rattle.ferry_nonce.specs.declared.fault.NonceFault.{NonceFault}
use Rattle.ferry_nonce.specs.declared.fault.NonceFault.TheVariants.{Missing, Text, Exhausted, Device, Memory}
use Rattle.ferry_nonce.specs.Text.{number_in, number_text}
use Rattle.ferry_stops.specs.Blobs.{BlobOf}
use Rattle.ferry_stops.specs.Counters.{IsNonce, Counts, TakenBelow, IsAbove}

-- ---- answers

-- An answer that the device gave, and for which memory was there.
abbrev pub IsAnswered : {T : Type 0} → Result T NonceFault → Type 0
IsAnswered (Ok value) = Unit {0}
IsAnswered (Err Device) = ⊥
IsAnswered (Err Memory) = ⊥
IsAnswered (Err fault) = Unit {0}

-- A fault is the answer exactly where this holds, where the device and memory don't fail.
abbrev pub IsExactly : {T : Type 0} → Result T NonceFault → NonceFault → Type 0 → Type 0
IsExactly result fault P = IsAnswered result → IsErrOf result fault ↔ P

-- No number is that of the file: it is there, and isn't 16 hex digits with at most one line feed behind.
abbrev pub HasNoNumber : Option (List ℕ) → Type 0
HasNoNumber file = (value : ℕ) → IsNonce file value → ⊥

-- What is answered of a file's text: its number, or `Text` where it spells none.
abbrev pub Reads : List ℕ → Result ℕ NonceFault → Type 0
Reads text (Ok number) = number_in text ≡ Some number
Reads text (Err Text) = number_in text ≡ None
Reads text (Err Device) = Unit {0}
Reads text (Err Memory) = Unit {0}
Reads text (Err fault) = ⊥

-- The same of a file, which may be absent: that is no fault where nothing is committed.
abbrev pub ReadsFile : Bool → Option (List ℕ) → Result ℕ NonceFault → Type 0
ReadsFile committed (Some text) result = Reads text result
ReadsFile committed None (Ok number) = (committed ≡ false) × (number ≡ 0)
ReadsFile committed None (Err Missing) = committed ≡ true
ReadsFile committed None (Err Device) = Unit {0}
ReadsFile committed None (Err Memory) = Unit {0}
ReadsFile committed None (Err fault) = ⊥

-- the size of the file `nonce`, where it is there
abbrev pub file_size : Files → Option ℕ
file_size files = option_map length files.nonce

-- whether a counter can't be used any more after this answer
abbrev pub spends : {T : Type 0} → Result T NonceFault → Bool
spends (Ok value) = false
spends (Err Device) = true
spends (Err Memory) = true
spends (Err fault) = false

-- ---- a counter and its file

-- The file has this number, and nothing else may be left of it.
pub record IsReserved (number : ℕ) (history : History) : Type 0 where
  pub file : Option (List ℕ)
  pub at_rest : plain_in history Nonce ≡ record { read = file; perhaps = None }
  pub nonce : IsNonce file number

-- The file's number is the one up to which a counter has reserved, and not below its next free number; nothing of the file is in doubt.
pub record CounterFits (counter : Counter) (history : History) : Type 0 where
  pub reserved : IsReserved counter.reserved history
  pub free : Counts counter.free history

-- An act doesn't replace the file.
abbrev pub LeavesNonce : Step → Type 0
LeavesNonce (ReplaceBy Nonce bytes) = ⊥
LeavesNonce step = Unit {0}

-- ---- a draw

-- how many blocks are reserved beyond those that a draw needs: 2^28
abbrev pub reservation : ℕ
reservation = 268435456

-- Blocks fit in what a counter has reserved.
abbrev pub FitIn : Counter → ℕ → Type 0
FitIn counter blocks = counter.free + blocks ≤ counter.reserved

-- the number that a draw writes, where they don't fit
abbrev pub reserved_for : Counter → ℕ → ℕ
reserved_for counter blocks = (counter.free + blocks) + reservation

-- the act of a draw that replaces the file
abbrev pub reserves : ℕ → Step
reserves number = ReplaceBy Nonce (number_text number)

-- What a draw leaves that replaces the file by a number: one act, done where it is `Ok` and not done where the device failed, and none else.
abbrev pub Reserves : {T : Type 0} → ℕ → Option Told → Option Told → Result T NonceFault → Type 0
Reserves number before now (Ok value) = now ≡ option_map (acted (reserves number) true) before
Reserves number before now (Err Device) = now ≡ option_map (acted (reserves number) false) before
Reserves number before now (Err Memory) = now ≡ option_map called before
Reserves number before now (Err Exhausted) = now ≡ before
Reserves number before now (Err Missing) = ⊥
Reserves number before now (Err Text) = ⊥

-- the counter after a draw
abbrev pub drawn : Counter → ℕ → Counter
drawn counter blocks = record counter {
  free = counter.free + blocks;
  reserved = if nat_le (counter.free + blocks) counter.reserved then counter.reserved else reserved_for counter blocks;
}

-- No draw is possible: the blocks don't fit, and no number of 64 bits is so far above them.
abbrev pub IsExhausted : Counter → ℕ → Type 0
IsExhausted counter blocks = (counter.reserved < counter.free + blocks) × (2 ^ 64 - 1 < reserved_for counter blocks)

-- Examples: a first draw of one block reserves, a next one of five doesn't; and no draw follows the greatest number.
pub first_draw : drawn (record { free = 0; reserved = 0; spent = false }) 1 ≡ record { free = 1; reserved = 268435457; spent = false }
first_draw = refl

pub next_draw : drawn (record { free = 1; reserved = 268435457; spent = false }) 5 ≡ record { free = 6; reserved = 268435457; spent = false }
next_draw = refl

pub next_run : reserved_for (record { free = 268435457; reserved = 268435457; spent = false }) 5 ≡ 536870918
next_run = refl

-- ---- the number that a run began with

-- a run before its first act
abbrev pub begin_of : History → History
begin_of history = record history { acts = [] }

-- Each counter block of a blob is at or above a number.
abbrev pub IsFrom : ℕ → List ℕ → Type 0
IsFrom least blob = (block : ℕ) → IsBlockOf blob block → least ≤ block

-- A file `nonce` has a number that isn't below this one.
pub record HasAtLeast (least : ℕ) (file : Option (List ℕ)) : Type 0 where
  pub value : ℕ
  pub nonce : IsNonce file value
  pub within : least ≤ value

-- Each blob that a run put has its blocks at or above a number, and what a stop leaves, chance or none, has no lower number in the file `nonce`;
-- a file that was there at the start is there still.
pub record IsNumberedFrom (least : ℕ) (history : History) : Type 0 where
  pub blobs : (blob : List ℕ) → BlobOf history blob → BlobOf (begin_of history) blob ⊎ IsFrom least blob
  pub nonce : (image : Files) → ImageOf history image → HasAtLeast least image.nonce
  pub stays : (image : Files) → ImageOf history image → IsSome history.start.nonce → IsSome image.nonce

-- That holds of the number that the run began with.
abbrev pub KeepsNumbers : History → Type 0
KeepsNumbers history = (number : ℕ) → IsNonce history.start.nonce number → IsNumberedFrom number history

-- While a run writes: its counter's next free number isn't below the number that the run began with, each blob that it put has its blocks at or
-- above that number, and a file `nonce` that was there at the start is there still.
pub record IsDrawnSince (free : ℕ) (history : History) : Type 0 where
  pub least : (number : ℕ) → IsNonce history.start.nonce number → number ≤ free
  pub blobs : (number : ℕ) → IsNonce history.start.nonce number → (blob : List ℕ) → BlobOf history blob
      → BlobOf (begin_of history) blob ⊎ IsFrom number blob
  pub stays : IsSome history.start.nonce → IsSome (plain_in history Nonce).read

-- ---- moments

-- Each block that was taken is below this number, and whatever a stop leaves of the file is above each.
pub record IsSafeBelow (free : ℕ) (history : History) : Type 0 where
  pub taken : TakenBelow free history
  pub above : (image : Files) → ImageOf history image → IsAbove history image

-- That holds at each moment of a draw, where it held of the blocks before; and whatever blocks were taken before, so does what is said of the
-- number that the run began with.
abbrev pub KeepsAbove : ℕ → History → History → Type 0
KeepsAbove free before now = Counts free before
    → ((TakenBelow free before → Moments (IsSafeBelow free) before now) × (IsDrawnSince free before → Moments KeepsNumbers before now))
