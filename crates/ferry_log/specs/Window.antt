-- A window on a segment, and what is read through it.
use Rattle.std.specs.Prelude.{◌≡◌, ℕ, ◌+◌, ◌-◌, ◌≤◌, List, length, take, drop, Option, Some, option_map}
use Rattle.ferry_segment.specs.Crc.{crc}
use Rattle.ferry_segment.specs.Entry.{first_fault}
use Rattle.ferry_segment.specs.declared.entry.EntryFault.{EntryFault}
use Rattle.ferry_disk.specs.Files.{Files, segment_bytes}
use Rattle.ferry_disk.specs.Device.{Told, told_files}
use Rattle.ferry_log.specs.declared.fault.LogFault.{LogFault}
use Rattle.ferry_log.specs.declared.fault.LogFault.TheVariants.{NoCommit, Damaged, Device, Memory}
use Rattle.ferry_log.specs.declared.window.Window.{Window}

-- a device tells these files
abbrev pub Tells : Option Told → Files → Type 0
Tells told files = option_map told_files told ≡ Some files

-- A window on these bytes has some of them, from its place on.
pub record IsWindowOf (bytes : List ℕ) (window : Window) : Type 0 where
  pub sized : window.size ≡ length bytes
  pub part : window.bytes.items ≡ take (length window.bytes.items) (drop window.at bytes)

-- a window has so many bytes from this place on
abbrev pub Holds : Window → ℕ → ℕ → Type 0
Holds window at count = (window.at ≤ at) × (at + count ≤ window.at + length window.bytes.items)

-- the bytes of the segment that a window is on
abbrev pub segment_of : Files → Window → List ℕ
segment_of files window = segment_bytes files window.segment

-- a window is on the same segment as another
abbrev pub OnSame : Window → Window → Type 0
OnSame old new = (new.segment ≡ old.segment) × (new.size ≡ old.size)

-- the checksum of the bytes from one place to another
abbrev pub sum_between : List ℕ → ℕ → ℕ → ℕ
sum_between bytes from to = crc (take (to - from) (drop from bytes))

-- Why no entry is read at a place: a rule is broken there.
abbrev pub IsBrokenAt : List ℕ → ℕ → LogFault → Type 0
IsBrokenAt bytes at NoCommit = ⊥
IsBrokenAt bytes at (Damaged segment place) = (fault : EntryFault) × (first_fault (drop at bytes) ≡ Some fault)
IsBrokenAt bytes at Device = Unit {0}
IsBrokenAt bytes at Memory = Unit {0}
