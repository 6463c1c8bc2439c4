-- What the passes over the segments of a log read.
use Rattle.std.specs.Prelude.{◌≡◌, ℕ, List, length, map}
use Rattle.std.specs.List.{AllByRecursion}
use Rattle.ferry_compact.specs.declared.fault.CompactFault.{CompactFault}
use Rattle.ferry_compact.specs.declared.fault.CompactFault.TheVariants.{Damaged, Device, Memory, Numbers}
use Rattle.ferry_disk.specs.Files.{Files, segment_bytes}
use Rattle.ferry_log.specs.Log.{Joins, Located}
use Rattle.ferry_log.specs.declared.place.Extent.{Extent}
use Rattle.ferry_segment.specs.Entry.{LogEntry}
use Rattle.ferry_segment.specs.Head.{BeginsAt, head_of}
use Rattle.ferry_segment.specs.Segment.{Splits}
use Rattle.ferry_segment.specs.declared.head.Head.{Head}

-- a fault of the device or of memory, and none of the files
abbrev pub IsOutside : CompactFault → Type 0
IsOutside (Damaged segment at) = ⊥
IsOutside Device = Unit {0}
IsOutside Memory = Unit {0}
IsOutside Numbers = ⊥

-- A segment splits into these entries, and has so many bytes.
pub record HasSegment (files : Files) (extent : Extent) (entries : List LogEntry) : Type 0 where
  pub split : Splits (segment_bytes files extent.segment) entries
  pub sized : extent.size ≡ length (segment_bytes files extent.segment)

-- A segment has so many bytes, and an entry begins at a place of it.
pub record IsPlace (files : Files) (extent : Extent) (at : ℕ) : Type 0 where
  pub entry : LogEntry
  pub begins : BeginsAt (segment_bytes files extent.segment) at entry
  pub sized : extent.size ≡ length (segment_bytes files extent.segment)

-- An entry with this head begins at a place of a segment.
pub record HasEntry (files : Files) (segment at : ℕ) (head : Head) (entry : LogEntry) : Type 0 where
  pub begins : BeginsAt (segment_bytes files segment) at entry
  pub head_is : head ≡ head_of entry

-- These segments have the entries of a log, and so many bytes each.
pub record Covers (files : Files) (extents : List Extent) (log : List Located) : Type 0 where
  pub joined : Joins files (map (λ e. e.segment) extents) log
  pub sizes : AllByRecursion (λ e. e.size ≡ length (segment_bytes files e.segment)) extents
