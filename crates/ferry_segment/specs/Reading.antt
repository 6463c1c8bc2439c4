-- The steps of the reader of an entry, for the contracts of its parts.
use Rattle.std.specs.Prelude.{◌≡◌, ℕ, ◌-◌, ◌≤◌, nat_lt, not, if◌then◌else◌, List, length, take, drop, slice_index, Option, Some, None}
use Rattle.ferry_segment.specs.Crc.{crc}
use Rattle.ferry_segment.specs.declared.entry.EntryFault.{EntryFault}
use Rattle.ferry_segment.specs.declared.entry.EntryFault.TheVariants.{Size, Tag}
use Rattle.ferry_base.specs.Limits.{entry_limit}
use Rattle.ferry_segment.specs.Entry.{LogEntry, tagged, size_of, Fits, stated_size, stated_crc, size_fits_tag}

-- The front of the bytes is an entry's: its size is in range, and its CRC is right.
pub record IsChecked (bytes entry : List ℕ) : Type 0 where
  pub least : 9 ≤ stated_size bytes
  pub most : stated_size bytes ≤ entry_limit
  pub within : stated_size bytes ≤ length bytes
  pub front : entry ≡ take (stated_size bytes) bytes
  pub right : crc (take (stated_size bytes - 4) (drop 4 bytes)) ≡ stated_crc bytes

-- what is wrong with the entry tag of checked bytes
abbrev pub tag_fault : List ℕ → Option EntryFault
tag_fault entry =
    if nat_lt 2 (slice_index entry 8) then Some Tag
    else (if not (size_fits_tag (length entry) (slice_index entry 8)) then Some Size
    else None)

-- Checked bytes are those of this entry.
pub record IsTagged (bytes : List ℕ) (entry : LogEntry) : Type 0 where
  pub right : tag_fault bytes ≡ None
  pub behind : drop 8 bytes ≡ tagged entry
  pub sized : length bytes ≡ size_of entry
  pub fits : length bytes ≤ entry_limit → Fits entry
