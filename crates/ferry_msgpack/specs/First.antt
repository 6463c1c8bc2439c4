-- The table of first bytes. msgpack specification, "Formats", "Overview". Floats and extensions aren't read.
use Rattle.std.specs.Prelude.{ℕ, ◌+◌, ◌-◌, ◌<◌, ◌≤◌, Bool, true, false, ℤ, pos, negsuc}
use Rattle.std.specs.Int.{Width, w8, w16, w32, w64}

-- A count stands in the first byte, or in the bytes behind it.
pub data Count : Type 0 where
  given : ℕ → Count
  behind : Width → Count

-- what a first byte says of the value that it begins
pub data First : Type 0 where
  no_value : First
  nil_value : First
  flag_value : Bool → First
  small_number : ℤ → First
  unsigned_number : Width → First
  signed_number : Width → First
  raw_value : Count → First
  array_value : Count → First
  map_value : Count → First

-- the rows of the table
pub data Row : ℕ → First → Type 0 where
  positive_fixint : (n : ℕ) → n < 0x80 → Row n (small_number (pos n))
  fixmap : (n : ℕ) → n < 0x10 → Row (0x80 + n) (map_value (given n))
  fixarray : (n : ℕ) → n < 0x10 → Row (0x90 + n) (array_value (given n))
  fixstr : (n : ℕ) → n < 0x20 → Row (0xa0 + n) (raw_value (given n))
  nil : Row 0xc0 nil_value
  never_used : Row 0xc1 no_value
  is_false : Row 0xc2 (flag_value false)
  is_true : Row 0xc3 (flag_value true)
  bin8 : Row 0xc4 (raw_value (behind w8))
  bin16 : Row 0xc5 (raw_value (behind w16))
  bin32 : Row 0xc6 (raw_value (behind w32))
  ext8 : Row 0xc7 no_value
  ext16 : Row 0xc8 no_value
  ext32 : Row 0xc9 no_value
  float32 : Row 0xca no_value
  float64 : Row 0xcb no_value
  uint8 : Row 0xcc (unsigned_number w8)
  uint16 : Row 0xcd (unsigned_number w16)
  uint32 : Row 0xce (unsigned_number w32)
  uint64 : Row 0xcf (unsigned_number w64)
  int8 : Row 0xd0 (signed_number w8)
  int16 : Row 0xd1 (signed_number w16)
  int32 : Row 0xd2 (signed_number w32)
  int64 : Row 0xd3 (signed_number w64)
  fixext1 : Row 0xd4 no_value
  fixext2 : Row 0xd5 no_value
  fixext4 : Row 0xd6 no_value
  fixext8 : Row 0xd7 no_value
  fixext16 : Row 0xd8 no_value
  str8 : Row 0xd9 (raw_value (behind w8))
  str16 : Row 0xda (raw_value (behind w16))
  str32 : Row 0xdb (raw_value (behind w32))
  array16 : Row 0xdc (array_value (behind w16))
  array32 : Row 0xdd (array_value (behind w32))
  map16 : Row 0xde (map_value (behind w16))
  map32 : Row 0xdf (map_value (behind w32))
  negative_fixint : (n : ℕ) → n < 0x20 → Row (0xff - n) (small_number (negsuc n))
  -- a number above that is no byte, and begins no value
  no_byte : (n : ℕ) → 0x100 ≤ n → Row n no_value
