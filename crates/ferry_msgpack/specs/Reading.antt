-- Reading from left to right, as functions on lists: a value and what follows it, or the first fault.
use Rattle.std.specs.Prelude.{◌≡◌, ℕ, zero, suc, ◌-◌, List, [], ◌∷◌, length, take, drop, true, false, pos, negsuc, ℤ, Result, Ok, Err, nat_lt, if◌then◌else◌}
use Rattle.std.specs.Int.{Width, w8, w16, w32, w64, byte_len, from_be_bytes, cast_signed}
use Rattle.ferry_msgpack.specs.declared.fault.PackFault.{PackFault}
use Rattle.ferry_msgpack.specs.declared.fault.PackFault.TheVariants.{Short, Kind, Key, Repeat, Deep, Memory}
use Rattle.ferry_msgpack.specs.Tree.{Tree, nil, flag, number, raw, array, table, Items, no_items, item, Pairs, no_pairs, has_key, put}
use Rattle.ferry_msgpack.specs.First.{Count, given, behind, First, no_value, nil_value, flag_value, small_number, unsigned_number, signed_number, raw_value}
use Rattle.ferry_msgpack.specs.First.{array_value, map_value}

infixl 10 ◌>>=◌
abbrev pub ◌>>=◌ : {A B : Type 0} → Result A PackFault → (A → Result B PackFault) → Result B PackFault
(Ok x) >>= f = f x
(Err e) >>= f = Err e

-- What a function returned, seen by view, is what reading gives, unless memory ran out.
abbrev pub Fails : {Y : Type 0} → PackFault → Result Y PackFault → Type 0
Fails Memory read = Unit {0}
Fails fault read = read ≡ Err fault

abbrev pub Gives : {X Y : Type 0} → (X → Y) → Result X PackFault → Result Y PackFault → Type 0
Gives view (Ok x) read = read ≡ Ok (view x)
Gives view (Err e) read = Fails e read

-- what a first byte says, each range up to the next
unfoldable pub first_of : ℕ → First
first_of b =
    if nat_lt b 0x80 then small_number (pos b) else (
    if nat_lt b 0x90 then map_value (given (b - 0x80)) else (
    if nat_lt b 0xa0 then array_value (given (b - 0x90)) else (
    if nat_lt b 0xc0 then raw_value (given (b - 0xa0)) else (
    if nat_lt b 0xc1 then nil_value else (
    if nat_lt b 0xc2 then no_value else (
    if nat_lt b 0xc3 then flag_value false else (
    if nat_lt b 0xc4 then flag_value true else (
    if nat_lt b 0xc5 then raw_value (behind w8) else (
    if nat_lt b 0xc6 then raw_value (behind w16) else (
    if nat_lt b 0xc7 then raw_value (behind w32) else (
    if nat_lt b 0xcc then no_value else (
    if nat_lt b 0xcd then unsigned_number w8 else (
    if nat_lt b 0xce then unsigned_number w16 else (
    if nat_lt b 0xcf then unsigned_number w32 else (
    if nat_lt b 0xd0 then unsigned_number w64 else (
    if nat_lt b 0xd1 then signed_number w8 else (
    if nat_lt b 0xd2 then signed_number w16 else (
    if nat_lt b 0xd3 then signed_number w32 else (
    if nat_lt b 0xd4 then signed_number w64 else (
    if nat_lt b 0xd9 then no_value else (
    if nat_lt b 0xda then raw_value (behind w8) else (
    if nat_lt b 0xdb then raw_value (behind w16) else (
    if nat_lt b 0xdc then raw_value (behind w32) else (
    if nat_lt b 0xdd then array_value (behind w16) else (
    if nat_lt b 0xde then array_value (behind w32) else (
    if nat_lt b 0xdf then map_value (behind w16) else (
    if nat_lt b 0xe0 then map_value (behind w32) else (
    if nat_lt b 0x100 then small_number (negsuc (0xff - b)) else no_value
    ))))))))))))))))))))))))))))

-- a number of the width, and what follows it
unfoldable pub number_at : Width → List ℕ → Result (ℕ × List ℕ) PackFault
number_at w bytes = if nat_lt (length bytes) (byte_len w) then Err Short else Ok (from_be_bytes w (take (byte_len w) bytes), drop (byte_len w) bytes)

unfoldable pub signed_at : Width → List ℕ → Result (ℤ × List ℕ) PackFault
signed_at w bytes = do
  n ← number_at w bytes
  Ok (cast_signed w n.0, n.1)

unfoldable pub count_at : Count → List ℕ → Result (ℕ × List ℕ) PackFault
count_at (given n) bytes = Ok (n, bytes)
count_at (behind w) bytes = number_at w bytes

unfoldable pub content_at : ℕ → List ℕ → Result (List ℕ × List ℕ) PackFault
content_at n bytes = if nat_lt (length bytes) n then Err Short else Ok (take n bytes, drop n bytes)

unfoldable pub raw_at : Count → List ℕ → Result (List ℕ × List ℕ) PackFault
raw_at c bytes = do
  n ← count_at c bytes
  content_at n.0 n.1

-- the key that a first byte begins
abbrev pub key_by : First → List ℕ → Result (List ℕ × List ℕ) PackFault
key_by (raw_value c) bytes = raw_at c bytes
key_by no_value bytes = Err Kind
key_by _ bytes = Err Key

unfoldable pub key_at : List ℕ → Result (List ℕ × List ℕ) PackFault
key_at [] = Err Short
key_at (b ∷ bytes) = key_by (first_of b) bytes

-- what reads a value
abbrev pub Reader : Type 0
Reader = List ℕ → Result (Tree × List ℕ) PackFault

-- n values
unfoldable pub items_at : Reader → ℕ → List ℕ → Result (Items × List ℕ) PackFault
items_at read zero bytes = Ok (no_items, bytes)
items_at read (suc n) bytes = do
  first ← read bytes
  others ← items_at read n first.1
  Ok (item first.0 others.0, others.1)

-- n pairs, put to the pairs that stood before them
unfoldable pub pairs_at : Reader → ℕ → Pairs → List ℕ → Result (Pairs × List ℕ) PackFault
pairs_at read zero before bytes = Ok (before, bytes)
pairs_at read (suc n) before bytes = do
  key ← key_at bytes
  if has_key key.0 before then Err Repeat else (do
    value ← read key.1
    pairs_at read n (put key.0 value.0 before) value.1)

unfoldable pub array_at : Reader → Count → List ℕ → Result (Tree × List ℕ) PackFault
array_at read c bytes = do
  n ← count_at c bytes
  items ← items_at read n.0 n.1
  Ok (array items.0, items.1)

unfoldable pub table_at : Reader → Count → List ℕ → Result (Tree × List ℕ) PackFault
table_at read c bytes = do
  n ← count_at c bytes
  pairs ← pairs_at read n.0 no_pairs n.1
  Ok (table pairs.0, pairs.1)

-- the value that a first byte begins, where these read arrays and maps
abbrev pub value_by : (arrays maps : Count → Reader) → First → List ℕ → Result (Tree × List ℕ) PackFault
value_by arrays maps no_value bytes = Err Kind
value_by arrays maps nil_value bytes = Ok (nil, bytes)
value_by arrays maps (flag_value f) bytes = Ok (flag f, bytes)
value_by arrays maps (small_number z) bytes = Ok (number z, bytes)
value_by arrays maps (unsigned_number w) bytes = do
  n ← number_at w bytes
  Ok (number (pos n.0), n.1)
value_by arrays maps (signed_number w) bytes = do
  n ← signed_at w bytes
  Ok (number n.0, n.1)
value_by arrays maps (raw_value c) bytes = do
  content ← raw_at c bytes
  Ok (raw content.0, content.1)
value_by arrays maps (array_value c) bytes = arrays c bytes
value_by arrays maps (map_value c) bytes = maps c bytes

-- the same where no array or map may begin
abbrev pub flat_by : First → List ℕ → Result (Tree × List ℕ) PackFault
flat_by = value_by (λ _ _. Err Deep) (λ _ _. Err Deep)

-- a value, in which at most so many arrays and maps stand inside each other
unfoldable pub value_at : ℕ → List ℕ → Result (Tree × List ℕ) PackFault
value_at d [] = Err Short
value_at zero (b ∷ bytes) = flat_by (first_of b) bytes
value_at (suc d) (b ∷ bytes) = value_by (array_at (value_at d)) (table_at (value_at d)) (first_of b) bytes
