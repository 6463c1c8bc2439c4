-- What a `First` of the code says, in the terms of the table.
use Rattle.std.specs.Int as int
use Rattle.ferry_msgpack.specs.First as table
use Rattle.ferry_msgpack.specs.declared.first.Width.{Width}
use Rattle.ferry_msgpack.specs.declared.first.Width.TheVariants.{One, Two, Four, Eight}
use Rattle.ferry_msgpack.specs.declared.first.Count.{Count}
use Rattle.ferry_msgpack.specs.declared.first.Count.TheVariants.{Given, Behind}
use Rattle.ferry_msgpack.specs.declared.first.First.{First}
use Rattle.ferry_msgpack.specs.declared.first.First.TheVariants.{Refused, Nil, Flag, Small, Unsigned, Signed, Raw, Array, Table}

abbrev pub width_view : Width → int.Width
width_view One = int.w8
width_view Two = int.w16
width_view Four = int.w32
width_view Eight = int.w64

abbrev pub count_view : Count → table.Count
count_view (Given n) = table.given n
count_view (Behind w) = table.behind (width_view w)

abbrev pub first_view : First → table.First
first_view Refused = table.no_value
first_view Nil = table.nil_value
first_view (Flag b) = table.flag_value b
first_view (Small z) = table.small_number z
first_view (Unsigned w) = table.unsigned_number (width_view w)
first_view (Signed w) = table.signed_number (width_view w)
first_view (Raw c) = table.raw_value (count_view c)
first_view (Array c) = table.array_value (count_view c)
first_view (Table c) = table.map_value (count_view c)
