-- The function that reads a first byte is the table.
use Rattle.std.proofs.Common.{◌≡◌, ℕ, ◌+◌, ◌-◌, ◌≤◌, ◌<◌, cond, ltb, negsuc, refl, subst, arith, inl, inr}
use Rattle.std.proofs.lemmas.Bool.{cases_lt, le-ltb, lt-ltb}
use Rattle.std.proofs.lemmas.Bool.Decides.{nat_tests}
use Rattle.ferry_msgpack.specs.First.{given, First, no_value, small_number, raw_value, array_value, map_value, Row, positive_fixint, fixmap, fixarray, fixstr}
use Rattle.ferry_msgpack.specs.First.{nil, never_used, is_false, is_true, bin8, bin16, bin32, ext8, ext16, ext32, float32, float64, uint8, uint16, uint32}
use Rattle.ferry_msgpack.specs.First.{uint64, int8, int16, int32, int64, fixext1, fixext2, fixext4, fixext8, fixext16, str8, str16, str32, array16, array32}
use Rattle.ferry_msgpack.specs.First.{map16, map32, negative_fixint, no_byte}
use Rattle.ferry_msgpack.specs.Reading.{first_of}

-- each row is read
pub first_of-Row : (b : ℕ) (first : First) → Row b first → first_of b ≡ first
unfolding first_of
first_of-Row b first (positive_fixint n h) = grind (arith, nat_tests)
first_of-Row b first (fixmap n h) = grind (arith, nat_tests)
first_of-Row b first (fixarray n h) = grind (arith, nat_tests)
first_of-Row b first (fixstr n h) = grind (arith, nat_tests)
first_of-Row b first nil = refl
first_of-Row b first never_used = refl
first_of-Row b first is_false = refl
first_of-Row b first is_true = refl
first_of-Row b first bin8 = refl
first_of-Row b first bin16 = refl
first_of-Row b first bin32 = refl
first_of-Row b first ext8 = refl
first_of-Row b first ext16 = refl
first_of-Row b first ext32 = refl
first_of-Row b first float32 = refl
first_of-Row b first float64 = refl
first_of-Row b first uint8 = refl
first_of-Row b first uint16 = refl
first_of-Row b first uint32 = refl
first_of-Row b first uint64 = refl
first_of-Row b first int8 = refl
first_of-Row b first int16 = refl
first_of-Row b first int32 = refl
first_of-Row b first int64 = refl
first_of-Row b first fixext1 = refl
first_of-Row b first fixext2 = refl
first_of-Row b first fixext4 = refl
first_of-Row b first fixext8 = refl
first_of-Row b first fixext16 = refl
first_of-Row b first str8 = refl
first_of-Row b first str16 = refl
first_of-Row b first str32 = refl
first_of-Row b first array16 = refl
first_of-Row b first array32 = refl
first_of-Row b first map16 = refl
first_of-Row b first map32 = refl
first_of-Row b first (negative_fixint n h) = grind (arith, nat_tests)
first_of-Row b first (no_byte n h) = grind (arith, nat_tests)

-- one row up to the next
upto : (b next : ℕ) (x y : First) → (b < next → Row b x) → (next ≤ b → Row b y) → Row b (cond (ltb b next) x y)
upto b next x y below above =
    elim (cases_lt b next) [
      | inl lt ↦ rw (lt-ltb b next lt) (below lt)
      | inr le ↦ rw (le-ltb b next le) (above le)
    ]

-- the row of one byte
at_row : (b k : ℕ) (x : First) → Row k x → k ≤ b → b < k + 1 → Row b x
at_row b k x row le lt = let e : k ≡ b = omega arith in subst (λ (n : ℕ). Row n x) e row

map_row : (b : ℕ) → 0x80 ≤ b → b < 0x90 → Row b (map_value (given (b - 0x80)))
map_row b le lt = let e : 0x80 + (b - 0x80) ≡ b = omega arith in subst (λ (n : ℕ). Row n (map_value (given (b - 0x80)))) e (fixmap (b - 0x80) (omega arith))

array_row : (b : ℕ) → 0x90 ≤ b → b < 0xa0 → Row b (array_value (given (b - 0x90)))
array_row b le lt =
    let e : 0x90 + (b - 0x90) ≡ b = omega arith in subst (λ (n : ℕ). Row n (array_value (given (b - 0x90)))) e (fixarray (b - 0x90) (omega arith))

raw_row : (b : ℕ) → 0xa0 ≤ b → b < 0xc0 → Row b (raw_value (given (b - 0xa0)))
raw_row b le lt = let e : 0xa0 + (b - 0xa0) ≡ b = omega arith in subst (λ (n : ℕ). Row n (raw_value (given (b - 0xa0)))) e (fixstr (b - 0xa0) (omega arith))

negative_row : (b : ℕ) → 0xe0 ≤ b → b < 0x100 → Row b (small_number (negsuc (0xff - b)))
negative_row b le lt =
    let e : 0xff - (0xff - b) ≡ b = omega arith in subst (λ (n : ℕ). Row n (small_number (negsuc (0xff - b)))) e (negative_fixint (0xff - b) (omega arith))

-- the cases of two bytes that say the same
either_row : (b next : ℕ) (x : First) → (b < next → Row b x) → (next ≤ b → Row b x) → Row b x
either_row b next x below above = elim (cases_lt b next) [ inl lt ↦ below lt | inr le ↦ above le ]

ext_row : (b : ℕ) → 0xc7 ≤ b → b < 0xcc → Row b no_value
ext_row b le lt =
    either_row b 0xc8 no_value (at_row b 0xc7 _ ext8 le) (λ h0.
    either_row b 0xc9 no_value (at_row b 0xc8 _ ext16 h0) (λ h1.
    either_row b 0xca no_value (at_row b 0xc9 _ ext32 h1) (λ h2.
    either_row b 0xcb no_value (at_row b 0xca _ float32 h2) (λ h3.
    at_row b 0xcb _ float64 h3 lt))))

fixext_row : (b : ℕ) → 0xd4 ≤ b → b < 0xd9 → Row b no_value
fixext_row b le lt =
    either_row b 0xd5 no_value (at_row b 0xd4 _ fixext1 le) (λ h0.
    either_row b 0xd6 no_value (at_row b 0xd5 _ fixext2 h0) (λ h1.
    either_row b 0xd7 no_value (at_row b 0xd6 _ fixext4 h1) (λ h2.
    either_row b 0xd8 no_value (at_row b 0xd7 _ fixext8 h2) (λ h3.
    at_row b 0xd8 _ fixext16 h3 lt))))

-- what is read is a row
pub Row-first_of : (b : ℕ) → Row b (first_of b)
unfolding first_of
Row-first_of b =
    upto b 0x80 _ _ (positive_fixint b) (λ h0.
    upto b 0x90 _ _ (map_row b h0) (λ h1.
    upto b 0xa0 _ _ (array_row b h1) (λ h2.
    upto b 0xc0 _ _ (raw_row b h2) (λ h3.
    upto b 0xc1 _ _ (at_row b 0xc0 _ nil h3) (λ h4.
    upto b 0xc2 _ _ (at_row b 0xc1 _ never_used h4) (λ h5.
    upto b 0xc3 _ _ (at_row b 0xc2 _ is_false h5) (λ h6.
    upto b 0xc4 _ _ (at_row b 0xc3 _ is_true h6) (λ h7.
    upto b 0xc5 _ _ (at_row b 0xc4 _ bin8 h7) (λ h8.
    upto b 0xc6 _ _ (at_row b 0xc5 _ bin16 h8) (λ h9.
    upto b 0xc7 _ _ (at_row b 0xc6 _ bin32 h9) (λ h10.
    upto b 0xcc _ _ (ext_row b h10) (λ h11.
    upto b 0xcd _ _ (at_row b 0xcc _ uint8 h11) (λ h12.
    upto b 0xce _ _ (at_row b 0xcd _ uint16 h12) (λ h13.
    upto b 0xcf _ _ (at_row b 0xce _ uint32 h13) (λ h14.
    upto b 0xd0 _ _ (at_row b 0xcf _ uint64 h14) (λ h15.
    upto b 0xd1 _ _ (at_row b 0xd0 _ int8 h15) (λ h16.
    upto b 0xd2 _ _ (at_row b 0xd1 _ int16 h16) (λ h17.
    upto b 0xd3 _ _ (at_row b 0xd2 _ int32 h17) (λ h18.
    upto b 0xd4 _ _ (at_row b 0xd3 _ int64 h18) (λ h19.
    upto b 0xd9 _ _ (fixext_row b h19) (λ h20.
    upto b 0xda _ _ (at_row b 0xd9 _ str8 h20) (λ h21.
    upto b 0xdb _ _ (at_row b 0xda _ str16 h21) (λ h22.
    upto b 0xdc _ _ (at_row b 0xdb _ str32 h22) (λ h23.
    upto b 0xdd _ _ (at_row b 0xdc _ array16 h23) (λ h24.
    upto b 0xde _ _ (at_row b 0xdd _ array32 h24) (λ h25.
    upto b 0xdf _ _ (at_row b 0xde _ map16 h25) (λ h26.
    upto b 0xe0 _ _ (at_row b 0xdf _ map32 h26) (λ h27.
    upto b 0x100 _ _ (negative_row b h27) (no_byte b)))))))))))))))))))))))))))))
