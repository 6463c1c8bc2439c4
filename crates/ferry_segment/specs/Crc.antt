-- The CRC-32 of IEEE 802.3 (clause 3.2.9): the remainder of a division of polynomials over bits. The lowest
-- bit of each byte comes first, so a register holds the coefficient of the highest power in its lowest bit.
use Rattle.std.specs.Prelude.{ℕ, zero, suc, ◌*◌, ◌/◌, ◌%◌, List, [], ◌∷◌, bit_xor, fold}
use Rattle.std.specs.List.{flat_map}

-- x^32 + x^26 + x^23 + x^22 + x^16 + x^12 + x^11 + x^10 + x^8 + x^7 + x^5 + x^4 + x^2 + x + 1, its first term left out
abbrev pub polynomial : ℕ
polynomial = 0xedb88320

-- the register that a division begins with, and what is added to the remainder at its end
abbrev pub all_ones : ℕ
all_ones = 0xffffffff

-- the lowest bits of a number, the lowest first
abbrev pub low_bits : ℕ → ℕ → List ℕ
low_bits zero n = []
low_bits (suc k) n = n % 2 ∷ low_bits k (n / 2)

-- the bits of a byte in the order in which they are divided
unfoldable pub bits_of : ℕ → List ℕ
bits_of byte = low_bits 8 byte

-- the register one power on: where a one leaves it, the polynomial is subtracted
abbrev pub reduced : ℕ → ℕ
reduced register = bit_xor (register / 2) (register % 2 * polynomial)

-- the register so many powers on
unfoldable pub reduced_by : ℕ → ℕ → ℕ
reduced_by zero register = register
reduced_by (suc n) register = reduced_by n (reduced register)

-- the register after one more bit of the message
abbrev pub after_bit : ℕ → ℕ → ℕ
after_bit register bit = reduced (bit_xor register bit)

-- the register after these bytes
unfoldable pub register_after : ℕ → List ℕ → ℕ
register_after register bytes = fold after_bit register (flat_map bits_of bytes)

-- the CRC-32 of these bytes
unfoldable pub crc : List ℕ → ℕ
crc bytes = bit_xor (register_after all_ones bytes) all_ones

-- the CRC-32 of some bytes and these behind them, from that of the bytes before
unfoldable pub crc_more : ℕ → List ℕ → ℕ
crc_more before bytes = bit_xor (register_after (bit_xor before all_ones) bytes) all_ones
