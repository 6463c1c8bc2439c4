-- HMAC (RFC 2104) over the two hash functions of `sha2`, as functions on lists of bytes.
use Rattle.std.specs.Prelude.{ℕ, ◌-◌, nat_le, if◌then◌else◌, List, ◌++◌, length, map, replicate, bit_xor}
use Rattle.sha2.specs.Sha256.{sha256}
use Rattle.sha2.specs.Sha512.{sha512}

-- the byte of ipad (section 2)
abbrev pub inner_pad : ℕ
inner_pad = 0x36

-- the byte of opad (section 2)
abbrev pub outer_pad : ℕ
outer_pad = 0x5C

-- the key with zeros at its end, up to a block of `size` bytes (section 2, step 1)
abbrev pub filled : ℕ → List ℕ → List ℕ
filled size key = key ++ replicate (size - length key) 0

-- K, the key as one block: a key that is longer than a block is hashed first (section 2)
unfoldable pub block_key : (List ℕ → List ℕ) → ℕ → List ℕ → List ℕ
block_key hash size key = filled size (if nat_le (length key) size then key else hash key)

-- each byte xored with the pad (section 2, steps 2 and 5)
abbrev pub xored_with : ℕ → List ℕ → List ℕ
xored_with pad bytes = map (λ byte. bit_xor byte pad) bytes

-- H(K XOR opad, H(K XOR ipad, text)), where H takes blocks of `size` bytes (section 2)
abbrev pub hmac : (List ℕ → List ℕ) → ℕ → List ℕ → List ℕ → List ℕ
hmac hash size key text =
    let block = block_key hash size key in
    hash (xored_with outer_pad block ++ hash (xored_with inner_pad block ++ text))

-- HMAC-SHA-256, whose blocks have 64 bytes (section 2; RFC 4231, section 1)
unfoldable pub hmac256 : List ℕ → List ℕ → List ℕ
hmac256 key text = hmac sha256 64 key text

-- HMAC-SHA-512, whose blocks have 128 bytes (section 2; RFC 4231, section 1)
unfoldable pub hmac512 : List ℕ → List ℕ → List ℕ
hmac512 key text = hmac sha512 128 key text
