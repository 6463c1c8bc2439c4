-- Counter mode over AES-256, NIST SP 800-38A, section 6.5, with the incrementing function of its
-- appendix B.1 over all 128 bits of the counter block.
use Rattle.std.specs.Prelude.{ℕ, ◌+◌, ◌/◌, ◌%◌, ◌^◌, List, length, map, take, bit_xor}
use Rattle.std.specs.Int.{w128, to_be_bytes}
use Rattle.std.specs.List.{flat_map, range_with_len, zip}
use Rattle.ferry_aes.specs.KeyExpansion.{key_expansion}
use Rattle.ferry_aes.specs.Cipher.{cipher}

-- the counter block of a number: the number modulo 2^128 in 16 bytes, the highest first
unfoldable pub counter_block : ℕ → List ℕ
counter_block n = to_be_bytes w128 (n % 2 ^ 128)

-- the output blocks of the counters n, n + 1, .., as many as told, joined
unfoldable pub output_blocks : List (List ℕ) → ℕ → ℕ → List ℕ
output_blocks w n count = flat_map (λ j. cipher w (counter_block (n + j))) (range_with_len 0 count)

-- the first len bytes of the output blocks: the last block is cut
unfoldable pub key_stream : List (List ℕ) → ℕ → ℕ → List ℕ
key_stream w n len = take len (output_blocks w n ((len + 15) / 16))

-- the xor of two lists of bytes, place by place
abbrev pub xor_lists : List ℕ → List ℕ → List ℕ
xor_lists xs ys = map (λ p. bit_xor p.0 p.1) (zip xs ys)

-- a text encrypted, and decrypted, in counter mode from the counter n (6.5)
unfoldable pub ctr : List ℕ → ℕ → List ℕ → List ℕ
ctr key n text = xor_lists text (key_stream (key_expansion key) n (length text))
