-- PBKDF2 (RFC 8018, section 5.2) over HMAC-SHA-256, with 32 bytes out.
use Rattle.std.specs.Prelude.{ℕ, zero, suc, List, [], ◌∷◌, ◌++◌, fold, replicate, bit_xor}
use Rattle.std.specs.Int.{w32, to_be_bytes}
use Rattle.std.specs.Simd.Lanes.{zip2}
use Rattle.ferry_mac.specs.Hmac.{hmac256}

-- INT(i), the four octets of the number of a block, the most significant first (step 3)
abbrev pub block_number : ℕ → List ℕ
block_number i = to_be_bytes w32 i

-- the exclusive or of two strings, octet by octet (section 3)
abbrev pub xor_of : List ℕ → List ℕ → List ℕ
xor_of xs ys = zip2 bit_xor xs ys

-- U_n, at n - 1 for n from 1 on: U_1 is PRF(P, S || INT(1)), and each next one is the PRF of the
-- one before (step 3)
unfoldable pub iterate : List ℕ → List ℕ → ℕ → List ℕ
iterate passphrase salt zero = hmac256 passphrase (salt ++ block_number 1)
iterate passphrase salt (suc n) = hmac256 passphrase (iterate passphrase salt n)

-- U_1 to U_c
unfoldable pub iterates : List ℕ → List ℕ → ℕ → List (List ℕ)
iterates passphrase salt zero = []
iterates passphrase salt (suc c) = iterates passphrase salt c ++ iterate passphrase salt c ∷ []

-- the exclusive or of all of these strings of 32 octets
unfoldable pub xor_of_all : List (List ℕ) → List ℕ
xor_of_all strings = fold xor_of (replicate 32 0) strings

-- DK of 32 octets: l is 1, so that it is T_1, the exclusive or of U_1 to U_c (steps 2 to 4)
unfoldable pub pbkdf2 : List ℕ → List ℕ → ℕ → List ℕ
pbkdf2 passphrase salt c = xor_of_all (iterates passphrase salt c)
