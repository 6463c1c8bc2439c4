-- HKDF (RFC 5869) over HMAC-SHA-512, with 64 bytes out.
use Rattle.std.specs.Prelude.{ℕ, List, [], ◌∷◌, ◌++◌}
use Rattle.ferry_mac.specs.Hmac.{hmac512}

-- PRK, the pseudorandom key, from the input keying material (section 2.2)
abbrev pub extract : List ℕ → List ℕ → List ℕ
extract salt ikm = hmac512 salt ikm

-- OKM of 64 bytes: N is 1, so that it is T(1), the MAC of the empty T(0), info and the byte 1
-- (section 2.3)
abbrev pub expand : List ℕ → List ℕ → List ℕ
expand prk info = hmac512 prk ([] ++ info ++ 1 ∷ [])

-- the 64 bytes that are derived (section 2.1)
unfoldable pub hkdf512 : List ℕ → List ℕ → List ℕ → List ℕ
hkdf512 ikm salt info = expand (extract salt ikm) info
