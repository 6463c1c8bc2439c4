-- What crates above cite of HMAC.
use Rattle.std.proofs.Common.{◌≡◌, ℕ, List, length}
use Rattle.sha2.proofs.Facts256.{length-sha256}
use Rattle.sha2.proofs.Facts512.{length-sha512}
use Rattle.ferry_mac.specs.Hmac.{hmac256, hmac512}

-- a MAC over SHA-256 has 32 bytes
pub length-hmac256 : (key text : List ℕ) → length (hmac256 key text) ≡ 32
unfolding hmac256
length-hmac256 key text = length-sha256 _

-- a MAC over SHA-512 has 64 bytes
pub length-hmac512 : (key text : List ℕ) → length (hmac512 key text) ≡ 64
unfolding hmac512
length-hmac512 key text = length-sha512 _
