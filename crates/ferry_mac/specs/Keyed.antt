-- What contracts see of the running digests of a key.
use Rattle.std.specs.Prelude.{ℕ, List}
use Rattle.sha2.specs.Hashers.{Holds256, Holds512}
use Rattle.sha2.specs.Sha256.{sha256}
use Rattle.sha2.specs.Sha512.{sha512}
use Rattle.ferry_mac.specs.Hmac.{block_key, inner_pad, outer_pad, xored_with}
use Rattle.ferry_mac.specs.declared.mac256.Keyed256.{Keyed256}
use Rattle.ferry_mac.specs.declared.mac512.Keyed512.{Keyed512}

-- the inner and the outer digest have each taken the key's block, xored with its pad
pub record IsKeyed256 (keyed : Keyed256) (key : List ℕ) : Type 0 where
  pub inner : Holds256 keyed.inner (xored_with inner_pad (block_key sha256 64 key))
  pub outer : Holds256 keyed.outer (xored_with outer_pad (block_key sha256 64 key))

-- the same for SHA-512
pub record IsKeyed512 (keyed : Keyed512) (key : List ℕ) : Type 0 where
  pub inner : Holds512 keyed.inner (xored_with inner_pad (block_key sha512 128 key))
  pub outer : Holds512 keyed.outer (xored_with outer_pad (block_key sha512 128 key))
