use Rattle.std.proofs.Common.{refl}
use Rattle.ferry_mac.specs.Hkdf.{hkdf512}
use Rattle.ferry_mac.proofs.hkdf.hkdf512.Goals as goal

pub returns : goal.returns
unfolding hkdf512
returns c = record {
  derived =
      rw (c.mac_of_parts.ensures.mac c.hmac512-pseudorandom_key.result c.new.ensures.keyed, c.hmac512-pseudorandom_key.ensures.mac) refl;
}
