use Rattle.std.proofs.Common.{◌≡◌, ◌*◌, length, map, take}
use Rattle.ferry_mac.specs.Hmac.{hmac256}
use Rattle.ferry_mac.proofs.mac_many.hmac256_many.Given as goal

abbrev pub invariant-loop-window : goal.invariant-loop-window
invariant-loop-window l = record {
  size : length l.macs ≡ length l.texts;
  macs : take (64 * l.window) l.macs ≡ map (λ text. hmac256 l.key text.now) (take (64 * l.window) l.texts);
}
