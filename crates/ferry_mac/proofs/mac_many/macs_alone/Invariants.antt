use Rattle.std.proofs.Common.{◌≡◌, ℕ, ◌<◌, length, slice_index}
use Rattle.ferry_mac.specs.Many.{HasMac}
use Rattle.ferry_mac.proofs.mac_many.macs_alone.Given as goal

abbrev pub invariant-loop-turn : goal.invariant-loop-turn
invariant-loop-turn l = record {
  size : length l.macs ≡ length l.initial.macs;
  macs : (i : ℕ) → i < l.turn → HasMac l.key l.texts l.macs (slice_index l.order i);
  kept : (k : ℕ) → HasMac l.key l.texts l.initial.macs k → HasMac l.key l.texts l.macs k;
}
