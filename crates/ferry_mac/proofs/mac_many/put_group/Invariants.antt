use Rattle.std.proofs.Common.{◌≡◌, ℕ, ◌⊎◌, ◌<◌, ◌≤◌, ◌+◌, [], length, slice_index_or}
use Rattle.sha2.specs.Sha256.{digest_bytes}
use Rattle.ferry_mac.specs.Lanes.{lane}
use Rattle.ferry_mac.proofs.mac_many.put_group.Given as goal

abbrev pub invariant-loop-l : goal.invariant-loop-l
invariant-loop-l g l = record {
  size : length l.digests ≡ length l.initial.digests;
  put : (j : ℕ) → j < l.l → l.at + j < length l.initial.digests → slice_index_or l.digests (l.at + j) [] ≡ digest_bytes (lane l.state j) 8;
  others : (k : ℕ) → (k < l.at) ⊎ (l.at + l.l ≤ k) → slice_index_or l.digests k [] ≡ slice_index_or l.initial.digests k [];
}
