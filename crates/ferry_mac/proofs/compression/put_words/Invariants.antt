use Rattle.std.proofs.Common.{◌≡◌, ◌≢◌, ℕ, ◌<◌, ◌*◌, [], length, slice_index_or}
use Rattle.sha2.specs.Sha256.{word_at}
use Rattle.ferry_mac.specs.Lanes.{lane_at}
use Rattle.ferry_mac.proofs.compression.put_words.Given as goal

abbrev pub invariant-loop-place : goal.invariant-loop-place
invariant-loop-place g l = record {
  size : length l.w ≡ 64;
  row : (i : ℕ) → i < 64 → length (slice_index_or l.w i []) ≡ g.row.N;
  words : (i : ℕ) → i < l.place → lane_at l.w i l.l ≡ word_at l.block (4 * i);
  others : (j i : ℕ) → j ≢ l.l → lane_at l.w i j ≡ lane_at l.fn.w i j;
}
