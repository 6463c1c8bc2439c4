use Rattle.std.proofs.Common.{◌≡◌, length, ℕ, ◌<◌, ◌≤◌, [], slice_index_or}
use Rattle.ferry_blob.specs.Batch.{answer_at, answer_under, id_at, is_id}
use Rattle.ferry_blob.proofs.many_opening.put_answers.Given as goal

-- the answers before the place are those under the ids, and the others are as they were
abbrev pub invariant-loop-place : goal.invariant-loop-place
invariant-loop-place l = record {
  size : length l.answers ≡ length l.initial.answers;
  under : (k : ℕ) → k < l.place
      → answer_at l.answers k ≡ answer_under (is_id (id_at l.ids k) (slice_index_or l.names k [])) (answer_at l.initial.answers k);
  left : (k : ℕ) → l.place ≤ k → answer_at l.answers k ≡ answer_at l.initial.answers k;
}
