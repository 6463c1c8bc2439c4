-- The schedule and the rounds of SHA-256, one step on, in a lane.
use Rattle.std.proofs.Common.{◌≡◌, ◌≢◌, ℕ, ◌<◌, ◌+◌, ◌-◌, ◌≤◌, List, [], length, slice_index, slice_set, sym, ap, ◌∙◌, inl, inr, arith}
use Rattle.std.proofs.lemmas.List.{get_or-set_same, get_or-set_other}
use Rattle.std.proofs.lemmas.Bool.{cases_lt}
use Rattle.std.proofs.lemmas.Bool.Decides.{eqb_tells}
use Rattle.sha2.specs.Sha256.{add32, round, round_constants, rounds, schedule, small_sigma0, small_sigma1}
use Rattle.sha2.proofs.Schedule256.{rounds_next, slice_index-schedule_first, slice_index-schedule_next}
use Rattle.ferry_mac.specs.Lanes.{HasRows, HasWords, IsScheduled, lane_at}

-- one more word of a message
pub lane_at-set_more : (wanted : ℕ → ℕ) (vectors : List (List ℕ)) (vector : List ℕ) (t l : ℕ) → t < length vectors
    → ((i : ℕ) → i < t → lane_at vectors i l ≡ wanted i) → slice_index vector l ≡ wanted t
    → (i : ℕ) → i < t + 1 → lane_at (slice_set vectors t vector) i l ≡ wanted i
lane_at-set_more wanted vectors vector t l fits before here i h = elim (cases_lt i t) [
  | inl lt ↦
      let apart : i ≢ t = omega arith in
      ap (λ v. slice_index v l) (get_or-set_other vectors t i vector [] apart) ∙ before i lt
  | inr ge ↦
      let e : t ≡ i = omega arith in
      rw (← e) (ap (λ v. slice_index v l) (get_or-set_same vectors t vector [] fits) ∙ here)
]

-- the first 16 words of a schedule are the block's
pub scheduled_first : (vectors : List (List ℕ)) (l : ℕ) (block : List ℕ) → HasWords vectors l block → IsScheduled vectors 16 l block
scheduled_first vectors l block held i lt = held i lt ∙ sym (slice_index-schedule_first block 48 i lt)

-- a word more, from four words before it
pub scheduled_more : (vectors : List (List ℕ)) (vector : List ℕ) (t l : ℕ) (block : List ℕ) → 16 ≤ t → t < 64 → length vectors ≡ 64
    → IsScheduled vectors t l block
    → slice_index vector l ≡ add32 (add32 (add32 (small_sigma1 (lane_at vectors (t - 2) l)) (lane_at vectors (t - 7) l))
    (small_sigma0 (lane_at vectors (t - 15) l))) (lane_at vectors (t - 16) l)
    → IsScheduled (slice_set vectors t vector) (t + 1) l block
scheduled_more vectors vector t l block low high long before made =
    let w = schedule block 48 in
    let two : lane_at vectors (t - 2) l ≡ slice_index w (t - 2) = before (t - 2) (omega arith) in
    let seven : lane_at vectors (t - 7) l ≡ slice_index w (t - 7) = before (t - 7) (omega arith) in
    let fifteen : lane_at vectors (t - 15) l ≡ slice_index w (t - 15) = before (t - 15) (omega arith) in
    let sixteen : lane_at vectors (t - 16) l ≡ slice_index w (t - 16) = before (t - 16) (omega arith) in
    lane_at-set_more (slice_index w) vectors vector t l (omega arith) before
    (made ∙ rw (two, seven, fifteen, sixteen) (sym (slice_index-schedule_next block 48 t low high)))

-- one more round
pub rounds_more : (h w v next : List ℕ) (t constant word after : ℕ) → v ≡ rounds h w t → next ≡ round v constant word
    → constant ≡ slice_index round_constants t → word ≡ slice_index w t → t + 1 ≡ after → next ≡ rounds h w after
rounds_more h w v next t constant word after ev en ek ew et =
    rw (← et, rounds_next h w t, ← ev, ← ek, ← ew) en

-- a row is put anew
pub rows_set : (w : List (List ℕ)) (t n : ℕ) (row : List ℕ) → t < length w → length row ≡ n → HasRows w n → HasRows (slice_set w t row) n
rows_set w t n row fits long held i low = elim (eqb_tells i t) [
  | inl same ↦ rw (same.1) (ap length (get_or-set_same w t row [] fits) ∙ long)
  | inr apart ↦ ap length (get_or-set_other w t i row [] (apart.1)) ∙ held i low
]
