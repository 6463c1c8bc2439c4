use Rattle.std.proofs.Common.{◌≡◌, ◌∙◌, ◌∷◌, [], ℕ, ◌<◌, arith}
use Rattle.std.specs.Prelude.{slice_index_or}
use Rattle.ferry_aes.specs.Planes.{wire}
use Rattle.ferry_aes.proofs.BitLemmas.{below_8}
use Rattle.ferry_aes.proofs.wide_transposition.transposed.Goals as goal

pub returns : goal.returns
returns c k i j plane block lane =
    let made = c.low-r0.result ∷ c.high-r1.result ∷ c.low-r2.result ∷ c.high-r3.result ∷ c.low-r4.result ∷ c.high-r5.result
    ∷ c.low-r6.result ∷ c.high-r7.result ∷ [] in
    let x = c.args.x.now in
    let row0 : (i : ℕ) → i < 8 → wire (slice_index_or made 0 []) j i ≡ wire (slice_index_or x i []) j 0 =
    below_8 (λ i. wire (slice_index_or made 0 []) j i ≡ wire (slice_index_or x i []) j 0)
    (c.low-r0.ensures j 0 lane (omega arith) ∙ c.low-q0.ensures j 0 lane (omega arith) ∙ c.low-p0.ensures j 0 lane (omega arith))
    (c.low-r0.ensures j 1 lane (omega arith) ∙ c.low-q1.ensures j 0 lane (omega arith) ∙ c.low-p1.ensures j 0 lane (omega arith))
    (c.low-r0.ensures j 2 lane (omega arith) ∙ c.low-q0.ensures j 2 lane (omega arith) ∙ c.low-p2.ensures j 0 lane (omega arith))
    (c.low-r0.ensures j 3 lane (omega arith) ∙ c.low-q1.ensures j 2 lane (omega arith) ∙ c.low-p3.ensures j 0 lane (omega arith))
    (c.low-r0.ensures j 4 lane (omega arith) ∙ c.low-q0.ensures j 4 lane (omega arith) ∙ c.low-p0.ensures j 4 lane (omega arith))
    (c.low-r0.ensures j 5 lane (omega arith) ∙ c.low-q1.ensures j 4 lane (omega arith) ∙ c.low-p1.ensures j 4 lane (omega arith))
    (c.low-r0.ensures j 6 lane (omega arith) ∙ c.low-q0.ensures j 6 lane (omega arith) ∙ c.low-p2.ensures j 4 lane (omega arith))
    (c.low-r0.ensures j 7 lane (omega arith) ∙ c.low-q1.ensures j 6 lane (omega arith) ∙ c.low-p3.ensures j 4 lane (omega arith)) in
    let row1 : (i : ℕ) → i < 8 → wire (slice_index_or made 1 []) j i ≡ wire (slice_index_or x i []) j 1 =
    below_8 (λ i. wire (slice_index_or made 1 []) j i ≡ wire (slice_index_or x i []) j 1)
    (c.high-r1.ensures j 0 lane (omega arith) ∙ c.low-q0.ensures j 1 lane (omega arith) ∙ c.low-p0.ensures j 1 lane (omega arith))
    (c.high-r1.ensures j 1 lane (omega arith) ∙ c.low-q1.ensures j 1 lane (omega arith) ∙ c.low-p1.ensures j 1 lane (omega arith))
    (c.high-r1.ensures j 2 lane (omega arith) ∙ c.low-q0.ensures j 3 lane (omega arith) ∙ c.low-p2.ensures j 1 lane (omega arith))
    (c.high-r1.ensures j 3 lane (omega arith) ∙ c.low-q1.ensures j 3 lane (omega arith) ∙ c.low-p3.ensures j 1 lane (omega arith))
    (c.high-r1.ensures j 4 lane (omega arith) ∙ c.low-q0.ensures j 5 lane (omega arith) ∙ c.low-p0.ensures j 5 lane (omega arith))
    (c.high-r1.ensures j 5 lane (omega arith) ∙ c.low-q1.ensures j 5 lane (omega arith) ∙ c.low-p1.ensures j 5 lane (omega arith))
    (c.high-r1.ensures j 6 lane (omega arith) ∙ c.low-q0.ensures j 7 lane (omega arith) ∙ c.low-p2.ensures j 5 lane (omega arith))
    (c.high-r1.ensures j 7 lane (omega arith) ∙ c.low-q1.ensures j 7 lane (omega arith) ∙ c.low-p3.ensures j 5 lane (omega arith)) in
    let row2 : (i : ℕ) → i < 8 → wire (slice_index_or made 2 []) j i ≡ wire (slice_index_or x i []) j 2 =
    below_8 (λ i. wire (slice_index_or made 2 []) j i ≡ wire (slice_index_or x i []) j 2)
    (c.low-r2.ensures j 0 lane (omega arith) ∙ c.high-q2.ensures j 0 lane (omega arith) ∙ c.low-p0.ensures j 2 lane (omega arith))
    (c.low-r2.ensures j 1 lane (omega arith) ∙ c.high-q3.ensures j 0 lane (omega arith) ∙ c.low-p1.ensures j 2 lane (omega arith))
    (c.low-r2.ensures j 2 lane (omega arith) ∙ c.high-q2.ensures j 2 lane (omega arith) ∙ c.low-p2.ensures j 2 lane (omega arith))
    (c.low-r2.ensures j 3 lane (omega arith) ∙ c.high-q3.ensures j 2 lane (omega arith) ∙ c.low-p3.ensures j 2 lane (omega arith))
    (c.low-r2.ensures j 4 lane (omega arith) ∙ c.high-q2.ensures j 4 lane (omega arith) ∙ c.low-p0.ensures j 6 lane (omega arith))
    (c.low-r2.ensures j 5 lane (omega arith) ∙ c.high-q3.ensures j 4 lane (omega arith) ∙ c.low-p1.ensures j 6 lane (omega arith))
    (c.low-r2.ensures j 6 lane (omega arith) ∙ c.high-q2.ensures j 6 lane (omega arith) ∙ c.low-p2.ensures j 6 lane (omega arith))
    (c.low-r2.ensures j 7 lane (omega arith) ∙ c.high-q3.ensures j 6 lane (omega arith) ∙ c.low-p3.ensures j 6 lane (omega arith)) in
    let row3 : (i : ℕ) → i < 8 → wire (slice_index_or made 3 []) j i ≡ wire (slice_index_or x i []) j 3 =
    below_8 (λ i. wire (slice_index_or made 3 []) j i ≡ wire (slice_index_or x i []) j 3)
    (c.high-r3.ensures j 0 lane (omega arith) ∙ c.high-q2.ensures j 1 lane (omega arith) ∙ c.low-p0.ensures j 3 lane (omega arith))
    (c.high-r3.ensures j 1 lane (omega arith) ∙ c.high-q3.ensures j 1 lane (omega arith) ∙ c.low-p1.ensures j 3 lane (omega arith))
    (c.high-r3.ensures j 2 lane (omega arith) ∙ c.high-q2.ensures j 3 lane (omega arith) ∙ c.low-p2.ensures j 3 lane (omega arith))
    (c.high-r3.ensures j 3 lane (omega arith) ∙ c.high-q3.ensures j 3 lane (omega arith) ∙ c.low-p3.ensures j 3 lane (omega arith))
    (c.high-r3.ensures j 4 lane (omega arith) ∙ c.high-q2.ensures j 5 lane (omega arith) ∙ c.low-p0.ensures j 7 lane (omega arith))
    (c.high-r3.ensures j 5 lane (omega arith) ∙ c.high-q3.ensures j 5 lane (omega arith) ∙ c.low-p1.ensures j 7 lane (omega arith))
    (c.high-r3.ensures j 6 lane (omega arith) ∙ c.high-q2.ensures j 7 lane (omega arith) ∙ c.low-p2.ensures j 7 lane (omega arith))
    (c.high-r3.ensures j 7 lane (omega arith) ∙ c.high-q3.ensures j 7 lane (omega arith) ∙ c.low-p3.ensures j 7 lane (omega arith)) in
    let row4 : (i : ℕ) → i < 8 → wire (slice_index_or made 4 []) j i ≡ wire (slice_index_or x i []) j 4 =
    below_8 (λ i. wire (slice_index_or made 4 []) j i ≡ wire (slice_index_or x i []) j 4)
    (c.low-r4.ensures j 0 lane (omega arith) ∙ c.low-q4.ensures j 0 lane (omega arith) ∙ c.high-p4.ensures j 0 lane (omega arith))
    (c.low-r4.ensures j 1 lane (omega arith) ∙ c.low-q5.ensures j 0 lane (omega arith) ∙ c.high-p5.ensures j 0 lane (omega arith))
    (c.low-r4.ensures j 2 lane (omega arith) ∙ c.low-q4.ensures j 2 lane (omega arith) ∙ c.high-p6.ensures j 0 lane (omega arith))
    (c.low-r4.ensures j 3 lane (omega arith) ∙ c.low-q5.ensures j 2 lane (omega arith) ∙ c.high-p7.ensures j 0 lane (omega arith))
    (c.low-r4.ensures j 4 lane (omega arith) ∙ c.low-q4.ensures j 4 lane (omega arith) ∙ c.high-p4.ensures j 4 lane (omega arith))
    (c.low-r4.ensures j 5 lane (omega arith) ∙ c.low-q5.ensures j 4 lane (omega arith) ∙ c.high-p5.ensures j 4 lane (omega arith))
    (c.low-r4.ensures j 6 lane (omega arith) ∙ c.low-q4.ensures j 6 lane (omega arith) ∙ c.high-p6.ensures j 4 lane (omega arith))
    (c.low-r4.ensures j 7 lane (omega arith) ∙ c.low-q5.ensures j 6 lane (omega arith) ∙ c.high-p7.ensures j 4 lane (omega arith)) in
    let row5 : (i : ℕ) → i < 8 → wire (slice_index_or made 5 []) j i ≡ wire (slice_index_or x i []) j 5 =
    below_8 (λ i. wire (slice_index_or made 5 []) j i ≡ wire (slice_index_or x i []) j 5)
    (c.high-r5.ensures j 0 lane (omega arith) ∙ c.low-q4.ensures j 1 lane (omega arith) ∙ c.high-p4.ensures j 1 lane (omega arith))
    (c.high-r5.ensures j 1 lane (omega arith) ∙ c.low-q5.ensures j 1 lane (omega arith) ∙ c.high-p5.ensures j 1 lane (omega arith))
    (c.high-r5.ensures j 2 lane (omega arith) ∙ c.low-q4.ensures j 3 lane (omega arith) ∙ c.high-p6.ensures j 1 lane (omega arith))
    (c.high-r5.ensures j 3 lane (omega arith) ∙ c.low-q5.ensures j 3 lane (omega arith) ∙ c.high-p7.ensures j 1 lane (omega arith))
    (c.high-r5.ensures j 4 lane (omega arith) ∙ c.low-q4.ensures j 5 lane (omega arith) ∙ c.high-p4.ensures j 5 lane (omega arith))
    (c.high-r5.ensures j 5 lane (omega arith) ∙ c.low-q5.ensures j 5 lane (omega arith) ∙ c.high-p5.ensures j 5 lane (omega arith))
    (c.high-r5.ensures j 6 lane (omega arith) ∙ c.low-q4.ensures j 7 lane (omega arith) ∙ c.high-p6.ensures j 5 lane (omega arith))
    (c.high-r5.ensures j 7 lane (omega arith) ∙ c.low-q5.ensures j 7 lane (omega arith) ∙ c.high-p7.ensures j 5 lane (omega arith)) in
    let row6 : (i : ℕ) → i < 8 → wire (slice_index_or made 6 []) j i ≡ wire (slice_index_or x i []) j 6 =
    below_8 (λ i. wire (slice_index_or made 6 []) j i ≡ wire (slice_index_or x i []) j 6)
    (c.low-r6.ensures j 0 lane (omega arith) ∙ c.high-q6.ensures j 0 lane (omega arith) ∙ c.high-p4.ensures j 2 lane (omega arith))
    (c.low-r6.ensures j 1 lane (omega arith) ∙ c.high-q7.ensures j 0 lane (omega arith) ∙ c.high-p5.ensures j 2 lane (omega arith))
    (c.low-r6.ensures j 2 lane (omega arith) ∙ c.high-q6.ensures j 2 lane (omega arith) ∙ c.high-p6.ensures j 2 lane (omega arith))
    (c.low-r6.ensures j 3 lane (omega arith) ∙ c.high-q7.ensures j 2 lane (omega arith) ∙ c.high-p7.ensures j 2 lane (omega arith))
    (c.low-r6.ensures j 4 lane (omega arith) ∙ c.high-q6.ensures j 4 lane (omega arith) ∙ c.high-p4.ensures j 6 lane (omega arith))
    (c.low-r6.ensures j 5 lane (omega arith) ∙ c.high-q7.ensures j 4 lane (omega arith) ∙ c.high-p5.ensures j 6 lane (omega arith))
    (c.low-r6.ensures j 6 lane (omega arith) ∙ c.high-q6.ensures j 6 lane (omega arith) ∙ c.high-p6.ensures j 6 lane (omega arith))
    (c.low-r6.ensures j 7 lane (omega arith) ∙ c.high-q7.ensures j 6 lane (omega arith) ∙ c.high-p7.ensures j 6 lane (omega arith)) in
    let row7 : (i : ℕ) → i < 8 → wire (slice_index_or made 7 []) j i ≡ wire (slice_index_or x i []) j 7 =
    below_8 (λ i. wire (slice_index_or made 7 []) j i ≡ wire (slice_index_or x i []) j 7)
    (c.high-r7.ensures j 0 lane (omega arith) ∙ c.high-q6.ensures j 1 lane (omega arith) ∙ c.high-p4.ensures j 3 lane (omega arith))
    (c.high-r7.ensures j 1 lane (omega arith) ∙ c.high-q7.ensures j 1 lane (omega arith) ∙ c.high-p5.ensures j 3 lane (omega arith))
    (c.high-r7.ensures j 2 lane (omega arith) ∙ c.high-q6.ensures j 3 lane (omega arith) ∙ c.high-p6.ensures j 3 lane (omega arith))
    (c.high-r7.ensures j 3 lane (omega arith) ∙ c.high-q7.ensures j 3 lane (omega arith) ∙ c.high-p7.ensures j 3 lane (omega arith))
    (c.high-r7.ensures j 4 lane (omega arith) ∙ c.high-q6.ensures j 5 lane (omega arith) ∙ c.high-p4.ensures j 7 lane (omega arith))
    (c.high-r7.ensures j 5 lane (omega arith) ∙ c.high-q7.ensures j 5 lane (omega arith) ∙ c.high-p5.ensures j 7 lane (omega arith))
    (c.high-r7.ensures j 6 lane (omega arith) ∙ c.high-q6.ensures j 7 lane (omega arith) ∙ c.high-p6.ensures j 7 lane (omega arith))
    (c.high-r7.ensures j 7 lane (omega arith) ∙ c.high-q7.ensures j 7 lane (omega arith) ∙ c.high-p7.ensures j 7 lane (omega arith)) in
    below_8 (λ k. wire (slice_index_or made k []) j i ≡ wire (slice_index_or x i []) j k) (row0 i block) (row1 i block) (row2 i block)
    (row3 i block) (row4 i block) (row5 i block) (row6 i block) (row7 i block) k plane
