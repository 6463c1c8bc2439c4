use Rattle.std.proofs.Common.{◌≡◌, ◌+◌, ◌*◌, ◌<◌, ℕ, ap, ◌∙◌, arith}
use Rattle.std.specs.Prelude.{slice_index}
use Rattle.ferry_aes.specs.State.{word}
use Rattle.ferry_aes.specs.Planes.{byte_at}
use Rattle.ferry_aes.proofs.BitLemmas.{below_4}
use Rattle.ferry_aes.proofs.eight.round_key.Goals as goal

pub returns : goal.returns
returns c r q i row column block =
    let w = c.args.words.now in
    let n = c.args.number in
    let zero_more : 4 * n ≡ 4 * n + 0 = omega arith in
    let made : ℕ → ℕ → ℕ = λ r q. byte_at c.repeated.result (4 * r + q) i in
    let all : (r : ℕ) → r < 4 → (q : ℕ) → q < 4 → byte_at c.repeated.result (4 * r + q) i ≡ slice_index (word w (4 * n + q)) r =
    below_4 (λ r. (q : ℕ) → q < 4 → byte_at c.repeated.result (4 * r + q) i ≡ slice_index (word w (4 * n + q)) r)
    (below_4 (λ q. byte_at c.repeated.result (4 * 0 + q) i ≡ slice_index (word w (4 * n + q)) 0)
    (c.repeated.ensures 0 i (omega arith) block ∙ ap (λ k. slice_index (word w k) 0) zero_more)
    (c.repeated.ensures 1 i (omega arith) block) (c.repeated.ensures 2 i (omega arith) block) (c.repeated.ensures 3 i (omega arith) block))
    (below_4 (λ q. byte_at c.repeated.result (4 * 1 + q) i ≡ slice_index (word w (4 * n + q)) 1)
    (c.repeated.ensures 4 i (omega arith) block ∙ ap (λ k. slice_index (word w k) 1) zero_more)
    (c.repeated.ensures 5 i (omega arith) block) (c.repeated.ensures 6 i (omega arith) block) (c.repeated.ensures 7 i (omega arith) block))
    (below_4 (λ q. byte_at c.repeated.result (4 * 2 + q) i ≡ slice_index (word w (4 * n + q)) 2)
    (c.repeated.ensures 8 i (omega arith) block ∙ ap (λ k. slice_index (word w k) 2) zero_more)
    (c.repeated.ensures 9 i (omega arith) block) (c.repeated.ensures 10 i (omega arith) block) (c.repeated.ensures 11 i (omega arith) block))
    (below_4 (λ q. byte_at c.repeated.result (4 * 3 + q) i ≡ slice_index (word w (4 * n + q)) 3)
    (c.repeated.ensures 12 i (omega arith) block ∙ ap (λ k. slice_index (word w k) 3) zero_more)
    (c.repeated.ensures 13 i (omega arith) block) (c.repeated.ensures 14 i (omega arith) block) (c.repeated.ensures 15 i (omega arith) block)) in
    all r row q column
