use Rattle.std.proofs.Common.{◌≡◌, ◌+◌, ◌*◌, ◌%◌, ◌∷◌, [], arith}
use Rattle.std.specs.Prelude.{slice_index}
use Rattle.ferry_aes.proofs.BitLemmas.{below_16}
use Rattle.ferry_aes.proofs.low_bytes.eighths.Goals as goal

pub returns : goal.returns
returns c j lane =
    let n = c.args.first in
    let made = (n + 0) % 256 ∷ (n + 8) % 256 ∷ (n + 16) % 256 ∷ (n + 24) % 256 ∷ (n + 32) % 256 ∷ (n + 40) % 256 ∷ (n + 48) % 256
    ∷ (n + 56) % 256 ∷ (n + 64) % 256 ∷ (n + 72) % 256 ∷ (n + 80) % 256 ∷ (n + 88) % 256 ∷ (n + 96) % 256 ∷ (n + 104) % 256
    ∷ (n + 112) % 256 ∷ (n + 120) % 256 ∷ [] in
    below_16 (λ j. slice_index made j ≡ (n + 8 * j) % 256)
    (omega arith) (omega arith) (omega arith) (omega arith) (omega arith) (omega arith) (omega arith) (omega arith)
    (omega arith) (omega arith) (omega arith) (omega arith) (omega arith) (omega arith) (omega arith) (omega arith)
    j lane
