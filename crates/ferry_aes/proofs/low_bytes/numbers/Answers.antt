use Rattle.std.proofs.Common.{◌≡◌, ◌+◌, ◌*◌, ◌%◌, ◌∷◌, [], arith, ◌∙◌}
use Rattle.std.specs.Prelude.{slice_index, slice_index_or}
use Rattle.ferry_aes.proofs.BitLemmas.{below_8}
use Rattle.ferry_aes.proofs.low_bytes.numbers.Goals as goal

pub returns : goal.returns
returns c j i lane block =
    let rows = c.eighths.result ∷ c.eighths-2.result ∷ c.eighths-3.result ∷ c.eighths-4.result ∷ c.eighths-5.result ∷ c.eighths-6.result
    ∷ c.eighths-7.result ∷ c.eighths-8.result ∷ [] in
    let n = c.args.first in
    below_8 (λ i. slice_index (slice_index_or rows i []) j ≡ (n + 8 * j + i) % 256)
    (c.eighths.ensures j lane ∙ omega arith) (c.eighths-2.ensures j lane ∙ omega arith)
    (c.eighths-3.ensures j lane ∙ omega arith) (c.eighths-4.ensures j lane ∙ omega arith)
    (c.eighths-5.ensures j lane ∙ omega arith) (c.eighths-6.ensures j lane ∙ omega arith)
    (c.eighths-7.ensures j lane ∙ omega arith) (c.eighths-8.ensures j lane ∙ omega arith) i block
