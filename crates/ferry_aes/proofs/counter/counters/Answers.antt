use Rattle.std.proofs.Common.{◌≡◌, ◌+◌, ◌∷◌, [], arith, ap, ◌∙◌, refl}
use Rattle.ferry_aes.specs.CounterMode.{counter_block}
use Rattle.ferry_aes.specs.Planes.{block_at}
use Rattle.ferry_aes.proofs.BitLemmas.{below_8}
use Rattle.ferry_aes.proofs.CounterModeLemmas.{block_at-counter, counter_block-wrapped_sum}
use Rattle.ferry_aes.proofs.counter.counters.Goals as goal

pub returns : goal.returns
returns c i block =
    let rows = c.counter_rows.result ∷ c.counter_rows-2.result ∷ c.counter_rows-3.result ∷ c.counter_rows-4.result ∷ c.counter_rows-5.result
    ∷ c.counter_rows-6.result ∷ c.counter_rows-7.result ∷ c.counter_rows-8.result ∷ [] in
    let n = c.args.first in
    let zero_more : n ≡ n + 0 = omega arith in
    below_8 (λ i. block_at rows i ≡ counter_block (n + i))
    (block_at-counter n rows 0 c.counter_rows.ensures ∙ ap counter_block zero_more)
    (block_at-counter _ rows 1 c.counter_rows-2.ensures ∙ counter_block-wrapped_sum n 1 _ refl)
    (block_at-counter _ rows 2 c.counter_rows-3.ensures ∙ counter_block-wrapped_sum n 2 _ refl)
    (block_at-counter _ rows 3 c.counter_rows-4.ensures ∙ counter_block-wrapped_sum n 3 _ refl)
    (block_at-counter _ rows 4 c.counter_rows-5.ensures ∙ counter_block-wrapped_sum n 4 _ refl)
    (block_at-counter _ rows 5 c.counter_rows-6.ensures ∙ counter_block-wrapped_sum n 5 _ refl)
    (block_at-counter _ rows 6 c.counter_rows-7.ensures ∙ counter_block-wrapped_sum n 6 _ refl)
    (block_at-counter _ rows 7 c.counter_rows-8.ensures ∙ counter_block-wrapped_sum n 7 _ refl)
    i block
