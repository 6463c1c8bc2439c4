use Rattle.std.proofs.Common.{◌≡◌, ◌+◌, ◌∷◌, [], arith, ap, ◌∙◌}
use Rattle.ferry_aes.specs.Cipher.{piece}
use Rattle.ferry_aes.specs.Planes.{block_at}
use Rattle.ferry_aes.proofs.BitLemmas.{below_8}
use Rattle.ferry_aes.proofs.CounterModeLemmas.{length-piece, piece-bytes, block_at-piece}
use Rattle.ferry_aes.proofs.joining.eight_rows.Goals as goal

pub returns : goal.returns
returns c i block =
    let rows = c.block_rows.result ∷ c.block_rows-2.result ∷ c.block_rows-3.result ∷ c.block_rows-4.result ∷ c.block_rows-5.result
    ∷ c.block_rows-6.result ∷ c.block_rows-7.result ∷ c.block_rows-8.result ∷ [] in
    let bytes = c.args.bytes.now in
    let n = c.args.first in
    let zero_more : n ≡ n + 0 = omega arith in
    below_8 (λ i. block_at rows i ≡ piece bytes (n + i))
    (block_at-piece rows 0 (piece bytes n) (length-piece bytes n c.told-bytes (omega (arith, c.requires))) (piece-bytes bytes n c.fits-bytes)
    c.block_rows.ensures ∙ ap (piece bytes) zero_more)
    (block_at-piece rows 1 (piece bytes (n + 1)) (length-piece bytes (n + 1) c.told-bytes (omega (arith, c.requires)))
    (piece-bytes bytes (n + 1) c.fits-bytes) c.block_rows-2.ensures)
    (block_at-piece rows 2 (piece bytes (n + 2)) (length-piece bytes (n + 2) c.told-bytes (omega (arith, c.requires)))
    (piece-bytes bytes (n + 2) c.fits-bytes) c.block_rows-3.ensures)
    (block_at-piece rows 3 (piece bytes (n + 3)) (length-piece bytes (n + 3) c.told-bytes (omega (arith, c.requires)))
    (piece-bytes bytes (n + 3) c.fits-bytes) c.block_rows-4.ensures)
    (block_at-piece rows 4 (piece bytes (n + 4)) (length-piece bytes (n + 4) c.told-bytes (omega (arith, c.requires)))
    (piece-bytes bytes (n + 4) c.fits-bytes) c.block_rows-5.ensures)
    (block_at-piece rows 5 (piece bytes (n + 5)) (length-piece bytes (n + 5) c.told-bytes (omega (arith, c.requires)))
    (piece-bytes bytes (n + 5) c.fits-bytes) c.block_rows-6.ensures)
    (block_at-piece rows 6 (piece bytes (n + 6)) (length-piece bytes (n + 6) c.told-bytes (omega (arith, c.requires)))
    (piece-bytes bytes (n + 6) c.fits-bytes) c.block_rows-7.ensures)
    (block_at-piece rows 7 (piece bytes (n + 7)) (length-piece bytes (n + 7) c.told-bytes (omega (arith, c.requires)))
    (piece-bytes bytes (n + 7) c.fits-bytes) c.block_rows-8.ensures)
    i block
