use Rattle.ferry_aes.specs.Planes.{block_at}
use Rattle.ferry_aes.proofs.eight.eight_blocks.Goals as goal

pub returns : goal.returns
returns c w i keys block = c.finished.ensures w (block_at c.args.rows.now i) i keys block (c.first_substituted-subbed.ensures w i keys block)
