use Rattle.std.proofs.Common.{refl}
use Rattle.ferry_tree.proofs.ContentLemmas.{block_kind}
use Rattle.ferry_tree.proofs.making.has_zeros.Goals as goal

pub returns : goal.returns
returns c =
    block_kind c.args.block.now c.zero_prefix.result _ c.requires.some c.requires.fits c.zero_prefix.ensures.count c.zero_prefix.ensures.zeros refl
