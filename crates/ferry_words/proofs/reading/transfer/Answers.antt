use Rattle.std.proofs.Common.{map, string_bytes}
use Rattle.ferry_words.proofs.OperandLemmas.{transfer_meant}
use Rattle.ferry_words.proofs.reading.transfer.Goals as goal

pub returns : goal.returns
returns c = record {
  answer =
      transfer_meant (map string_bytes c.args.behind.now) _ _ _ _ _ c.in_ok-parts.ensures.parts c.block_of.ensures.block
      c.checkpoint_of.ensures.checkpoint c.in_ok-timestamp.ensures.timestamp c.in_ok-names.ensures.names;
}
