use Rattle.std.proofs.Common.{refl, arith}
use Rattle.ferry_mac.proofs.compression.put_words.Goals as goal

pub loop-place-init : goal.loop-place-init
loop-place-init g c = record {
  size = c.told-w;
  row = c.requires.rows;
  words = λ i low. absurd (omega arith);
  others = λ j i ne. refl;
}
