use Rattle.std.proofs.Common.{[], refl}
use Rattle.ferry_disk.proofs.ImageLemmas.{some_image, read_is_image, unsettled_image}
use Rattle.ferry_disk.proofs.ImageStepLemmas.{settle_step}
use Rattle.ferry_disk.proofs.laws.image_laws.Goals as goal

pub returns : goal.returns
returns c = record {
  some = some_image;
  start = unsettled_image;
  read = read_is_image;
  begun = λ image next. unsettled_image image [] next refl;
  settled = λ image next. settle_step image [] next;
}
