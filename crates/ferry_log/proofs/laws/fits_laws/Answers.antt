use Rattle.ferry_log.proofs.FitsLemmas.{opened_fits, place_of_blob, no_place, place_holds, fits_replaced, fits_appended, fits_removed, fits_learnt}
use Rattle.ferry_log.proofs.laws.fits_laws.Goals as goal

pub returns : goal.returns
returns c =
    record {
      opened = opened_fits;
      places = place_of_blob;
      no_place = no_place;
      lies = place_holds;
      replaced = fits_replaced;
      appended = fits_appended;
      removed = fits_removed;
      learnt = fits_learnt;
    }
