use Rattle.ferry_nonce.proofs.MomentLemmas.{begins_at_rest, settles_at_rest, file_left, fits_left}
use Rattle.ferry_nonce.proofs.laws.rest_laws.Goals as goal

pub returns : goal.returns
returns c = record { begun = begins_at_rest; settled = settles_at_rest; left = file_left; fits = fits_left }
