use Rattle.ferry_write.specs.Room.{behind}
use Rattle.ferry_stops.proofs.GroundLemmas.{own_shows}
use Rattle.ferry_write.proofs.StandLemmas.{own_keeps}
use Rattle.ferry_write.proofs.LawLemmas.{beside_fits, beside_rows, beside_traced, beside_blobs, settle_fits, settle_rows, fits_now, entry_grows, numbers_rise}
use Rattle.ferry_write.proofs.laws.session_laws.Goals as goal

pub returns : goal.returns
returns c = record {
  stops = λ session committed pending history fits. own_shows (behind session.after) committed history fits.own;
  shows = λ session committed pending history fits. own_keeps (behind session.after) committed history fits.own;
  now = fits_now;
  beside = beside_fits;
  beside_rows = beside_rows;
  beside_traced = beside_traced;
  beside_blobs = beside_blobs;
  settle = settle_fits;
  settle_rows = settle_rows;
  grows = entry_grows;
  rising = numbers_rise;
}
