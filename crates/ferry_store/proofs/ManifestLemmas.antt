-- The first manifest can be packed.
use Rattle.std.proofs.Common.{List, ℕ, refl, arith}
use Rattle.ferry_fields.specs.Others.{has_among}
use Rattle.ferry_manifest.specs.Manifest.Writing.{IsPackable}
use Rattle.ferry_store.specs.New.{first_manifest}

pub packable : (timestamp : List ℕ) → IsPackable (first_manifest timestamp)
unfolding has_among
packable timestamp = record {
  archives = tt;
  item_keys = tt;
  config = refl;
  config_writable = record { depth_fits = omega arith; fits = (omega arith, tt, tt) };
  config_depth = omega arith;
  more = refl;
  more_writable = record { depth_fits = omega arith; fits = (omega arith, tt, tt) };
  apart = refl;
}
