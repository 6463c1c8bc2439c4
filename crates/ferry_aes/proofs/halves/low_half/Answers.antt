use Rattle.std.proofs.Common.{refl}
use Rattle.ferry_aes.specs.Planes.{half}
use Rattle.ferry_aes.proofs.halves.low_half.Goals as goal

pub returns : goal.returns
unfolding half
returns c =
    rw (
      c.low_plane.ensures,
      c.low_plane-2.ensures,
      c.low_plane-3.ensures,
      c.low_plane-4.ensures,
      c.low_plane-5.ensures,
      c.low_plane-6.ensures,
      c.low_plane-7.ensures,
      c.low_plane-8.ensures,
    ) refl
