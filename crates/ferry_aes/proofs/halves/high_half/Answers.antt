use Rattle.std.proofs.Common.{refl}
use Rattle.ferry_aes.specs.Planes.{half}
use Rattle.ferry_aes.proofs.halves.high_half.Goals as goal

pub returns : goal.returns
unfolding half
returns c =
    rw (
      c.high_plane.ensures,
      c.high_plane-2.ensures,
      c.high_plane-3.ensures,
      c.high_plane-4.ensures,
      c.high_plane-5.ensures,
      c.high_plane-6.ensures,
      c.high_plane-7.ensures,
      c.high_plane-8.ensures,
    ) refl
