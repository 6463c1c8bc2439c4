use Rattle.ferry_aes.proofs.ByteLemmas.{byte_at-moved}
use Rattle.ferry_aes.proofs.planes.lower.Goals as goal

pub returns : goal.returns
returns c j i lane =
    byte_at-moved c.args.p.now _ _ _ _ _ _ _ _ j _ i
    (c.lower_plane.ensures j lane) (c.lower_plane-2.ensures j lane) (c.lower_plane-3.ensures j lane) (c.lower_plane-4.ensures j lane)
    (c.lower_plane-5.ensures j lane) (c.lower_plane-6.ensures j lane) (c.lower_plane-7.ensures j lane) (c.lower_plane-8.ensures j lane)
