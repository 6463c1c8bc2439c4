use Rattle.ferry_aes.proofs.ByteLemmas.{byte_at-moved}
use Rattle.ferry_aes.proofs.planes.turned.Goals as goal

pub returns : goal.returns
returns c j i lane =
    byte_at-moved c.args.p.now _ _ _ _ _ _ _ _ j _ i
    (c.turned_plane.ensures j lane) (c.turned_plane-2.ensures j lane) (c.turned_plane-3.ensures j lane) (c.turned_plane-4.ensures j lane)
    (c.turned_plane-5.ensures j lane) (c.turned_plane-6.ensures j lane) (c.turned_plane-7.ensures j lane) (c.turned_plane-8.ensures j lane)
