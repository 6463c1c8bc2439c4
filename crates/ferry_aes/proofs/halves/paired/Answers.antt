use Rattle.std.proofs.Common.{◌+◌, ◌*◌, ◌∙◌}
use Rattle.ferry_aes.proofs.ByteLemmas.{byte_at-moved}
use Rattle.ferry_aes.proofs.HalvesLemmas.{byte_at-half, byte_at-low_half}
use Rattle.ferry_aes.proofs.halves.paired.Goals as goal

pub returns-clause-first : goal.returns-clause-first
returns-clause-first c j i lane =
    byte_at-low_half _ j i _ lane (byte_at-moved c.args.low.now _ _ _ _ _ _ _ _ j j i
    (c.paired_plane.ensures.first j lane) (c.paired_plane-2.ensures.first j lane) (c.paired_plane-3.ensures.first j lane)
    (c.paired_plane-4.ensures.first j lane) (c.paired_plane-5.ensures.first j lane) (c.paired_plane-6.ensures.first j lane)
    (c.paired_plane-7.ensures.first j lane) (c.paired_plane-8.ensures.first j lane))

pub returns-clause-second : goal.returns-clause-second
returns-clause-second c j i lane =
    byte_at-half 1 _ j i lane ∙ byte_at-moved c.args.high.now _ _ _ _ _ _ _ _ (16 * 1 + j) j i
    (c.paired_plane.ensures.second j lane) (c.paired_plane-2.ensures.second j lane) (c.paired_plane-3.ensures.second j lane)
    (c.paired_plane-4.ensures.second j lane) (c.paired_plane-5.ensures.second j lane) (c.paired_plane-6.ensures.second j lane)
    (c.paired_plane-7.ensures.second j lane) (c.paired_plane-8.ensures.second j lane)
