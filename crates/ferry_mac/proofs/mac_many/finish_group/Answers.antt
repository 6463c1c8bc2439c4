use Rattle.std.proofs.Common.{◌≡◌, ℕ, ◌<◌, ◌+◌, ◌-◌, [], length, slice_index_or, sym, ap, ◌∙◌, arith}
use Rattle.sha2.specs.Sha256.{digest_bytes}
use Rattle.ferry_mac.specs.Lanes.{hashed_behind, lane}
use Rattle.ferry_mac.proofs.LaneLemmas.{below_8}
use Rattle.ferry_mac.proofs.mac_many.finish_group.Goals as goal

pub returns-clause-digests : goal.returns-clause-digests
returns-clause-digests g c h first k from_at below low =
    let outer = c.args.outer.now in
    let macs = c.args.macs.now in
    let taken = c.digests_from.result in
    let last = c.hashed-last.result in
    let hash : (l : ℕ) → l < 8 → l < g.row.N → lane last l ≡ hashed_behind (lane outer l) (slice_index_or taken l []) =
    below_8 (λ l. l < g.row.N → lane last l ≡ hashed_behind (lane outer l) (slice_index_or taken l []))
    (c.hashed-last.ensures 0) (c.hashed-last.ensures 1) (c.hashed-last.ensures 2) (c.hashed-last.ensures 3)
    (c.hashed-last.ensures 4) (c.hashed-last.ensures 5) (c.hashed-last.ensures 6) (c.hashed-last.ensures 7) in
    let l = k - c.args.at in
    let inside : l < g.row.N = omega arith in
    let here : c.args.at + l ≡ k = omega arith in
    let room : c.args.at + l < length macs = omega arith in
    ap (λ k. slice_index_or c.put_group.new.digests k []) (sym here) ∙ c.put_group.ensures.put l inside room
    ∙ ap (λ s. digest_bytes s 8) (hash l (omega (arith, c.requires.width)) inside
    ∙ ap (λ s. hashed_behind s (slice_index_or taken l [])) (first l inside)
    ∙ ap (hashed_behind h) (c.digests_from.ensures l (omega (arith, c.requires.width)) room ∙ ap (λ k. slice_index_or macs k []) here))
