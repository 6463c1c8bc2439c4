use Rattle.std.proofs.Common.{◌≡◌, ◌+◌, [], slice_index, length, replicate, refl, ap, ◌∙◌, arith}
use Rattle.std.proofs.lemmas.List.{get_or-replicate, length-replicate}
use Rattle.sha2.specs.Sha256.{hash_after}
use Rattle.ferry_mac.specs.Lanes.{behind_key, lane}
use Rattle.ferry_mac.specs.Many.{text_of}
use Rattle.ferry_mac.proofs.ManyLemmas.{hashed_next}
use Rattle.ferry_mac.proofs.many.run.Goals as goal

pub loop-n-init : goal.loop-n-init
loop-n-init g c = record {
  rows = λ i low. ap length (get_or-replicate 64 i (replicate g.row.N 0) [] low) ∙ length-replicate g.row.N 0;
  hash = λ start k inside held.
      let lanes = c.args.lanes.now in
      let none : slice_index lanes.done k ≡ slice_index lanes.done k + 0 = omega arith in
      held ∙ ap (hash_after start (behind_key (text_of c.args.texts.now lanes k))) none;
}

pub loop-n-preserved : goal.loop-n-preserved
loop-n-preserved g c =
    let texts = c.args.texts.now in
    let lanes = c.args.lanes.now in
    let n = c.loop-n.n in
    record {
      rows = c.compressed-next.ensures.rows;
      hash = λ start k inside held.
          hashed_next start (text_of texts lanes k) (lane c.loop-n.state k) (lane c.compressed-next.result k) _
          (slice_index lanes.done k) n (c.loop-n.invariant.hash start k inside held)
          (c.compressed-next.ensures.hash k _ inside (c.put_blocks.ensures.words k inside (omega (arith, c.requires.left k inside)))) refl;
    }
