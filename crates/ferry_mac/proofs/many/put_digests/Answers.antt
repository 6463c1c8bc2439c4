use Rattle.std.proofs.Common.{ℕ, [], ◌≡◌, ◌⊎◌, ◌<◌, subst, slice_index, slice_index_or, refl, ◌∙◌, arith, inl, inr}
use Rattle.ferry_mac.specs.Lanes.{nth_text}
use Rattle.ferry_mac.specs.Many.{digest_behind}
use Rattle.ferry_mac.proofs.ManyLemmas.{put_more}
use Rattle.ferry_mac.proofs.many.put_digests.Goals as goal

pub loop-l-init : goal.loop-l-init
loop-l-init g c = record {
  size = refl;
  digests = λ h texts hashed k low before. elim before [
    | inl digest ↦ digest
    | inr held ↦ absurd (omega (arith, held.1))
  ];
}

pub loop-l-preserved : goal.loop-l-preserved
loop-l-preserved g c = record {
  size = c.put_digest.ensures.size ∙ c.loop-l.invariant.size;
  digests = λ h texts hashed k low before.
      put_more g.row.N h texts c.args.places.now c.args.digests.now c.loop-l.digests c.put_digest.new.digests c.args.state.now c.loop-l.l k
      c.loop-l-test.true low c.loop-l.invariant.size hashed c.put_digest.ensures.put c.put_digest.ensures.others
      (c.loop-l.invariant.digests h texts hashed k low) before;
}

pub returns-clause-digests : goal.returns-clause-digests
returns-clause-digests g c h texts hashed k low before =
    let all : g.row.N ≡ c.loop-l.l = omega arith in
    c.loop-l.invariant.digests h texts hashed k low
    (subst (λ n. (slice_index_or c.args.digests.now k [] ≡ digest_behind h (nth_text texts k))
    ⊎ ((j : ℕ) × (j < n) × (slice_index c.args.places.now j ≡ k))) all before)
