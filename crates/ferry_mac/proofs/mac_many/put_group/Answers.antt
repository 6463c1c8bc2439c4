use Rattle.std.proofs.Common.{◌≡◌, ◌≢◌, ◌+◌, ◌<◌, [], length, slice_index_or, sym, subst, ◌∙◌, arith, inl, inr}
use Rattle.std.proofs.lemmas.Bool.Decides.{eqb_tells}
use Rattle.sha2.specs.Sha256.{digest_bytes}
use Rattle.ferry_mac.specs.Lanes.{lane}
use Rattle.ferry_mac.proofs.mac_many.put_group.Goals as goal

pub loop-l-preserved : goal.loop-l-preserved
loop-l-preserved g c =
    let at = c.args.at in
    let now = c.put_digest.new.digests in
    record {
      size = c.put_digest.ensures.size ∙ c.loop-l.invariant.size;
      put = λ j low room. elim (eqb_tells j c.loop-l.l) [
        | inl same ↦ subst (λ j. at + j < length c.args.digests.now → slice_index_or now (at + j) [] ≡ digest_bytes (lane c.args.state.now j) 8) (sym (same.1))
            (λ inside. c.put_digest.ensures.put (omega (arith, inside, c.loop-l.invariant.size))) room
        | inr apart ↦
            let ne : at + j ≢ at + c.loop-l.l = omega (arith, apart.1) in
            c.put_digest.ensures.others (at + j) ne ∙ c.loop-l.invariant.put j (omega (arith, low, apart.1)) room
      ];
      others = λ k out. elim out [
        | inl before ↦
            let ne : k ≢ at + c.loop-l.l = omega arith in
            c.put_digest.ensures.others k ne ∙ c.loop-l.invariant.others k (inl before)
        | inr behind ↦
            let ne : k ≢ at + c.loop-l.l = omega arith in
            c.put_digest.ensures.others k ne ∙ c.loop-l.invariant.others k (inr (omega arith))
      ];
    }
