use Rattle.std.proofs.Common.{◌≡◌, ◌<◌, ◌+◌, ◌*◌, take, drop, slice_index, sym, subst, arith, inl, inr}
use Rattle.std.proofs.lemmas.Bool.Decides.{eqb_tells}
use Rattle.ferry_mac.specs.Lanes.{HasWords, behind_key}
use Rattle.ferry_mac.specs.Many.{text_of}
use Rattle.ferry_mac.proofs.ManyLemmas.{read_block}
use Rattle.ferry_mac.proofs.many.put_blocks.Goals as goal

pub loop-l-preserved : goal.loop-l-preserved
loop-l-preserved g c =
    let texts = c.args.texts.now in
    let lanes = c.args.lanes.now in
    let n = c.args.n in
    let l = c.loop-l.l in
    record {
      rows = c.put_words.ensures.rows;
      words = λ j low left. elim (eqb_tells j l) [
        | inl same ↦
            let is : l ≡ j = sym (same.1) in
            let inside : n < slice_index lanes.lefts l = rw (same.1) at left in
            let read : c.block_at.result.now ≡ take 64 (drop ((slice_index lanes.done l + n) * 64) (behind_key (text_of texts lanes l))) =
            read_block _ _ _ _ c.text_at-text.ensures c.block_at.ensures.block
            (omega (arith, inside, (c.requires.lanes l c.loop-l-test.true).count)) in
            subst (λ j. HasWords c.put_words.new.w j (take 64 (drop ((slice_index lanes.done j + n) * 64) (behind_key (text_of texts lanes j))))) is
            (subst (λ block. HasWords c.put_words.new.w l block) read c.put_words.ensures.words)
        | inr apart ↦ c.put_words.ensures.others j _ (apart.1) (c.loop-l.invariant.words j (omega (arith, low, apart.1)) left)
      ];
    }
