use Rattle.std.proofs.Common.{◌≡◌, ℕ, suc, ◌∷◌, ◌++◌, [], List, length, take, slice_get, Some, None, sym, ap, ◌∙◌, arith}
use Rattle.std.proofs.lemmas.List.{length_push}
use Rattle.ferry_compact.proofs.ListLemmas.{take_ended, take_one}
use Rattle.ferry_log.specs.declared.place.Extent.{Extent}
use Rattle.ferry_compact.proofs.choice.extents_of.Goals as goal

pub loop-extent-preserved : goal.loop-extent-preserved
loop-extent-preserved c =
    let old = c.loop-extent.invariant in
    let extents = c.args.log.now.extents in
    let taken = c.loop-extent.extents.items in
    let counted : c.len.result ≡ length taken = omega (arith, c.len.ensures, c.loop-extent.extents.ok.0) in
    let e : slice_get extents (length taken) ≡ Some c.in-Some.extent =
    ap (slice_get extents) (sym counted) ∙ (sym c.extent.ensures ∙ c.in-Some.is) in
    let one = take_one extents (length taken) c.in-Some.extent e in
    let pushed = c.in_ok-push.ensures.items in
    let longer : length c.push.new.self.items ≡ suc (length taken) = omega (arith, ap length pushed, length_push taken c.in-Some.extent) in
    record {
      within = omega (arith, longer, one.0);
      taken = pushed
          ∙ (ap (λ (l : List Extent). l ++ c.in-Some.extent ∷ []) old.taken ∙ (sym one.1 ∙ ap (λ (n : ℕ). take n extents) (sym longer)));
    }

pub returns-clause-extents : goal.returns-clause-extents
returns-clause-extents c =
    let old = c.loop-extent.invariant in
    let extents = c.args.log.now.extents in
    let taken = c.loop-extent.extents.items in
    let counted : c.len.result ≡ length taken = omega (arith, c.len.ensures, c.loop-extent.extents.ok.0) in
    let e : slice_get extents (length taken) ≡ None = ap (slice_get extents) (sym counted) ∙ (sym c.extent.ensures ∙ c.in_default.is) in
    old.taken ∙ take_ended extents (length taken) e
