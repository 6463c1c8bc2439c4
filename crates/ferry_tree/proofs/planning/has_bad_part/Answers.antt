use Rattle.std.proofs.Common.{◌<◌, ◌+◌, ◌||◌, ℕ, Bool, length, drop, ap, sym, ◌∙◌, subst, arith}
use Rattle.std.specs.List.{list_any, slice_split}
use Rattle.ferry_tree.specs.Planning.{is_slash, is_bad_part}
use Rattle.ferry_tree.proofs.PathLemmas.{slash_is, plain_is, PartsLeft, parts_begin, bad_here, parts_next, parts_on, bad_last}
use Rattle.ferry_tree.proofs.planning.has_bad_part.Goals.{then-path-place-eq47+else-is_bad_part, else-path-place-eq47}
use Rattle.ferry_tree.proofs.planning.has_bad_part.Goals as goal

pub loop-place-init : goal.loop-place-init
loop-place-init c = record { parts = parts_begin c.args.path.now }

pub returns-then-is_bad_part : goal.returns-then-is_bad_part
returns-then-is_bad_part c =
    let path = c.args.path.now in
    let place = c.loop-place.place in
    let lt : place < length path = omega arith in
    sym (bad_here path c.loop-place.from place _ c.loop-place.invariant.parts lt (slash_is _ c.if-path-place-eq47.true)
    ∙ ap (λ (b : Bool). b || list_any is_bad_part (slice_split is_slash (drop (place + 1) path))) (sym c.is_bad_part.ensures ∙ c.if-is_bad_part.true))

pub loop-place-preserved : goal.loop-place-preserved
loop-place-preserved c =
    let path = c.args.path.now in
    let from = c.loop-place.from in
    let place = c.loop-place.place in
    let lt : place < length path = omega arith in
    let parts = c.loop-place.invariant.parts in
    elim c.if-path-place-eq47.branch [
      | then-path-place-eq47+else-is_bad_part w ↦
          record {
            parts = subst (λ (f : ℕ). PartsLeft path f (place + 1)) (sym w.from-is)
                (parts_next path from place _ parts lt (slash_is _ w.if-path-place-eq47.true) (sym w.is_bad_part.ensures ∙ w.if-is_bad_part.false));
          }
      | else-path-place-eq47 w ↦
          record {
            parts = subst (λ (f : ℕ). PartsLeft path f (place + 1)) (sym w.from-is)
                (parts_on path from place _ parts lt (plain_is _ w.if-path-place-eq47.false));
          }
    ]

pub returns : goal.returns
returns c =
    c.is_bad_part-2.ensures ∙ bad_last c.args.path.now c.loop-place.from c.loop-place.place c.loop-place.invariant.parts (omega arith)
