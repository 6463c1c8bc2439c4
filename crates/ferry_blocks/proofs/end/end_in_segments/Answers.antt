use Rattle.std.proofs.Common.{◌≡◌, ◌+◌, ◌∙◌, length, subst, sym, arith}
use Rattle.ferry_blocks.specs.Blocks.{IsEndOf}
use Rattle.ferry_blocks.specs.Passes.{IsCountedBelow}
use Rattle.ferry_blocks.proofs.SegmentLemmas.{tells_on, below_more}
use Rattle.ferry_blocks.proofs.end.end_in_segments.Goals as goal

pub loop-number-preserved : goal.loop-number-preserved
loop-number-preserved g c =
    let old = c.loop-number.invariant in
    let numbers = c.args.numbers.now in
    let i = c.loop-number.number-index in
    record {
      ended = λ files tells.
          let tells_now = tells_on (g.S.Shelf.told c.args.shelf.now) (g.S.Shelf.told c.loop-number.shelf) files old.same tells in
          subst (λ n. IsEndOf (IsCountedBelow files numbers (i + 1)) n) (sym c.greater-end.ensures)
          (below_more files numbers i c.loop-number.end c.in_ok-own.own (old.ended files tells) (c.in_ok-own.ensures.end files tells_now));
      same = c.in_ok-own.ensures.same ∙ old.same;
      faults = c.in_ok-own.ensures.cause ∙ old.faults;
    }

pub returns-clause-end : goal.returns-clause-end
returns-clause-end g c files tells =
    let numbers = c.args.numbers.now in
    let all : c.loop-number.number-index ≡ length numbers = omega arith in
    subst (λ n. IsEndOf (IsCountedBelow files numbers n) c.loop-number.end) all (c.loop-number.invariant.ended files tells)
