use Rattle.std.proofs.Common.{◌≡◌, ◌+◌, ◌-◌, ◌≤◌, ◌∙◌, ap, drop, length, min, subst, sym, arith}
use Rattle.std.proofs.lemmas.List.{length-take, length-drop}
use Rattle.ferry_disk.specs.Files.{segment_bytes}
use Rattle.ferry_blocks.specs.Passes.{Passes}
use Rattle.ferry_blocks.proofs.PassLemmas.{none_left, passes_end, passes_more}
use Rattle.ferry_blocks.proofs.SegmentLemmas.{tells_on, part_read, part_self}
use Rattle.ferry_blocks.proofs.end.end_in_segment.Goals as goal

pub returns-then-passed-eq0-clause-end : goal.returns-then-passed-eq0-clause-end
returns-then-passed-eq0-clause-end g c files tells =
    let old = c.loop-at.invariant in
    let bytes = segment_bytes files c.args.segment in
    let at = c.loop-at.at in
    let tells_now = tells_on (g.S.Shelf.told c.args.shelf.now) (g.S.Shelf.told c.loop-at.shelf) files old.same tells in
    let read =
    part_read (g.S.Shelf.told c.loop-at.shelf) files c.args.segment at c.count_of-count.result c.read_part.new.bytes.items c.deref.result.now tells_now
    c.in_ok-read_part.ensures.bytes c.deref.ensures.value in
    let left : length (drop at bytes) ≡ c.in_ok-size.size - at = omega (arith, length-drop at bytes, old.sized files tells) in
    let long : min 82 (c.in_ok-size.size - at) ≤ length c.deref.result.now =
    omega (arith, ap length read, length-take c.count_of-count.result (drop at bytes), left, c.count_of-count.ensures, old.least) in
    passes_end bytes 8 at c.loop-at.end (old.passed files tells)
    (c.pass-passed.ensures.stops bytes at left (part_self c.count_of-count.result c.deref.result.now (drop at bytes) read) long c.if-passed-eq0.true)

pub loop-at-preserved : goal.loop-at-preserved
loop-at-preserved g c =
    let old = c.loop-at.invariant in
    record {
      least = c.next_most-most.ensures.0;
      greatest = c.next_most-most.ensures.1;
      sized = old.sized;
      passed = λ files tells.
          let bytes = segment_bytes files c.args.segment in
          let at = c.loop-at.at in
          let tells_now = tells_on (g.S.Shelf.told c.args.shelf.now) (g.S.Shelf.told c.loop-at.shelf) files old.same tells in
          let read =
          part_read (g.S.Shelf.told c.loop-at.shelf) files c.args.segment at c.count_of-count.result c.read_part.new.bytes.items c.deref.result.now
          tells_now c.in_ok-read_part.ensures.bytes c.deref.ensures.value in
          let left : length (drop at bytes) ≡ c.in_ok-size.size - at = omega (arith, length-drop at bytes, old.sized files tells) in
          let passed = c.pass-passed.ensures.passed bytes at left (part_self c.count_of-count.result c.deref.result.now (drop at bytes) read) in
          subst (λ n. Passes bytes 8 (at + c.pass-passed.result.size) n) (sym c.greater-end.ensures)
          (passes_more bytes 8 at (at + c.pass-passed.result.size) c.loop-at.end c.pass-passed.result.end (old.passed files tells) passed);
      same = c.in_ok-read_part.ensures.same ∙ old.same;
      faults = c.in_ok-read_part.ensures.cause ∙ old.faults;
    }

pub returns-clause-end : goal.returns-clause-end
returns-clause-end g c files tells =
    let old = c.loop-at.invariant in
    let bytes = segment_bytes files c.args.segment in
    passes_end bytes 8 c.loop-at.at c.loop-at.end (old.passed files tells)
    (none_left (drop c.loop-at.at bytes) (omega (arith, length-drop c.loop-at.at bytes, old.sized files tells)))
