use Rattle.std.proofs.Common.{◌≡◌, ◌∙◌, ◌+◌, sym, ap, subst, arith}
use Rattle.ferry_segment.specs.Entry.{IsEntryAt, size_of}
use Rattle.ferry_segment.proofs.HeadLemmas.{head_size}
use Rattle.ferry_disk.specs.Files.{segment_bytes}
use Rattle.ferry_log.proofs.OpeningLemmas.{head_on, taken_more}
use Rattle.ferry_log.proofs.WindowLemmas.{tells_on, window_on, window_back}
use Rattle.ferry_log.proofs.opening.take_entries.Goals as goal

pub take_entry-requires-clause-place : goal.take_entry-requires-clause-place
take_entry-requires-clause-place g c =
    let old = c.loop-at.invariant in
    let within = c.in_ok-head.ensures.within in
    omega (arith, within.1, old.segment.1, old.size)

pub loop-at-preserved : goal.loop-at-preserved
loop-at-preserved g c =
    let old = c.loop-at.invariant in
    let read_of = c.in_ok-head.ensures in
    record {
      within = omega (arith, read_of.within.1, old.segment.1, old.size);
      size = old.size;
      own = old.own;
      segment = (read_of.segment.0 ∙ old.segment.0, read_of.segment.1 ∙ old.segment.1);
      taken = λ files tells is has.
          let bytes = segment_bytes files c.args.window.now.segment in
          let before = old.taken files tells is has in
          let read = read_of.read files (tells_on (g.S.Shelf.told c.args.shelf.now) (g.S.Shelf.told c.loop-at.shelf) files old.same tells)
          (window_on files c.args.window.now c.loop-at.window c.loop-at.window old.segment before.1) in
          let here = head_on files c.args.window.now c.loop-at.window c.loop-at.at c.in_ok-head.head old.segment read.0 in
          let sizes : size_of here.0 ≡ c.in_ok-head.head.size = sym (head_size here.0) ∙ ap (λ h. h.size) (sym here.2) in
          let end : c.loop-at.at + size_of here.0 ≡ c.loop-at.at + c.from-at.result = ap (λ n. c.loop-at.at + n) (sizes ∙ sym c.from-at.ensures) in
          let entry = subst (IsEntryAt bytes c.loop-at.at here.0) end here.1 in
          let step = c.in_ok-take_entry.ensures.taken here.0 here.1.fits here.2 in (
            taken_more c.args.window.now.segment bytes c.loop-at.at
                (c.loop-at.at + c.from-at.result) here.0 c.args.live.now.entries c.loop-at.live.entries c.take_entry.new.live.entries before.0 entry step,
            window_back files c.args.window.now c.loop-at.window c.entry_head.new.window old.segment read.1,
          );
      same = read_of.same ∙ old.same;
      faults = read_of.cause ∙ old.faults;
    }
