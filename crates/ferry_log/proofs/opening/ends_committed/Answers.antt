use Rattle.std.proofs.Common.{◌≡◌, ◌∙◌, ◌+◌, false, eqb, refl, sym, ap, subst, inl, inr, arith}
use Rattle.std.proofs.lemmas.Bool.{ne_eqb, eq-eqb}
use Rattle.ferry_segment.specs.Entry.{IsEntryAt, size_of}
use Rattle.ferry_segment.specs.Segment.{commits}
use Rattle.ferry_segment.proofs.HeadLemmas.{head_size}
use Rattle.ferry_segment.proofs.SegmentLemmas.{Scanned, scanned_none, scanned_more, scanned_broken, scanned_data, scanned_whole, answers_no}
use Rattle.ferry_disk.specs.Files.{segment_bytes}
use Rattle.ferry_log.proofs.OpeningLemmas.{broken_on, broken_fault, head_on, commits_tag}
use Rattle.ferry_log.proofs.WindowLemmas.{tells_on, window_on, window_back}
use Rattle.ferry_log.proofs.opening.ends_committed.Goals as goal

pub loop-at-init : goal.loop-at-init
loop-at-init g c = record {
  within = c.requires;
  size = refl;
  segment = (refl, refl);
  scanned = λ files tells is has. (scanned_none (segment_bytes files c.args.window.now.segment) has, is);
  same = refl;
  faults = refl;
}

pub returns-in-Err-Damaged-clause-committed : goal.returns-in-Err-Damaged-clause-committed
returns-in-Err-Damaged-clause-committed g c files tells is has =
    let old = c.loop-at.invariant in
    let bytes = segment_bytes files c.args.window.now.segment in
    let before = old.scanned files tells is has in
    let read = c.in-Err-Damaged.ensures.read files (tells_on (g.S.Shelf.told c.args.shelf.now) (g.S.Shelf.told c.loop-at.shelf) files old.same tells)
    (window_on files c.args.window.now c.loop-at.window c.loop-at.window old.segment before.1) in
    let here = broken_on files c.args.window.now c.loop-at.window c.loop-at.at c.in-Err-Damaged.field-0 old.segment read in
    let broken =
    broken_fault bytes c.loop-at.at c.in-Err-Damaged.field-0 c.in-Err-Damaged.field-0-0 c.in-Err-Damaged.field-0-1 c.in-Err-Damaged.field-0-is here in
    answers_no false refl (scanned_broken bytes c.loop-at.at c.loop-at.closed broken.0 before.0 (omega (arith, is.sized, old.size)) broken.1)

pub returns-then-not-commits-clause-committed : goal.returns-then-not-commits-clause-committed
returns-then-not-commits-clause-committed g c files tells is has =
    let old = c.loop-at.invariant in
    let bytes = segment_bytes files c.args.window.now.segment in
    let before = old.scanned files tells is has in
    let read = c.in-Ok.ensures.read files (tells_on (g.S.Shelf.told c.args.shelf.now) (g.S.Shelf.told c.loop-at.shelf) files old.same tells)
    (window_on files c.args.window.now c.loop-at.window c.loop-at.window old.segment before.1) in
    let here = head_on files c.args.window.now c.loop-at.window c.loop-at.at c.in-Ok.head old.segment read.0 in
    let other : commits here.0 ≡ false = commits_tag here.0 ∙ (ap (λ h. eqb h.tag 2) (sym here.2) ∙ ne_eqb c.in-Ok.head.tag 2 c.if-not-commits.true) in
    answers_no false refl
    (scanned_data bytes c.loop-at.at (c.loop-at.at + size_of here.0) here.0 (subst (Scanned bytes c.loop-at.at) c.if-closed.true before.0) here.1 other)

pub loop-at-preserved : goal.loop-at-preserved
loop-at-preserved g c =
    let old = c.loop-at.invariant in
    let read_of = c.in-Ok.ensures in
    record {
      within = omega (arith, read_of.within.1, old.segment.1, old.size);
      size = old.size;
      segment = (read_of.segment.0 ∙ old.segment.0, read_of.segment.1 ∙ old.segment.1);
      scanned = λ files tells is has.
          let bytes = segment_bytes files c.args.window.now.segment in
          let before = old.scanned files tells is has in
          let read = read_of.read files (tells_on (g.S.Shelf.told c.args.shelf.now) (g.S.Shelf.told c.loop-at.shelf) files old.same tells)
          (window_on files c.args.window.now c.loop-at.window c.loop-at.window old.segment before.1) in
          let here = head_on files c.args.window.now c.loop-at.window c.loop-at.at c.in-Ok.head old.segment read.0 in
          let end : c.loop-at.at + size_of here.0 ≡ c.loop-at.at + c.from-at.result =
          ap (λ n. c.loop-at.at + n) (sym (head_size here.0) ∙ (ap (λ h. h.size) (sym here.2) ∙ sym c.from-at.ensures)) in
          let entry = subst (IsEntryAt bytes c.loop-at.at here.0) end here.1 in
          let same : commits here.0 ≡ eqb c.in-Ok.head.tag 2 = commits_tag here.0 ∙ ap (λ h. eqb h.tag 2) (sym here.2) in (
            subst (Scanned bytes (c.loop-at.at + c.from-at.result)) same
                (scanned_more bytes c.loop-at.at (c.loop-at.at + c.from-at.result) c.loop-at.closed here.0 before.0 entry
                (λ closed. elim c.else-closed.either [
                  | inl both ↦ same
                      ∙ eq-eqb c.in-Ok.head.tag 2 both.1
                  | inr apart ↦ (let none : ⊥ = cc in absurd none)
                ])),
            window_back files c.args.window.now c.loop-at.window c.entry_head.new.window old.segment read.1,
          );
      same = read_of.same ∙ old.same;
      faults = read_of.cause ∙ old.faults;
    }

pub returns-clause-committed : goal.returns-clause-committed
returns-clause-committed g c files tells is has =
    let old = c.loop-at.invariant in
    let before = old.scanned files tells is has in
    scanned_whole (segment_bytes files c.args.window.now.segment) c.loop-at.at c.loop-at.closed before.0 (omega (arith, is.sized, old.size))
