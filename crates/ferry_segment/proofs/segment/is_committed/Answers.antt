use Rattle.std.proofs.Common.{false, refl, sym, ◌∙◌, subst}
use Rattle.ferry_segment.specs.Entry.{entry_view}
use Rattle.ferry_segment.proofs.SegmentLemmas.{Scanned, scanned_none, scanned_more, scanned_broken, scanned_data, scanned_whole, answers_no, magic_found}
use Rattle.ferry_segment.proofs.SegmentLemmas.{magic_missed, committed_magic}
use Rattle.ferry_segment.proofs.segment.is_committed.Goals.{else-closed-via-then-closed+else-not-commits, else-closed-via-else-closed}
use Rattle.ferry_segment.proofs.segment.is_committed.Goals as goal

pub returns-then-not-starts_with : goal.returns-then-not-starts_with
returns-then-not-starts_with c =
    answers_no false refl (λ h. magic_missed c.args.bytes.now (sym c.starts_with.ensures.value ∙ c.if-not-starts_with.true) (committed_magic _ h))

pub loop-at-init : goal.loop-at-init
loop-at-init c = scanned_none c.args.bytes.now (magic_found c.args.bytes.now (sym c.starts_with.ensures.value ∙ c.if-not-starts_with.false))

pub returns-in_default : goal.returns-in_default
returns-in_default c =
    answers_no false refl
    (scanned_broken c.args.bytes.now c.loop-at.at c.loop-at.closed c.in_default.field-0 c.loop-at.invariant c.loop-at-test.true c.in_default.ensures.fault)

pub returns-then-not-commits : goal.returns-then-not-commits
returns-then-not-commits c =
    answers_no false refl (scanned_data c.args.bytes.now c.loop-at.at c.in-Ok.end (entry_view c.in-Ok.entry)
    (subst (Scanned c.args.bytes.now c.loop-at.at) c.if-closed.true c.loop-at.invariant) c.in-Ok.ensures.entry (sym c.is_commit-commits.ensures
    ∙ c.if-not-commits.true))

pub loop-at-preserved : goal.loop-at-preserved
loop-at-preserved c =
    subst (Scanned c.args.bytes.now c.in-Ok.end) (sym c.is_commit-commits.ensures)
    (scanned_more c.args.bytes.now c.loop-at.at c.in-Ok.end c.loop-at.closed (entry_view c.in-Ok.entry) c.loop-at.invariant c.in-Ok.ensures.entry
    (λ h. elim c.else-closed.branch [
      | else-closed-via-then-closed+else-not-commits w ↦ sym c.is_commit-commits.ensures
          ∙ w.if-not-commits.false
      | else-closed-via-else-closed w ↦ (let closed = w.if-closed.false in cc)
    ]))

pub returns : goal.returns
returns c = scanned_whole c.args.bytes.now c.loop-at.at c.loop-at.closed c.loop-at.invariant c.loop-at-test.false
