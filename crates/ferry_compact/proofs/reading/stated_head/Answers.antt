use Rattle.std.proofs.Common.{◌≡◌, drop, Some, arith}
use Rattle.ferry_compact.proofs.ReadingLemmas.{begins_right, front_sizes, ok_by, right_stated}
use Rattle.ferry_segment.specs.Entry.{first_fault}
use Rattle.ferry_segment.specs.Head.{HasHead}
use Rattle.ferry_segment.specs.declared.entry.EntryFault.{EntryFault}
use Rattle.ferry_compact.proofs.reading.stated_head.Goals as goal

pub returns-in_err-stated : goal.returns-in_err-stated
returns-in_err-stated c = record {
  head = λ bytes at entry begins size is.
      let front = front_sizes bytes c.args.front.now at c.args.left size is in
      absurd (begins_right bytes at entry c.in_err-stated.field-0.0 begins (c.in_err-stated.ensures.stated (drop at bytes) front.0 front.2));
}

pub returns : goal.returns
returns c = record {
  head = λ bytes at entry begins size is.
      let front = front_sizes bytes c.args.front.now at c.args.left size is in
      let states = c.in_ok-stated.ensures.stated (drop at bytes) front.0 front.2 in
      ok_by c.check.result (HasHead bytes at) (λ (fault : EntryFault). first_fault (drop at bytes) ≡ Some fault)
      (c.check.ensures.decided bytes at (omega (arith, size)) states (right_stated bytes at entry c.in_ok-stated.stated begins states))
      (λ fault broken. begins_right bytes at entry fault begins broken);
}
