use Rattle.std.proofs.Common.{◌∙◌, ◌-◌, length, take, drop, sym, ap, arith}
use Rattle.std.proofs.lemmas.List.{length-take-le}
use Rattle.ferry_segment.specs.Entry.{first_fault}
use Rattle.ferry_segment.proofs.EntryLemmas.{no_spelling, entry_only, first_fault-spelling}
use Rattle.ferry_segment.proofs.HeadLemmas.{rest_length, rest_front, rest_sum, entry_read, head_put}
use Rattle.ferry_segment.proofs.entry.read_entry.Goals as goal

pub returns-in_err-stated-clause-only : goal.returns-in_err-stated-clause-only
returns-in_err-stated-clause-only c entry rest fits same =
    absurd (no_spelling _ _
    (c.in_err-stated.ensures.stated (drop c.args.at c.args.bytes.now) (rest_length c.args.bytes.now c.args.at)
    (rest_front c.args.bytes.now c.args.at)) entry rest fits same)

pub returns-in_err-head-clause-only : goal.returns-in_err-head-clause-only
returns-in_err-head-clause-only c entry rest fits same =
    let broken = c.in_err-head.ensures.decided c.args.bytes.now c.args.at c.requires
    (c.in_ok-stated.ensures.stated (drop c.args.at c.args.bytes.now) (rest_length c.args.bytes.now c.args.at) (rest_front c.args.bytes.now c.args.at))
    (rest_sum c.args.bytes.now c.args.at c.in_ok-stated.stated.head.size _ c.crc32.ensures) in
    absurd (no_spelling _ _ broken entry rest fits same)

pub entry_of-requires : goal.entry_of-requires
entry_of-requires c tag =
    let stated =
    c.in_ok-stated.ensures.stated (drop c.args.at c.args.bytes.now) (rest_length c.args.bytes.now c.args.at) (rest_front c.args.bytes.now c.args.at) in
    let found = c.in_ok-head.ensures.decided c.args.bytes.now c.args.at c.requires
    (c.in_ok-stated.ensures.stated (drop c.args.at c.args.bytes.now) (rest_length c.args.bytes.now c.args.at) (rest_front c.args.bytes.now c.args.at))
    (rest_sum c.args.bytes.now c.args.at c.in_ok-stated.stated.head.size _ c.crc32.ensures) in
    let same = ap (λ h. h.size) c.in_ok-head.ensures.same in
    let own = ap (λ h. h.size) found.2 in
    let room = head_put found.0 found.1.fits (sym (ap (λ h. h.tag) found.2) ∙ tag) in
    let left = rest_length c.args.bytes.now c.args.at in
    let whole =
    length-take-le c.in_ok-stated.stated.head.size (take (length c.args.bytes.now - c.args.at) (drop c.args.at c.args.bytes.now))
    (omega (arith, stated.within)) in
    omega arith

pub returns-clause-entry : goal.returns-clause-entry
returns-clause-entry c =
    let found = c.in_ok-head.ensures.decided c.args.bytes.now c.args.at c.requires
    (c.in_ok-stated.ensures.stated (drop c.args.at c.args.bytes.now) (rest_length c.args.bytes.now c.args.at) (rest_front c.args.bytes.now c.args.at))
    (rest_sum c.args.bytes.now c.args.at c.in_ok-stated.stated.head.size _ c.crc32.ensures) in
    entry_read c.args.bytes.now c.args.at c.in_ok-stated.stated.head.size c.in_ok-head.head _ found
    (ap (λ h. h.size) c.in_ok-head.ensures.same) c.entry_of.ensures

pub returns-clause-only : goal.returns-clause-only
returns-clause-only c entry rest fits same =
    let found = c.in_ok-head.ensures.decided c.args.bytes.now c.args.at c.requires
    (c.in_ok-stated.ensures.stated (drop c.args.at c.args.bytes.now) (rest_length c.args.bytes.now c.args.at) (rest_front c.args.bytes.now c.args.at))
    (rest_sum c.args.bytes.now c.args.at c.in_ok-stated.stated.head.size _ c.crc32.ensures) in
    let here =
    entry_read c.args.bytes.now c.args.at c.in_ok-stated.stated.head.size c.in_ok-head.head _ found
    (ap (λ h. h.size) c.in_ok-head.ensures.same) c.entry_of.ensures in
    entry_only c.args.bytes.now c.args.at _ _ here entry rest fits same

pub returns-clause-fault : goal.returns-clause-fault
returns-clause-fault c =
    let found = c.in_ok-head.ensures.decided c.args.bytes.now c.args.at c.requires
    (c.in_ok-stated.ensures.stated (drop c.args.at c.args.bytes.now) (rest_length c.args.bytes.now c.args.at) (rest_front c.args.bytes.now c.args.at))
    (rest_sum c.args.bytes.now c.args.at c.in_ok-stated.stated.head.size _ c.crc32.ensures) in
    ap first_fault found.1.spelled ∙ first_fault-spelling found.0 _ found.1.fits
