use Rattle.std.proofs.Common.{rules, ◌<◌, ◌^◌, length, arith}
use Rattle.ferry_compact.proofs.ReadingLemmas.{begins_there, err_matches, place_fits, tells_on}
use Rattle.ferry_compact.proofs.StaysLemmas.{noted_all, noted_more, noted_none}
use Rattle.ferry_compact.specs.Reading.{IsOutside}
use Rattle.ferry_compact.specs.Stays.{TakesNotes}
use Rattle.ferry_disk.specs.Files.{segment_bytes}
use Rattle.ferry_log.specs.Log.{located}
use Rattle.ferry_compact.proofs.stays.note_segment.Goals as goal

pub loop-at-init : goal.loop-at-init
loop-at-init g c = record {
  noted = λ files tells entries has.
      noted_none c.args.log.now c.args.among c.args.extent.now.segment (segment_bytes files c.args.extent.now.segment) entries c.args.stays.now.entries
      has.split;
  same = search rules;
  faults = search rules;
}

pub returns-in_err-head-clause-noted : goal.returns-in_err-head-clause-noted
returns-in_err-head-clause-noted g c files tells entries has =
    let old = c.loop-at.invariant in
    let extent = c.args.extent.now in
    let bytes = segment_bytes files extent.segment in
    let read = (old.noted files tells entries has).read in
    let lt = c.loop-at-test.true in
    let sized = has.sized in
    let within : c.loop-at.at < length bytes = omega (arith, lt, sized) in
    let there = begins_there bytes c.loop-at.at _ entries read has.split within in
    let now = tells_on (g.D.Shelf.told c.args.depot.now) (g.D.Shelf.told c.loop-at.depot) files old.same tells in
    err_matches c.from_residual.result c.in_err-head.field-0.0
    (λ x. TakesNotes c.args.log.now c.args.among (located extent.segment 8 entries) c.args.stays.now.entries c.loop-at.stays.entries) IsOutside
    c.from_residual.ensures.1
    (c.in_err-head.ensures.head files now (record { entry = there.0; begins = there.1; sized = has.sized }))

pub returns-in_err-at-clause-noted : goal.returns-in_err-at-clause-noted
returns-in_err-at-clause-noted g c files tells entries has =
    let old = c.loop-at.invariant in
    let extent = c.args.extent.now in
    let bytes = segment_bytes files extent.segment in
    let now = tells_on (g.D.Shelf.told c.args.depot.now) (g.D.Shelf.told c.loop-at.depot) files old.same tells in
    let read = (old.noted files tells entries has).read in
    let lt = c.loop-at-test.true in
    let sized = has.sized in
    let there = begins_there bytes c.loop-at.at _ entries read has.split (omega (arith, lt, sized)) in
    let head = c.in_ok-head.ensures.head files now (record { entry = there.0; begins = there.1; sized = sized }) in
    let small : length bytes < 2 ^ 64 = omega (arith, sized) in
    place_fits bytes c.loop-at.at c.in_ok-head.head _ head small c.in_err-at.ensures.refused.1

pub loop-at-preserved : goal.loop-at-preserved
loop-at-preserved g c =
    let old = c.loop-at.invariant in
    let extent = c.args.extent.now in
    record {
      noted = λ files tells entries has.
          let bytes = segment_bytes files extent.segment in
          let now = tells_on (g.D.Shelf.told c.args.depot.now) (g.D.Shelf.told c.loop-at.depot) files old.same tells in
          let read = (old.noted files tells entries has).read in
          let lt = c.loop-at-test.true in
          let sized = has.sized in
          let there = begins_there bytes c.loop-at.at _ entries read has.split (omega (arith, lt, sized)) in
          let head = c.in_ok-head.ensures.head files now (record { entry = there.0; begins = there.1; sized = sized }) in
          noted_more c.args.log.now c.args.among extent.segment bytes c.loop-at.at c.in_ok-at.at c.in_ok-head.head head.0 c.args.stays.now.entries
          c.loop-at.stays.entries c.note_head.new.stays.entries (old.noted files tells entries has) head.1 head.2 c.in_ok-at.ensures.place.0
          (c.in_ok-note_head.ensures.noted c.loop-at.at head.0 head.2);
      same = search rules;
      faults = search rules;
    }

pub returns-clause-noted : goal.returns-clause-noted
returns-clause-noted g c files tells entries has =
    let old = c.loop-at.invariant in
    let extent = c.args.extent.now in
    noted_all c.args.log.now c.args.among extent.segment (segment_bytes files extent.segment) c.loop-at.at extent.size entries c.args.stays.now.entries
    c.loop-at.stays.entries (old.noted files tells entries has) has.split has.sized c.loop-at-test.false
