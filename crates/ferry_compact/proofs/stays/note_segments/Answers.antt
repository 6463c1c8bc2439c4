use Rattle.std.proofs.Common.{rules, ◌+◌, get_or, drop}
use Rattle.std.proofs.lemmas.List.{drop_more}
use Rattle.ferry_compact.proofs.ReadingLemmas.{err_matches, first_covered, tells_on}
use Rattle.ferry_compact.proofs.StaysLemmas.{front_more, front_none}
use Rattle.ferry_compact.specs.Reading.{IsOutside}
use Rattle.ferry_compact.specs.Stays.{TakesNotes, entries_of}
use Rattle.ferry_log.specs.declared.place.Extent.{Extent}
use Rattle.ferry_compact.proofs.stays.note_segments.Goals as goal

pub loop-extent-init : goal.loop-extent-init
loop-extent-init g c = record {
  noted = λ files tells entries covers up.
      front_none c.args.log.now c.args.chosen.now c.args.among files c.args.extents.now entries c.args.stays.now.entries covers;
  same = search rules;
  faults = search rules;
}

pub returns-in_err-note_where-clause-noted : goal.returns-in_err-note_where-clause-noted
returns-in_err-note_where-clause-noted g c files tells entries covers up =
    let old = c.loop-extent.invariant in
    let i = c.loop-extent.extent-index in
    let d : Extent = record { segment = 0; size = 0; live = 0 } in
    let front = old.noted files tells entries covers up in
    let first = first_covered files (drop i c.args.extents.now) (drop (i + 1) c.args.extents.now) (get_or c.args.extents.now i d) front.rest
    (drop_more c.args.extents.now i d c.loop-extent-test.true) front.left in
    let now = tells_on (g.D.Shelf.told c.args.depot.now) (g.D.Shelf.told c.loop-extent.depot) files old.same tells in
    err_matches c.from_residual.result c.in_err-note_where.field-0.0
    (λ x. TakesNotes c.args.log.now c.args.among (entries_of c.args.chosen.now c.args.among entries) c.args.stays.now.entries c.note_where.new.stays.entries)
    IsOutside c.from_residual.ensures.1 (c.in_err-note_where.ensures.noted files now first.0 first.2 up)

pub loop-extent-preserved : goal.loop-extent-preserved
loop-extent-preserved g c =
    let old = c.loop-extent.invariant in
    let i = c.loop-extent.extent-index in
    let d : Extent = record { segment = 0; size = 0; live = 0 } in
    record {
      noted = λ files tells entries covers up.
          let now = tells_on (g.D.Shelf.told c.args.depot.now) (g.D.Shelf.told c.loop-extent.depot) files old.same tells in
          front_more c.args.log.now c.args.chosen.now c.args.among files (drop i c.args.extents.now) (drop (i + 1) c.args.extents.now)
          (get_or c.args.extents.now i d) entries c.args.stays.now.entries c.loop-extent.stays.entries c.note_where.new.stays.entries
          (drop_more c.args.extents.now i d c.loop-extent-test.true) (old.noted files tells entries covers up)
          (λ es has. c.in_ok-note_where.ensures.noted files now es has up);
      same = search rules;
      faults = search rules;
    }
